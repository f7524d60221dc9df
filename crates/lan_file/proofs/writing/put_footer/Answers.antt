use Rattle.std.proofs.Common.{◌≡◌, ℕ, ◌+◌, ◌*◌, List, ◌++◌, append_assoc}
use Rattle.std.specs.Prelude.{codes}
use Rattle.lan_file.specs.Numbers.{u16_bytes, u32_bytes, u64_bytes}
use Rattle.lan_file.proofs.writing.put_footer.Goals as goal

joined : (o a b c d e f g h : List ℕ) → (((((((o ++ a) ++ b) ++ c) ++ d) ++ e) ++ f) ++ g) ++ h ≡ o ++ (a ++ (b ++ (c ++ (d ++ (e ++ (f ++ (g ++ h)))))))
joined o a b c d e f g h = simp append_assoc

pub returns : goal.returns
returns c =
    let whole = joined c.args.out.now (u64_bytes c.args.columns_at) (u64_bytes c.args.table) (u64_bytes (c.args.table + 16 * c.args.columns)) (u32_bytes 1) (u32_bytes c.args.columns) (u16_bytes 2) (u16_bytes 1) (codes "LANC") in
    cc (c.in_ok-put_u64.ensures, c.in_ok-put_u64-2.ensures, c.in_ok-put_u64-3.ensures, c.in_ok-put_u32.ensures, c.in_ok-put_u32-2.ensures, c.in_ok-put_u16.ensures, c.in_ok-put_u16-2.ensures, c.in_ok-bytes.ensures.ok)
