use Rattle.std.proofs.Common.{◌≡◌, ◌++◌, ◌∷◌, [], drop, length, ap, ◌∙◌}
use Rattle.std.specs.Int.{w64, from_le_bytes}
use Rattle.lan_rows.proofs.PrintingLemmas.{low_first-padded}
use Rattle.lan_rows.proofs.printing.low_first.Goals as goal

pub returns : goal.returns
returns c =
    let rest = drop (length c.args.item.now) (0 ∷ 0 ∷ 0 ∷ 0 ∷ 0 ∷ 0 ∷ 0 ∷ 0 ∷ []) in
    let number : c.from_le_bytes.result ≡ from_le_bytes w64 (c.copy_from_slice.new.self ++ rest) = c.from_le_bytes.ensures in
    number ∙ ap (λ s. from_le_bytes w64 (s ++ rest)) c.copy_from_slice.ensures.after ∙ low_first-padded c.args.item.now c.requires
