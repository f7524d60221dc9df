-- The path of a data file's number may stand in a manifest.
use Rattle.std.proofs.Common.{◌≡◌, refl, sym, ◌∙◌, ap, subst, ℕ, zero, suc, ◌+◌, ◌-◌, ◌^◌, ◌<◌, ◌≤◌, List, ◌++◌, length, drop, get_or, arith, length-append, true}
use Rattle.std.proofs.Math.Seq.{drop-append-add}
use Rattle.std.specs.Prelude.{All, codes}
use Rattle.std.specs.Str.Parse.{AllDigits}
use Rattle.std.proofs.lemmas.Bool.Decides.{nat_tests}
use Rattle.std.proofs.lemmas.List.{get_or_append_left, get_or_default}
use Rattle.std.proofs.lemmas.List.Elements.{All-append}
use Rattle.std.proofs.lemmas.Str.Parse.{digit_at}
use Rattle.lan_manifest.specs.Paths.{IsPath, is_path_byte}
use Rattle.lan_fresh.specs.Fresh.{file_path}
use Rattle.lan_fresh.proofs.Paths.{digits_in, path_is, digits_are, length_in}

digit_is : (b : ℕ) → 48 ≤ b → b ≤ 57 → is_path_byte b ≡ true
digit_is b low high = grind (arith, nat_tests)

ending : All (λ b. is_path_byte b ≡ true) (codes ".lance")
ending zero d below = refl
ending (suc zero) d below = refl
ending (suc (suc zero)) d below = refl
ending (suc (suc (suc zero))) d below = refl
ending (suc (suc (suc (suc zero)))) d below = refl
ending (suc (suc (suc (suc (suc zero))))) d below = refl
ending (suc (suc (suc (suc (suc (suc k)))))) d below = absurd (omega (arith, below))

digits_may : (ds : List ℕ) → AllDigits 10 ds → All (λ b. is_path_byte b ≡ true) ds
digits_may ds all k d below =
    let digit = digit_at ds k all below in
    rw (get_or_default ds k d 0 below) (digit_is (get_or ds k 0) (omega (arith, digit)) (omega (arith, digit)))

-- digits, and then the ending
path_of : (ds : List ℕ) → AllDigits 10 ds → length ds ≡ 20 → IsPath (ds ++ codes ".lance")
path_of ds all size =
    let long : length (ds ++ codes ".lance") ≡ 26 = omega (arith, size, length-append ds (codes ".lance")) in
    let first = digit_at ds 0 all (omega (arith, size)) in
    let place : length (ds ++ codes ".lance") - 4 ≡ length ds + 2 = omega (arith, size, long) in
    let ends : drop (length (ds ++ codes ".lance") - 4) (ds ++ codes ".lance") ≡ codes "ance" = ap (λ k. drop k (ds ++ codes ".lance")) place ∙ drop-append-add ds (codes ".lance") 2 in
    record {
      some = omega (arith, long);
      short = omega (arith, long);
      bytes = All-append (λ b. is_path_byte b ≡ true) ds (codes ".lance") (digits_may ds all) ending;
      first = λ dot. omega (arith, first, get_or_append_left ds (codes ".lance") 0 0 (omega (arith, size)), dot);
      ends = λ same. omega (arith, ap (λ (l : List ℕ). get_or l 1 0) (sym ends ∙ same));
    }

pub path_is_path : (n : ℕ) → n < 2 ^ 53 → IsPath (file_path n)
path_is_path n small = subst IsPath (sym (path_is n)) (path_of (digits_in 20 n) (digits_are n small) (length_in n small))
