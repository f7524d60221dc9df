-- A part of numbers, one number further.
use Rattle.std.proofs.Common.{◌≡◌, ℕ, Result, Bool, true, false, List, [], ◌∷◌, ◌++◌, Ok, Err, refl, sym, ap, subst, ◌∙◌, append_assoc}
use Rattle.std.specs.Prelude.{◌&&◌, IsTrue, IfErr}
use Rattle.std.specs.List.{list_all}
use Rattle.lan_wire.specs.Reading.{varint_at}
use Rattle.lan_wire.specs.Readers.{AreNumbers}
use Rattle.lan_wire.specs.Messages.{is_int32}
use Rattle.lan_wire.proofs.FrontVarint.{IsBytes, IsBytes-back}
use Rattle.lan_wire.proofs.FrontItem.{number_takes}
use Rattle.lan_wire.proofs.NumberLaws.{numbers_push}

-- the numbers so far, and whether all of them fit
abbrev pub Judged : List ℕ → List ℕ → Bool → Type 0
Judged bytes rest fit = (front : List ℕ) × (ns : List ℕ) × (bytes ≡ front ++ rest) × AreNumbers front ns × (fit ≡ list_all is_int32 ns)

pub judged_none : (bytes : List ℕ) → Judged bytes bytes true
judged_none bytes = ([], [], refl, refl, refl)

and_true : (b : Bool) → (b && true) ≡ b
and_true true = refl
and_true false = refl

and_assoc : (a b c : Bool) → ((a && b) && c) ≡ (a && (b && c))
and_assoc true b c = refl
and_assoc false b c = refl

all_push : (ns : List ℕ) (n : ℕ) → list_all is_int32 (ns ++ n ∷ []) ≡ (list_all is_int32 ns && is_int32 n)
all_push [] n = and_true (is_int32 n)
all_push (m ∷ ms) n = ap (λ (b : Bool). is_int32 m && b) (all_push ms n) ∙ sym (and_assoc (is_int32 m) (list_all is_int32 ms) (is_int32 n))

pub judged_more : (bytes rest after : List ℕ) (n : ℕ) (fit new : Bool) → IsBytes bytes → Judged bytes rest fit → varint_at rest ≡ Ok (n, after) → new ≡ (fit && is_int32 n) → Judged bytes after new
judged_more bytes rest after n fit new fits j e both =
    let t = number_takes rest n after (IsBytes-back j.0 rest (subst IsBytes j.2 fits)) e in (
      j.0 ++ t.front,
      j.1 ++ n ∷ [],
      j.2 ∙ ap (λ (r : List ℕ). j.0 ++ r) t.parts ∙ sym (append_assoc j.0 t.front after),
      numbers_push j.0 t.front j.1 n j.3 t.spelled,
      both ∙ ap (λ (b : Bool). b && is_int32 n) j.4 ∙ sym (all_push j.1 n),
    )

pub judged_then : (fit b new : Bool) → fit ≡ true → new ≡ b → new ≡ (fit && b)
judged_then true b new e is = is
judged_then false b new e is = absurd cc

pub judged_else : (fit b : Bool) → fit ≡ false → fit ≡ (fit && b)
judged_else true b e = absurd cc
judged_else false b e = refl

pub if_err : {A E : Type 0} {P Q : E → Type 0} (r : Result A E) → ((e : E) → P e → Q e) → IfErr r P → IfErr r Q
if_err (Ok x) f h = h
if_err (Err e) f h = f e h

pub one_fits : (n : ℕ) → is_int32 n ≡ true → IsTrue (list_all is_int32 (n ∷ []))
one_fits n e = rw e refl

pub one_fails : (n : ℕ) → is_int32 n ≡ false → list_all is_int32 (n ∷ []) ≡ false
one_fails n e = rw e refl
