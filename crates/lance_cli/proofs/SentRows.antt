-- The lines of rows that go to a sink one after another, by way of lines that wait.
use Rattle.std.proofs.Common.{◌≡◌, refl, sym, ◌∙◌, ap, subst, ℕ, zero, suc, ◌+◌, ◌≤◌, List, [], ◌∷◌, ◌++◌, length, take, arith, append_assoc, length-append}
use Rattle.std.specs.Prelude.{Option, Some, None, Result, Ok, Err, flat_map}
use Rattle.std.proofs.lemmas.Grind.{flat_map-append}
use Rattle.std.proofs.lemmas.List.{append-nil}
use Rattle.lan_model.specs.Plain.{PlainValue}
use Rattle.lan_store.specs.Streams.{and_then_bytes}
use Rattle.lan_store.proofs.LawTerms.{and_then_bytes-twice}
use Rattle.lance_cli.specs.Reports.{GotPart}
use Rattle.lance_cli.specs.Sending.{Sends, Waits, Passes}
use Rattle.lance_cli.specs.declared.fault.Fault.{Fault}
use Rattle.lance_cli.specs.declared.fault.Fault.TheVariants.{WriteFault, Memory}

abbrev pub Row : Type 0
Row = List PlainValue

-- ---- fronts of lists

take_past : {X : Type 0} (xs ys : List X) (k : ℕ) → take (length xs + k) (xs ++ ys) ≡ xs ++ take k ys
take_past [] ys k = let same : 0 + k ≡ k = omega arith in ap (λ n. take n ys) same
take_past (x ∷ xs) ys k =
    let same : length (x ∷ xs) + k ≡ suc (length xs + k) = omega arith in
    ap (λ n. take n (x ∷ (xs ++ ys))) same ∙ ap (λ l. x ∷ l) (take_past xs ys k)

take_within : {X : Type 0} (xs ys : List X) (k : ℕ) → k ≤ length xs → take k (xs ++ ys) ≡ take k xs
take_within [] [] zero within = refl
take_within [] (y ∷ ys) zero within = refl
take_within [] ys (suc k) within = absurd (omega (arith, within))
take_within (x ∷ xs) ys zero within = refl
take_within (x ∷ xs) ys (suc k) within = ap (λ l. x ∷ l) (take_within xs ys k (omega (arith, within)))

-- ---- what a sink got

-- nothing more leaves what was told
pub and_then_bytes-nil : (told : Option (List ℕ)) → told ≡ and_then_bytes told []
and_then_bytes-nil None = refl
and_then_bytes-nil (Some bytes) = ap (λ l. Some l) (sym (append-nil bytes))

-- behind some bytes a front of a text
pub got_behind : (a b : List ℕ) (held mid holds : Option (List ℕ)) → mid ≡ and_then_bytes held a → GotPart b mid holds → GotPart (a ++ b) held holds
got_behind a b held mid holds is (k, within, grew) = (
  length a + k,
  omega (arith, within, length-append a b),
  grew ∙ ap (λ o. and_then_bytes o (take k b)) is ∙ and_then_bytes-twice held a (take k b) ∙ ap (and_then_bytes held) (sym (take_past a b k)),
)

-- a front of a text is one of a longer text
pub got_more : (a b : List ℕ) (held holds : Option (List ℕ)) → GotPart a held holds → GotPart (a ++ b) held holds
got_more a b held holds (k, within, grew) = (k, omega (arith, within, length-append a b), grew ∙ ap (and_then_bytes held) (sym (take_within a b k within)))

-- ---- rows one after another

-- the rows wait behind the others
pub sends_later : (line : Row → List ℕ) (rows pending : List Row) (held : Option (List ℕ)) → Sends line rows pending held held (pending ++ rows)
sends_later line rows pending held = record { sent = []; grew = and_then_bytes-nil held; whole = refl }

-- none more
pub waits_none : (line : Row → List ℕ) (pending : List Row) (held : Option (List ℕ)) (waiting : List ℕ) → waiting ≡ flat_map line pending → Waits line [] pending held held waiting
waits_none line pending held waiting is = record { rest = pending; sends = record { sent = []; grew = and_then_bytes-nil held; whole = sym (append-nil pending) }; lines = is }

-- some rows and then others
pub sends_then : (line : Row → List ℕ) (a b pending middle rest : List Row) (held mid holds : Option (List ℕ)) → Sends line a pending held mid middle → Sends line b middle mid holds rest → Sends line (a ++ b) pending held holds rest
sends_then line a b pending middle rest held mid holds first second = record {
  sent = first.sent ++ second.sent;
  grew =
      second.grew ∙ ap (λ o. and_then_bytes o (flat_map line second.sent)) first.grew ∙ and_then_bytes-twice held (flat_map line first.sent) (flat_map line second.sent)
      ∙ ap (and_then_bytes held) (sym (flat_map-append line first.sent second.sent));
  whole = append_assoc first.sent second.sent rest ∙ ap (λ l. first.sent ++ l) second.whole ∙ sym (append_assoc first.sent middle b) ∙ ap (λ l. l ++ b) first.whole ∙ append_assoc pending a b;
}

-- a front of the lines that waited and of those behind them
pub got_after : (line : Row → List ℕ) (a b pending middle : List Row) (held mid holds : Option (List ℕ)) → Sends line a pending held mid middle → GotPart (flat_map line (middle ++ b)) mid holds → GotPart (flat_map line (pending ++ (a ++ b))) held holds
got_after line a b pending middle held mid holds first got =
    let whole : first.sent ++ (middle ++ b) ≡ pending ++ (a ++ b) = sym (append_assoc first.sent middle b) ∙ ap (λ l. l ++ b) first.whole ∙ append_assoc pending a b in
    subst (λ (l : List Row). GotPart (flat_map line l) held holds) whole
    (subst (λ l. GotPart l held holds) (sym (flat_map-append line first.sent (middle ++ b))) (got_behind (flat_map line first.sent) (flat_map line (middle ++ b)) held mid holds first.grew got))

-- ---- one row more

pub lines_more : (line : Row → List ℕ) (row : Row) (pending : List Row) (before : List ℕ) → before ≡ flat_map line pending → before ++ line row ≡ flat_map line (pending ++ row ∷ [])
lines_more line row pending before is = ap (λ l. l ++ line row) is ∙ ap (λ l. flat_map line pending ++ l) (sym (append-nil (line row))) ∙ sym (flat_map-append line pending (row ∷ []))

-- its line waits behind the others
pub row_waits : (line : Row → List ℕ) (row : Row) (pending : List Row) (held : Option (List ℕ)) (before waiting : List ℕ) → before ≡ flat_map line pending → waiting ≡ before ++ line row → Waits line (row ∷ []) pending held held waiting
row_waits line row pending held before waiting is grew = record { rest = pending ++ row ∷ []; sends = sends_later line (row ∷ []) pending held; lines = grew ∙ lines_more line row pending before is }

-- what was passed on with the row among those that wait
pub passes_row : (line : Row → List ℕ) (row : Row) (pending : List Row) (waiting : List ℕ) (held holds : Option (List ℕ)) (result : Result Unit Fault) → Passes line [] (pending ++ row ∷ []) waiting held holds result → Passes line (row ∷ []) pending waiting held holds result
passes_row line row pending waiting held holds (Ok u) w = record { rest = w.rest; sends = record { sent = w.sends.sent; grew = w.sends.grew; whole = w.sends.whole ∙ append-nil (pending ++ row ∷ []) }; lines = w.lines }
passes_row line row pending waiting held holds (Err WriteFault) got = subst (λ (l : List Row). GotPart (flat_map line l) held holds) (append-nil (pending ++ row ∷ [])) got
passes_row line row pending waiting held holds (Err Memory) (rest, sends) = (rest, record { sent = sends.sent; grew = sends.grew; whole = sends.whole ∙ append-nil (pending ++ row ∷ []) })
passes_row line row pending waiting held holds (Err f) none = absurd none

-- the row's line was passed on behind the others
pub one_more : (line : Row → List ℕ) (row : Row) (rows pending : List Row) (middle waiting : List ℕ) (held mid holds : Option (List ℕ)) → (before : Waits line rows pending held mid middle) → Waits line (row ∷ []) before.rest mid holds waiting → Waits line (rows ++ row ∷ []) pending held holds waiting
one_more line row rows pending middle waiting held mid holds before here = record { rest = here.rest; sends = sends_then line rows (row ∷ []) pending before.rest here.rest held mid holds before.sends here.sends; lines = here.lines }
