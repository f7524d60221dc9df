-- What is appended slot by slot.
use Rattle.std.proofs.Common.{◌≡◌, ◌∙◌, ℕ, suc, ◌+◌, ◌≤◌, Bool, false, cond, List, [], ◌∷◌, ◌++◌, length, map, All, refl, ap, subst, sym, arith, append_assoc, length-append}
use Rattle.std.specs.Prelude.{slice_get, Some}
use Rattle.std.specs.List.{concat}
use Rattle.std.proofs.lemmas.List.{append-nil, map-append}
use Rattle.std.proofs.lemmas.Grind.{flat_map-append}
use Rattle.lan_bytes.specs.Numbers.{low_first}
use Rattle.lan_levels.specs.declared.slot.State.{State}
use Rattle.lan_levels.specs.PlainSlots.{PlainSlot, PlainPiece}
use Rattle.lan_levels.specs.Values.{variable}
use Rattle.lan_levels.specs.ChunkForm.{ChunkForm, buffered, has_defs}
use Rattle.lan_levels.specs.MiniWritten.{carried, values_len, text_bytes, rep_bytes, number_bytes, zero_padded, AreNumbered}
use Rattle.lan_mini.specs.Building.{CanChunk, Numbered, PutDefs, range}
use Rattle.lan_mini.proofs.Ranges.{range_more}
use Rattle.lan_mini.proofs.Totals.{carried_append}

pub carried_more : (f : ChunkForm) (xs : List PlainSlot) (from i : ℕ) (s : PlainSlot) → from ≤ i → slice_get xs i ≡ Some s → carried f (range xs from (i + 1)) ≡ carried f (range xs from i) ++ carried f (s ∷ [])
carried_more f xs from i s le e = ap (carried f) (range_more xs from i s le e) ∙ carried_append f (range xs from i) (s ∷ [])

-- what has grown by a part, where the whole has that part more
pub grown_more : (old out new a p b : List ℕ) → out ≡ old ++ a → new ≡ out ++ p → b ≡ a ++ p → new ≡ old ++ b
grown_more old out new a p b o n e = n ∙ ap (λ (bs : List ℕ). bs ++ p) o ∙ append_assoc old a p ∙ ap (λ (bs : List ℕ). old ++ bs) (sym e)

pub number_last : (ns : List ℕ) (n : ℕ) → number_bytes 2 (ns ++ n ∷ []) ≡ number_bytes 2 ns ++ low_first 2 n
number_last ns n = flat_map-append (low_first 2) ns (n ∷ []) ∙ ap (λ (bs : List ℕ). number_bytes 2 ns ++ bs) (append-nil (low_first 2 n))

pub rep_more : (xs : List PlainSlot) (from i : ℕ) (s : PlainSlot) → from ≤ i → slice_get xs i ≡ Some s → rep_bytes (range xs from (i + 1)) ≡ rep_bytes (range xs from i) ++ low_first 2 s.rep
rep_more xs from i s le e =
    let rep : PlainSlot → ℕ = λ t. t.rep in
    ap rep_bytes (range_more xs from i s le e) ∙ ap (number_bytes 2) (map-append rep (range xs from i) (s ∷ [])) ∙ number_last (map rep (range xs from i)) s.rep

numbered_last : (states : List State) (xs : List PlainSlot) (ds : List ℕ) (s : PlainSlot) (d : ℕ) → AreNumbered states xs ds → slice_get states d ≡ Some s.state → AreNumbered states (xs ++ s ∷ []) (ds ++ d ∷ [])
numbered_last states [] [] s d h e = (e, tt)
numbered_last states [] (n ∷ ds) s d h e = absurd h
numbered_last states (x ∷ xs) [] s d h e = absurd h
numbered_last states (x ∷ xs) (n ∷ ds) s d h e = (h.0, numbered_last states xs ds s d h.1 e)

pub numbered_more : (f : ChunkForm) (xs : List PlainSlot) (from i : ℕ) (s : PlainSlot) (d n : ℕ) (old out new : List ℕ) → from ≤ i → slice_get xs i ≡ Some s → slice_get f.states d ≡ Some s.state → n ≡ d → Numbered f (range xs from i) old out → new ≡ out ++ low_first 2 n
    → Numbered f (range xs from (i + 1)) old new
numbered_more f xs from i s d n old out new le e is same h grown =
    let more : Numbered f (range xs from i ++ s ∷ []) old new = record {
      defs = h.defs ++ d ∷ [];
      numbered = numbered_last f.states (range xs from i) h.defs s d h.numbered is;
      grown = grown_more old out new (number_bytes 2 h.defs) (low_first 2 d) (number_bytes 2 (h.defs ++ d ∷ [])) h.grown (grown ∙ ap (λ (k : ℕ). out ++ low_first 2 k) same) (number_last h.defs d);
    } in
    subst (λ (ys : List PlainSlot). Numbered f ys old new) (sym (range_more xs from i s le e)) more

pub numbered_some : (f : ChunkForm) (xs : List PlainSlot) → All (CanChunk f) xs → (ds : List ℕ) × AreNumbered f.states xs ds
numbered_some f [] h = ([], tt)
numbered_some f (x ∷ xs) h =
    let one : CanChunk f x = h 0 x (omega arith) in
    let later = numbered_some f xs (λ k d lt. h (suc k) d (omega arith)) in
    (one.number ∷ later.0, (one.numbered, later.1))

pub none_put : (f : ChunkForm) (xs : List PlainSlot) (out : List ℕ) → All (CanChunk f) xs → has_defs f ≡ false → PutDefs f xs out out
none_put f xs out h e =
    let some = numbered_some f xs h in
    record {
      defs = some.0;
      numbered = some.1;
      grown = sym (ap (λ (b : Bool). out ++ cond b (zero_padded (number_bytes 2 some.0)) []) e ∙ append-nil out);
    }

pub texts_len : (vs : List PlainPiece) → length (concat (map text_bytes vs)) ≡ values_len (buffered variable) vs
texts_len [] = refl
texts_len (v ∷ vs) = let more = texts_len vs in omega (arith, length-append (text_bytes v) (concat (map text_bytes vs)))
