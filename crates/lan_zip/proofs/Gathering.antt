-- Slots that are written one after another.
use Rattle.std.proofs.Common.{◌≡◌, ℕ, zero, suc, ◌+◌, ◌-◌, ◌*◌, ◌^◌, ◌<◌, ◌≤◌, ◌↔◌, Bool, true, false, cond, List, [], ◌∷◌, ◌++◌, Some, length, slice_get, refl, ap, ap₂, sym, ◌∙◌, arith, append_assoc, length-append}
use Rattle.std.proofs.lemmas.List.{append-nil}
use Rattle.std.proofs.lemmas.Option.{slice_get_within}
use Rattle.std.proofs.lemmas.Bool.{ltb_from_iff}
use Rattle.std.specs.List.{concat}
use Rattle.lan_bytes.specs.Numbers.{low_first}
use Rattle.lan_levels.specs.PlainSlots.{PlainSlot}
use Rattle.lan_model.specs.declared.tree.Layer.{Layer}
use Rattle.lan_levels.specs.declared.slot.State.{State}
use Rattle.lan_levels.specs.declared.slot.State.TheVariants as state
use Rattle.lan_levels.specs.Codes.{IsBare}
use Rattle.lan_levels.specs.ZipForm.{PlainForm}
use Rattle.lan_levels.specs.ZipSlots.{is_bare}
use Rattle.lan_levels.specs.ZipWritten.{value_bytes, slot_bytes, SlotIs, PartsAre, begins, row_starts, Gathered}
use Rattle.lan_zip.specs.Building.{Appends}
pub use Rattle.lan_levels.proofs.Ranges.{range_more}

concat_last : (ps : List (List ℕ)) (p : List ℕ) → concat (ps ++ p ∷ []) ≡ concat ps ++ p
concat_last [] p = append-nil p
concat_last (q ∷ ps) p = ap (λ (bs : List ℕ). q ++ bs) (concat_last ps p) ∙ sym (append_assoc q (concat ps) p)

parts_last : (f : PlainForm) (ss : List PlainSlot) (ps : List (List ℕ)) (s : PlainSlot) (p : List ℕ) → PartsAre f ss ps → SlotIs f s p → PartsAre f (ss ++ s ∷ []) (ps ++ p ∷ [])
parts_last f [] [] s p h k = (k, tt)
parts_last f [] (q ∷ ps) s p h k = absurd h
parts_last f (t ∷ ss) [] s p h k = absurd h
parts_last f (t ∷ ss) (q ∷ ps) s p h k = (h.0, parts_last f ss ps s p h.1 k)

starts_last : (f : PlainForm) (at : ℕ) (ss : List PlainSlot) (ps : List (List ℕ)) (s : PlainSlot) (p : List ℕ) → PartsAre f ss ps
    → row_starts f.lists at (ss ++ s ∷ []) (ps ++ p ∷ []) ≡ row_starts f.lists at ss ps ++ cond (begins f.lists s) (low_first 8 (at + length (concat ps))) []
starts_last f at [] [] s p h =
    let e : at ≡ at + 0 = omega arith in
    append-nil (cond (begins f.lists s) (low_first 8 at) []) ∙ ap (λ (k : ℕ). cond (begins f.lists s) (low_first 8 k) []) e
starts_last f at [] (q ∷ ps) s p h = absurd h
starts_last f at (t ∷ ss) [] s p h = absurd h
starts_last f at (t ∷ ss) (q ∷ ps) s p h =
    let here = cond (begins f.lists t) (low_first 8 at) [] in
    let e : at + length q + length (concat ps) ≡ at + length (q ++ concat ps) = omega (arith, length-append q (concat ps)) in
    ap (λ (bs : List ℕ). here ++ bs) (starts_last f (at + length q) ss ps s p h.1 ∙ ap (λ (k : ℕ). row_starts f.lists (at + length q) ss ps ++ cond (begins f.lists s) (low_first 8 k) []) e)
    ∙ sym (append_assoc here (row_starts f.lists (at + length q) ss ps) (cond (begins f.lists s) (low_first 8 (at + length (q ++ concat ps))) []))

pub none_gathered : (f : PlainForm) (content starts : List ℕ) → content ≡ [] → starts ≡ [] → Gathered f [] content starts
none_gathered f content starts e h = record { parts = []; are = tt; whole = e; begin_at = h }

pub gathered_more : (f : PlainForm) (ss : List PlainSlot) (s : PlainSlot) (content starts now begun : List ℕ) → Gathered f ss content starts → begun ≡ starts ++ cond (begins f.lists s) (low_first 8 (length content)) [] → Appends f s content now
    → Gathered f (ss ++ s ∷ []) now begun
gathered_more f ss s content starts now begun g e a = record {
  parts = g.parts ++ a.part ∷ [];
  are = parts_last f ss g.parts s a.part g.are a.is;
  whole = a.grown ∙ ap (λ (bs : List ℕ). bs ++ a.part) g.whole ∙ sym (concat_last g.parts a.part);
  begin_at =
      let none : length (concat g.parts) ≡ 0 + length (concat g.parts) = omega arith in
      e
      ∙ ap₂ (λ (bs : List ℕ) (k : ℕ). bs ++ cond (begins f.lists s) (low_first 8 k) []) g.begin_at (ap (length {A = ℕ}) g.whole)
      ∙ ap (λ (k : ℕ). row_starts f.lists 0 ss g.parts ++ cond (begins f.lists s) (low_first 8 k) []) none
      ∙ sym (starts_last f 0 ss g.parts s a.part g.are);
}

pub number_below : (xs : List State) (n m : ℕ) (s : State) → slice_get xs n ≡ Some s → length xs ≤ m → n < m
number_below xs n m s e le = let lt = slice_get_within xs n s e in omega arith

pub bare_is : (layers : List Layer) (s : State) (b : Bool) → (b ≡ true) ↔ IsBare layers s → b ≡ is_bare layers s
bare_is layers state.Here true h = absurd (h.0 refl)
bare_is layers state.Here false h = refl
bare_is layers (state.Null k) b h = ltb_from_iff h
bare_is layers (state.Empty k) b h = ltb_from_iff h

pub slot_appended : (f : PlainForm) (s : PlainSlot) (def n : ℕ) (b : Bool) (old word new : List ℕ) → slice_get f.states def ≡ Some s.state → n ≡ s.rep * 2 ^ f.bits + def → b ≡ is_bare f.layers s.state
    → word ≡ old ++ low_first f.word n → new ≡ word ++ cond b [] (value_bytes f.value s.value) → Appends f s old new
slot_appended f s def n b old word new h e bare w v = record {
  part = slot_bytes f def s;
  is = record { def = def; numbered = h; is = refl };
  grown =
      v
      ∙ ap₂ (λ (bs : List ℕ) (c : Bool). bs ++ cond c [] (value_bytes f.value s.value)) (w ∙ ap (λ (k : ℕ). old ++ low_first f.word k) e) bare
      ∙ append_assoc old (low_first f.word (s.rep * 2 ^ f.bits + def)) (cond (is_bare f.layers s.state) [] (value_bytes f.value s.value));
}
