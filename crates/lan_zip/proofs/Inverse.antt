-- What is written is read.
use Rattle.std.proofs.Common.{◌≡◌, ℕ, zero, suc, ◌+◌, ◌*◌, ◌^◌, ◌<◌, ◌≤◌, Bool, true, false, cond, List, [], ◌∷◌, inl, inr, length, replicate, All, map, refl, ap, subst, sym, ◌∙◌, arith}
use Rattle.std.proofs.lemmas.List.{length-replicate, length-map}
use Rattle.std.proofs.lemmas.Nat.{from_le_bytes-to_le_bytes_2, from_le_bytes-to_le_bytes_4}
use Rattle.std.specs.Int.{w32}
use Rattle.std.specs.List.{concat}
use Rattle.lan_bytes.specs.Numbers.{low_first, number_at}
use Rattle.lan_model.specs.declared.tree.Leaf.{Leaf}
use Rattle.lan_model.specs.Plain.{plain_type}
use Rattle.lan_levels.specs.declared.shape.ValueForm.{ValueForm}
use Rattle.lan_levels.specs.declared.shape.ValueForm.TheVariants as value
use Rattle.lan_levels.specs.declared.slot.State.{State}
use Rattle.lan_levels.specs.declared.slot.State.TheVariants as state
use Rattle.lan_levels.specs.Codes.{layer_code}
use Rattle.lan_levels.specs.PlainSlots.{PlainPiece, PlainSlot, nothing, bit, bytes}
use Rattle.lan_levels.specs.ZipForm.{PlainForm, value_form, kind_of, written_form}
use Rattle.lan_levels.specs.ZipSlots.{is_bare, word_number, spelled, AreRows, IsZip}
use Rattle.lan_levels.specs.ZipSpelling.{ValueIs, SomeValue, BodyIs, SlotSpelled, AreSpelled}
use Rattle.lan_levels.specs.ZipWritten.{CanStand, FitsForm, value_bytes, SlotIs, PartsAre, ArePage}
use Rattle.lan_levels.proofs.ZipSpelling.{bare_true, bare_false, slots_spelled}
use Rattle.lan_zip.proofs.Digits.{Roomy, form_roomy}
use Rattle.lan_zip.proofs.Gathering.{number_below}

number_back : (n : ℕ) → n < 2 ^ 32 → number_at w32 (low_first 4 n) 0 ≡ n
number_back n lt = from_le_bytes-to_le_bytes_4 n lt

-- a present value
here_spelled : (form : ValueForm) (piece : PlainPiece) → FitsForm form state.Here piece → ValueIs form piece (value_bytes form piece)
here_spelled value.Bool nothing h = absurd h
here_spelled value.Bool (bit true) h = (1, refl, refl)
here_spelled value.Bool (bit false) h = (0, refl, refl)
here_spelled value.Bool (bytes bs) h = absurd h
here_spelled (value.Fixed n) nothing h = absurd h
here_spelled (value.Fixed n) (bit b) h = absurd h
here_spelled (value.Fixed n) (bytes bs) h = (h, refl)
here_spelled value.Variable nothing h = absurd h
here_spelled value.Variable (bit b) h = absurd h
here_spelled value.Variable (bytes bs) h = record { size = low_first 4 (length bs); text = bs; whole = refl; four = refl; counts = number_back (length bs) h; is = refl }

-- what stands in place of a value
blank_spelled : (form : ValueForm) → SomeValue form (value_bytes form nothing)
blank_spelled value.Bool = record { piece = bit false; is = (0, refl, refl) }
blank_spelled (value.Fixed n) = record { piece = bytes (replicate n 0); is = (length-replicate n 0, refl) }
blank_spelled value.Variable = record { piece = bytes []; is = record { size = low_first 4 0; text = []; whole = refl; four = refl; counts = number_back 0 (omega arith); is = refl } }

nothing_null : (form : ValueForm) (k : ℕ) (piece : PlainPiece) → FitsForm form (state.Null k) piece → piece ≡ nothing
nothing_null form k nothing h = refl
nothing_null value.Bool k (bit b) h = absurd h
nothing_null (value.Fixed n) k (bit b) h = absurd h
nothing_null value.Variable k (bit b) h = absurd h
nothing_null value.Bool k (bytes b) h = absurd h
nothing_null (value.Fixed n) k (bytes b) h = absurd h
nothing_null value.Variable k (bytes b) h = absurd h

nothing_empty : (form : ValueForm) (k : ℕ) (piece : PlainPiece) → FitsForm form (state.Empty k) piece → piece ≡ nothing
nothing_empty form k nothing h = refl
nothing_empty value.Bool k (bit b) h = absurd h
nothing_empty (value.Fixed n) k (bit b) h = absurd h
nothing_empty value.Variable k (bit b) h = absurd h
nothing_empty value.Bool k (bytes b) h = absurd h
nothing_empty (value.Fixed n) k (bytes b) h = absurd h
nothing_empty value.Variable k (bytes b) h = absurd h

blank_is : (form : ValueForm) (piece : PlainPiece) → piece ≡ nothing → SomeValue form (value_bytes form piece)
blank_is form piece e = subst (λ (p : PlainPiece). SomeValue form (value_bytes form p)) (sym e) (blank_spelled form)

null_spelled : (f : PlainForm) (k : ℕ) (b : Bool) (piece : PlainPiece) → is_bare f.layers (state.Null k) ≡ b → piece ≡ nothing → BodyIs f (state.Null k) piece (cond b [] (value_bytes f.value piece))
null_spelled f k true piece h e = (e, inl (bare_true f.layers (state.Null k) h, refl))
null_spelled f k false piece h e = (e, inr (bare_false f.layers (state.Null k) h, blank_is f.value piece e))

empty_spelled : (f : PlainForm) (k : ℕ) (b : Bool) (piece : PlainPiece) → is_bare f.layers (state.Empty k) ≡ b → piece ≡ nothing → BodyIs f (state.Empty k) piece (cond b [] (value_bytes f.value piece))
empty_spelled f k true piece h e = (e, inl (bare_true f.layers (state.Empty k) h, refl))
empty_spelled f k false piece h e = (e, inr (bare_false f.layers (state.Empty k) h, blank_is f.value piece e))

body_spelled : (f : PlainForm) (s : State) (piece : PlainPiece) → FitsForm f.value s piece → BodyIs f s piece (cond (is_bare f.layers s) [] (value_bytes f.value piece))
body_spelled f state.Here piece h = here_spelled f.value piece h
body_spelled f (state.Null k) piece h = null_spelled f k (is_bare f.layers (state.Null k)) piece refl (nothing_null f.value k piece h)
body_spelled f (state.Empty k) piece h = empty_spelled f k (is_bare f.layers (state.Empty k)) piece refl (nothing_empty f.value k piece h)

word_length : (word n : ℕ) → word ≤ 2 → length (low_first word n) ≡ word
word_length zero n le = refl
word_length (suc zero) n le = refl
word_length (suc (suc zero)) n le = refl
word_length (suc (suc (suc k))) n le = absurd (omega arith)

word_back : (word n : ℕ) → word ≤ 2 → n < 2 ^ (8 * word) → word_number (low_first word n) ≡ n
word_back zero n le lt = omega arith
word_back (suc zero) n le lt = omega arith
word_back (suc (suc zero)) n le lt = from_le_bytes-to_le_bytes_2 n lt
word_back (suc (suc (suc k))) n le lt = absurd (omega arith)

slot_spelled : (f : PlainForm) (s : PlainSlot) (all : List ℕ) → Roomy f → CanStand f s → SlotIs f s all → SlotSpelled f s all
slot_spelled f s all r c h =
    let n = s.rep * 2 ^ f.bits + h.def in
    let lt = number_below f.states h.def (2 ^ f.bits) s.state h.numbered r.below in
    record {
      word = low_first f.word n;
      body = cond (is_bare f.layers s.state) [] (value_bytes f.value s.value);
      whole = h.is;
      sized = word_length f.word n r.word;
      def = h.def;
      small = lt;
      number = word_back f.word n r.word (r.room s.rep h.def c.rep lt);
      numbered = h.numbered;
      within = c.rep;
      is = body_spelled f s.state s.value c.value;
    }

pub parts_spelled : (f : PlainForm) (ss : List PlainSlot) (ps : List (List ℕ)) → Roomy f → All (CanStand f) ss → PartsAre f ss ps → AreSpelled f ss (concat ps)
parts_spelled f [] [] r h a = refl
parts_spelled f [] (p ∷ ps) r h a = absurd a
parts_spelled f (s ∷ ss) [] r h a = absurd a
parts_spelled f (s ∷ ss) (p ∷ ps) r h a =
    let one : CanStand f s = h 0 s (omega arith) in
    let later : All (CanStand f) ss = λ k d lt. h (suc k) d (omega arith) in
    (p, concat ps, refl, slot_spelled f s p r one a.0, parts_spelled f ss ps r later a.1)

pub pages_read : (leaf : Leaf) (slots : List PlainSlot) (content : List ℕ) (more : List (List ℕ)) (rows : ℕ) → length leaf.layers ≤ 16 → All (CanStand (written_form leaf)) slots → AreRows (written_form leaf).lists rows slots
    → ArePage (written_form leaf) slots (content ∷ more) → IsZip (written_form leaf) rows content slots
pages_read leaf slots content more rows few h a p =
    let f = written_form leaf in
    let codes = map layer_code leaf.layers in
    let count : length codes ≤ 16 = omega (arith, length-map leaf.layers layer_code) in
    let r = form_roomy codes leaf.layers (value_form (plain_type leaf.ty) (kind_of (plain_type leaf.ty))) count few in
    let are = p.are in
    let same : content ≡ p.content = cc in
    let is = (slots_spelled f slots (concat p.gathered.parts)).1 (parts_spelled f slots p.gathered.parts r h p.gathered.are) in
    record { are = ap (spelled f (length slots)) (same ∙ p.gathered.whole) ∙ is; rows_are = a }
