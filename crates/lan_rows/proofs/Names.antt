-- The names of the fields that were gathered, and of those that are left.
use Rattle.std.proofs.Common.{◌≡◌, refl, sym, ap, ◌∙◌, ℕ, ◌+◌, ◌≤◌, Bool, true, false, List, ◌∷◌, drop, length}
use Rattle.std.specs.Prelude.{cond, ◌||◌, bytes_eq, is_some, Option, Some, None}
use Rattle.std.proofs.lemmas.Bool.Decides.{same_from_decides}
use Rattle.std.proofs.lemmas.Slice.Eq.{bytes_eq-Decides}
use Rattle.lan_model.specs.declared.tree.Field.{Field}
use Rattle.lan_model.specs.Plain.{plain_fields}
use Rattle.lan_rows.specs.Values.{is_name}
use Rattle.lan_rows.proofs.ReadingLemmas.{plain_field-parts, drop_past}

either_way : (p q : List ℕ) → bytes_eq p q ≡ bytes_eq q p
either_way p q = same_from_decides _ _ (bytes_eq-Decides p q) ((λ e. sym ((bytes_eq-Decides q p).0 e)), λ e. (bytes_eq-Decides q p).1 (sym e))

is_name-next : (key : List ℕ) (f : Field) (fs : List Field) → is_name key (plain_fields (f ∷ fs)) ≡ (bytes_eq key f.name || is_name key (plain_fields fs))
is_name-next key f fs = rw (plain_field-parts f) refl

one_more : (here : Bool) (old : Option (Unit {0})) (left : Bool) → (is_some (cond here (Some tt) old) || left) ≡ (is_some old || (here || left))
one_more true None left = refl
one_more true (Some known) left = refl
one_more false old left = refl

-- what was gathered or is left stays the same when the next name is gathered
pub gathered_more : (fs : List Field) (i : ℕ) (f : Field) (key : List ℕ) (old new : Option (Unit {0})) → drop i fs ≡ f ∷ drop (i + 1) fs → new ≡ cond (bytes_eq f.name key) (Some tt) old
    → (is_some new || is_name key (plain_fields (drop (i + 1) fs))) ≡ (is_some old || is_name key (plain_fields (drop i fs)))
gathered_more fs i f key old new cut is =
    let left = is_name key (plain_fields (drop (i + 1) fs)) in
    ap (λ o. is_some o || left) (is ∙ ap (λ here. cond here (Some tt) old) (either_way f.name key)) ∙ one_more (bytes_eq key f.name) old left
    ∙ ap (λ b. is_some old || b) (sym (ap (λ l. is_name key (plain_fields l)) cut ∙ is_name-next key f (drop (i + 1) fs)))

or_none : (b : Bool) → (b || false) ≡ b
or_none true = refl
or_none false = refl

pub gathered_all : (fs : List Field) (i : ℕ) (key : List ℕ) (found : Bool) → length fs ≤ i → (found || is_name key (plain_fields (drop i fs))) ≡ is_name key (plain_fields fs) → found ≡ is_name key (plain_fields fs)
gathered_all fs i key found past said = sym (or_none found) ∙ ap (λ l. found || is_name key (plain_fields l)) (sym (drop_past i fs past)) ∙ said
