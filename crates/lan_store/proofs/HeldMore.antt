-- What is held of more objects.
use Rattle.std.proofs.Common.{◌≡◌, inl, inr, refl, ◌∙◌, ap, ℕ, List, [], ◌∷◌, ◌++◌}
use Rattle.std.specs.Prelude.{Some, None, ◌⊎◌, IsSome, Result, Ok, Err, OnOk}
use Rattle.std.proofs.lemmas.Bool.{cases_Bool}
use Rattle.lan_store.specs.declared.name.Name.{Name}
use Rattle.lan_store.specs.declared.name.Object.{Object}
use Rattle.lan_store.specs.Names.{same_name}
use Rattle.lan_store.specs.Objects.{object}
use Rattle.lan_store.proofs.Held.{same_name_is, same_name_itself}

-- what is held stays held
pub held_more : (objects more : List Object) (name : Name) (bytes : List ℕ) → object objects name ≡ Some bytes → object (objects ++ more) name ≡ Some bytes
unfolding object
held_more [] more name bytes held = absurd (cc held)
held_more (o ∷ os) more name bytes held = elim (cases_Bool (same_name o.name name)) [
  | inl same ↦ rw same (rw same at held)
  | inr other ↦ rw other (held_more os more name bytes (rw other at held))
]

-- what wasn't held is what the later ones have
pub held_behind : (objects more : List Object) (name : Name) → object objects name ≡ None → object (objects ++ more) name ≡ object more name
unfolding object
held_behind [] more name none = refl
held_behind (o ∷ os) more name none = elim (cases_Bool (same_name o.name name)) [
  | inl same ↦ absurd (cc (rw same at none))
  | inr other ↦ rw other (held_behind os more name (rw other at none))
]

pub first_held : (o : Object) (os : List Object) → object (o ∷ os) o.name ≡ Some o.bytes
unfolding object
first_held o os = rw (same_name_itself o.name) refl

pub not_first : (o : Object) (os : List Object) (name : Name) → (o.name ≡ name → ⊥) → object (o ∷ os) name ≡ object os name
unfolding object
not_first o os name other = elim (cases_Bool (same_name o.name name)) [
  | inl same ↦ absurd (other (same_name_is o.name name same))
  | inr is ↦ rw is refl
]

-- what is held with one object more was held, or is that one
pub held_either : (objects : List Object) (o : Object) (name : Name) → IsSome (object (objects ++ o ∷ []) name) → IsSome (object objects name) ⊎ (o.name ≡ name)
unfolding object
held_either [] o name held = elim (cases_Bool (same_name o.name name)) [
  | inl same ↦ inr (same_name_is o.name name same)
  | inr other ↦ absurd (cc (rw other at held))
]
held_either (p ∷ os) o name held = elim (cases_Bool (same_name p.name name)) [
  | inl same ↦ inl (rw same refl)
  | inr other ↦ elim (held_either os o name (rw other at held)) [
    | inl before ↦ inl (rw other before)
    | inr last ↦ inr last
  ]
]

-- what an attempt to add an object of a fresh name leaves of it
pub added_held : {E : Type 0} (old new : List Object) (o : Object) (r : Result Unit E) → object old o.name ≡ None → OnOk r (new ≡ old ++ o ∷ []) → OnOk r (IsSome (object new o.name))
added_held old new o (Ok _) none grew = rw (ap (λ (l : List Object). object l o.name) grew ∙ held_behind old (o ∷ []) o.name none ∙ first_held o []) refl
added_held old new o (Err _) none grew = tt
