-- The bare slots of a struct are those of its members.
use Rattle.std.proofs.Common.{◌≡◌, ℕ, ◌+◌, Bool, List, sym, subst}
use Rattle.lan_model.specs.declared.tree.Field.{Field}
use Rattle.lan_model.specs.declared.tree.Ty.TheVariants as ty
use Rattle.lan_model.specs.Plain.{PlainField, field, struct, plain_field, plain_fields}
use Rattle.lan_levels.specs.PlainSlots.{PlainSlot}
use Rattle.lan_levels.specs.Taken.{TookBare, IsNotBare, TookEachBare, SomeIsNotBare}
use Rattle.lan_levels.proofs.FieldViews.{field-Struct}
use Rattle.lan_levels.proofs.TakenBare.{took_each_bare, some_is_not_bare}

pub took_bare_struct : (f : Field) (members : List Field) (empty : Bool) (below k i : ℕ) (old new : ℕ → List PlainSlot) → f.ty ≡ ty.Struct members
    → TookEachBare (plain_fields members) empty (below + 1) k i old new → TookBare (plain_field f) empty below k i old new
took_bare_struct f members empty below k i old new e h =
    let each = took_each_bare (plain_fields members) f.nullable 0 empty below k i old new h in
    let whole : TookBare (field f.id f.name f.nullable (struct (plain_fields members))) empty below k i old new = record { taken = each.taken; keeps = each.keeps } in
    subst (λ (x : PlainField ℕ). TookBare x empty below k i old new) (sym (field-Struct f members e)) whole

pub not_bare_struct : (f : Field) (members : List Field) (empty : Bool) (below k i : ℕ) (old : ℕ → List PlainSlot) (id : ℕ) → f.ty ≡ ty.Struct members
    → SomeIsNotBare (plain_fields members) empty (below + 1) k i old id → IsNotBare (plain_field f) empty below k i old id
not_bare_struct f members empty below k i old id e h =
    subst (λ (x : PlainField ℕ). IsNotBare x empty below k i old id) (sym (field-Struct f members e))
    (some_is_not_bare (plain_fields members) f.nullable 0 empty below k i old id h)
