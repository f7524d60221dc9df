-- The ids under which files list leaves are those of the fields' leaves.
use Rattle.std.proofs.Common.{◌≡◌, ℕ, ◌+◌, Bool, List, [], ◌∷◌, ◌++◌, map, refl, sym, ◌∙◌}
use Rattle.std.specs.Prelude.{ℤ}
use Rattle.std.proofs.lemmas.List.{map-append}
use Rattle.lan_model.specs.declared.tree.Layer.{Layer}
use Rattle.lan_model.specs.declared.tree.Layer.TheVariants as layer
use Rattle.lan_model.specs.Leaves.{PlainLeaf, leaves_of, leaves_of_members}
use Rattle.lan_model.specs.Plain.{PlainType, primitive, vector, text, bytes, list, struct, PlainField, field, PlainFields, no_fields, one_field}
use Rattle.lan_schema.specs.FieldTree.{signed}
use Rattle.lan_manifest.specs.SchemaLeaves.{leaf_ids, all_leaf_ids}

abbrev id_of : PlainLeaf → ℤ
id_of l = signed l.id

mutual
  pub leaves_listed : (f : PlainField ℕ) (top : ℕ) (outer : List Layer) → leaf_ids f ≡ map (λ (l : PlainLeaf). signed l.id) (leaves_of f top outer)
  leaves_listed (field id name nullable (primitive q)) top outer = refl
  leaves_listed (field id name nullable (vector q n)) top outer = refl
  leaves_listed (field id name nullable text) top outer = refl
  leaves_listed (field id name nullable bytes) top outer = refl
  leaves_listed (field id name nullable (list item)) top outer = leaves_listed item top (layer.List nullable ∷ outer)
  leaves_listed (field id name nullable (struct members)) top outer = members_listed members nullable 0 top outer

  members_listed : (fs : PlainFields ℕ) (nullable : Bool) (member top : ℕ) (outer : List Layer) → all_leaf_ids fs ≡ map (λ (l : PlainLeaf). signed l.id) (leaves_of_members fs nullable member top outer)
  members_listed no_fields nullable member top outer = refl
  members_listed (one_field f fs) nullable member top outer =
      let first = leaves_of f top (layer.Struct nullable member ∷ outer) in
      let others = leaves_of_members fs nullable (member + 1) top outer in
      let both : leaf_ids f ++ all_leaf_ids fs ≡ map id_of first ++ map id_of others = λ i. leaves_listed f top (layer.Struct nullable member ∷ outer) i ++ members_listed fs nullable (member + 1) top outer i in
      both ∙ sym (map-append id_of first others)
