-- The JSON of fields doesn't tell their numbers.
use Rattle.std.proofs.Common.{◌≡◌, refl, ap, ◌∙◌, ℕ, List, [], ◌∷◌, map}
use Rattle.json.specs.Json as json
use Rattle.json.specs.Tree.{json_tokens}
use Rattle.json.specs.Print.{print}
use Rattle.std.specs.Prelude.{codes}
use Rattle.lan_model.specs.Plain.{primitive, vector, text, bytes, list, struct, PlainField, field, PlainFields, no_fields, one_field, fields_from, unnumbered, all_unnumbered}
use Rattle.lan_form.specs.Printed.{label_members, field_json, fields_json, json_of}

mutual
  of_field : (f : PlainField ℕ) → field_json f ≡ field_json (unnumbered f)
  of_field (field id name nullable (primitive q)) = refl
  of_field (field id name nullable (vector q n)) = refl
  of_field (field id name nullable text) = refl
  of_field (field id name nullable bytes) = refl
  of_field (field id name nullable (list item)) = ap (λ j. json.object (json.member (codes "item") j (label_members name nullable (list item)))) (of_field item)
  of_field (field id name nullable (struct members)) = ap (λ js. json.object (json.member (codes "fields") (json.array js) (label_members name nullable (struct members)))) (of_fields members)

  of_fields : (fs : PlainFields ℕ) → fields_json fs ≡ fields_json (all_unnumbered fs)
  of_fields no_fields = refl
  of_fields (one_field f fs) = (λ i. json.item (of_field f i) (of_fields fs i))

one_by_one : (fields : List (PlainField ℕ)) → all_unnumbered (fields_from fields) ≡ fields_from (map unnumbered fields)
one_by_one [] = refl
one_by_one (f ∷ fs) = ap (one_field (unnumbered f)) (one_by_one fs)

pub numbers_are_not_printed : (fields : List (PlainField ℕ)) → json_of (fields_from fields) ≡ json_of (fields_from (map unnumbered fields))
unfolding json_of
numbers_are_not_printed fields = ap (λ js. print (json_tokens (json.array js))) (of_fields (fields_from fields) ∙ ap fields_json (one_by_one fields))
