-- The fields at places, one after another.
use Rattle.std.proofs.Common.{◌≡◌, ◌∙◌, ap, refl, sym, ℕ, ◌+◌, ◌<◌, List, [], ◌∷◌, ◌++◌, get_or, length, map, take}
use Rattle.std.specs.Prelude.{Option, Some, None, option_map, slice_get}
use Rattle.std.proofs.lemmas.List.{map_push, take_more}
use Rattle.std.proofs.lemmas.Option.{slice_get-map}
use Rattle.lan_model.specs.Plain.{PlainField, plain_field}
use Rattle.lan_model.specs.declared.tree.Field.{Field}
use Rattle.lan_read.specs.Scanned.{and_field, fields_at}

and_field_more : (o : Option (PlainField ℕ)) (fields more : List (PlainField ℕ)) → and_field o (fields ++ more) ≡ and_field o fields ++ more
and_field_more None fields more = refl
and_field_more (Some f) fields more = refl

-- one place more
pub fields_more : (fields : List (PlainField ℕ)) (places : List ℕ) (place : ℕ) (f : PlainField ℕ) → slice_get fields place ≡ Some f → fields_at fields (places ++ place ∷ []) ≡ fields_at fields places ++ f ∷ []
fields_more fields [] place f at = ap (λ (o : Option (PlainField ℕ)). and_field o []) at
fields_more fields (p ∷ places) place f at =
    ap (λ (l : List (PlainField ℕ)). and_field (slice_get fields p) l) (fields_more fields places place f at)
    ∙ and_field_more (slice_get fields p) (fields_at fields places) (f ∷ [])

pub picked_more : (fields picked : List Field) (places : List ℕ) (i : ℕ) (f : Field) → i < length places → slice_get fields (get_or places i 0) ≡ Some f → map plain_field picked ≡ fields_at (map plain_field fields) (take i places)
    → map plain_field (picked ++ f ∷ []) ≡ fields_at (map plain_field fields) (take (i + 1) places)
picked_more fields picked places i f below at so_far =
    map_push plain_field picked f
    ∙ ap (λ (l : List (PlainField ℕ)). l ++ plain_field f ∷ []) so_far
    ∙ sym (fields_more (map plain_field fields) (take i places) (get_or places i 0) (plain_field f) (slice_get-map plain_field fields (get_or places i 0) ∙ ap (option_map plain_field) at))
    ∙ ap (fields_at (map plain_field fields)) (sym (take_more places i 0 below))
