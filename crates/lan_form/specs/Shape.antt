-- What the keys of an object say of a field.
use Rattle.std.specs.Prelude.{ℕ, List, Bool, true, cond, ◌&&◌, ◌||◌, bytes_eq, codes, Option, option_and_then, is_some, Ok, Err}
use Rattle.serde_json.specs.Data.{Data, Members, no_members, member}
use Rattle.serde_json.specs.Find.{get_member, as_str, as_bool, as_array}
use Rattle.lan_form.specs.declared.faults.FormFault.TheVariants.{Form}
use Rattle.lan_form.specs.Judged.{Judged, and_then, some_or}

-- what a field says of itself, apart from the fields in it
pub record Label : Type 0 where
  pub name : List ℕ
  pub nullable : Bool
  pub kind : List ℕ

-- each key is one of these three, or the other one
abbrev pub has_only : List ℕ → Members → Bool
has_only other no_members = true
has_only other (member k d ms) = (bytes_eq k (codes "name") || (bytes_eq k (codes "nullable") || (bytes_eq k (codes "type") || bytes_eq k other))) && has_only other ms

-- a list has the key `item`, a struct the key `fields` with an array, and other types neither
abbrev pub has_shape : List ℕ → Members → Bool
has_shape kind ms =
    cond (bytes_eq kind (codes "list")) (has_only (codes "item") ms && is_some (get_member (codes "item") ms))
    (cond (bytes_eq kind (codes "struct")) (has_only (codes "fields") ms && is_some (option_and_then as_array (get_member (codes "fields") ms)))
    (has_only (codes "type") ms))

-- the value at a key, where it is of this kind
abbrev pub member_of : {A : Type 0} → (Data → Option A) → List ℕ → Members → Judged A
member_of kind k ms = some_or Form (option_and_then kind (get_member k ms))

abbrev pub if_shape : Label → Members → Judged Label
if_shape label ms = cond (has_shape label.kind ms) (Ok label) (Err Form)

-- the three keys and no other but what its type asks for
abbrev pub label_of : Members → Judged Label
label_of ms =
    and_then (member_of as_str (codes "name") ms) (λ name. and_then (member_of as_bool (codes "nullable") ms) (λ nullable.
    and_then (member_of as_str (codes "type") ms) (λ kind. if_shape (record { name = name; nullable = nullable; kind = kind }) ms)))
