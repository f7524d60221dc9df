-- No value that is read of a line is so long that its length can't be written.
use Rattle.std.proofs.Common.{ℕ, ◌*◌, ◌≤◌, List, [], ◌∷◌, length, length-append, Bool, inl, inr, arith}
use Rattle.std.specs.Int.{to_le_bytes}
use Rattle.serde_json.specs.Data.{Data, Items, no_items, item, Members}
use Rattle.lan_model.specs.declared.tree.Primitive.{Primitive}
use Rattle.lan_model.specs.declared.tree.Primitive.TheVariants as p
use Rattle.lan_model.specs.Plain.{PlainType, primitive, vector, text, bytes, list, struct, field, PlainFields, no_fields, one_field, fields_from, PlainValue, values_from}
use Rattle.lan_model.specs.Room.{HasRoom, AllHaveRoom}
use Rattle.lan_model.specs.Table.{Column, IsField, AreFields, name_of}
use Rattle.lan_rows.specs.Bits.{stored}
use Rattle.lan_rows.specs.Values.{count_items}
use Rattle.lan_rows.specs.RowOf.{IsVector, EachStands, value_at, StandsFor, IsValueOf, MembersStand}
use Rattle.lan_rows.specs.Laws.{RowsHaveRoom}
use Rattle.lan_rows.proofs.RowStands.{line_is}

few_of_item : (prim : Primitive) (b : ℕ) → length (to_le_bytes (stored prim) b) ≤ 8
few_of_item p.Bool b = omega arith
few_of_item p.Int8 b = omega arith
few_of_item p.Int16 b = omega arith
few_of_item p.Int32 b = omega arith
few_of_item p.Int64 b = omega arith
few_of_item p.Uint8 b = omega arith
few_of_item p.Uint16 b = omega arith
few_of_item p.Uint32 b = omega arith
few_of_item p.Uint64 b = omega arith
few_of_item p.Half b = omega arith
few_of_item p.Float b = omega arith
few_of_item p.Double b = omega arith
few_of_item p.Date b = omega arith

few_of_vector : (prim : Primitive) (ds : Items) (s : List ℕ) → IsVector prim ds s → length s ≤ 8 * count_items ds
few_of_vector prim no_items s h = rw h (omega arith)
few_of_vector prim (item d ds) s h = rw h.4 (omega (arith, few_of_vector prim ds h.1 h.3, few_of_item prim h.0, length-append (to_le_bytes (stored prim) h.0) h.1))

each_has_room : (Stand : Data → PlainValue → Type 0) → ((d : Data) (v : PlainValue) → Stand d v → HasRoom v) → (ds : Items) (vs : List PlainValue) → EachStands Stand ds vs → AllHaveRoom (values_from vs)
each_has_room Stand h no_items [] e = tt
each_has_room Stand h no_items (v ∷ vs) e = absurd e
each_has_room Stand h (item d ds) [] e = absurd e
each_has_room Stand h (item d ds) (v ∷ vs) e = (h d v e.0, each_has_room Stand h ds vs e.1)

mutual
  type_has_room : (id : Unit {0}) (name : List ℕ) (nullable : Bool) (ty : PlainType (Unit {0})) → IsField (field id name nullable ty) → (d : Data) (v : PlainValue) → StandsFor ty d v → HasRoom v
  type_has_room id name nullable (primitive prim) i d v h = rw h.2 tt
  type_has_room id name nullable (vector prim n) i d v h = rw h.5 (omega (arith, few_of_vector prim h.0 h.1 h.4, h.3, i.2))
  type_has_room id name nullable text i d v h = rw h.3 (omega (arith, h.2))
  type_has_room id name nullable bytes i d v h = rw h.5 (omega (arith, h.4))
  type_has_room id name nullable (list f) i d v h = rw h.4 (each_has_room (IsValueOf f) (field_has_room f i) h.0 h.1 h.3)
  type_has_room id name nullable (struct fs) i d v h = rw h.5 (members_have_room fs i.1 h.0 h.1 h.4)

  field_has_room : (f : Column) → IsField f → (d : Data) (v : PlainValue) → IsValueOf f d v → HasRoom v
  field_has_room (field id name nullable ty) i d v h = elim h [ inl none ↦ rw none.2 tt | inr stands ↦ type_has_room id name nullable ty i d v stands ]

  members_have_room : (fs : PlainFields (Unit {0})) → AreFields fs → (ms : Members) (vs : List PlainValue) → MembersStand fs ms vs → AllHaveRoom (values_from vs)
  members_have_room no_fields i ms [] h = tt
  members_have_room no_fields i ms (v ∷ vs) h = absurd h
  members_have_room (one_field f fs) i ms [] h = absurd h
  members_have_room (one_field f fs) i ms (v ∷ vs) h = (field_has_room f i.0 (value_at (name_of f) ms) v h.0, members_have_room fs i.1 ms vs h.1)

pub rows_have_room : RowsHaveRoom
rows_have_room columns line row i e = let stands = (line_is columns line row i).0 e in members_have_room (fields_from columns) i.each stands.members row stands.each
