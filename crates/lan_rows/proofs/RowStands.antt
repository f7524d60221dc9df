-- A line is read as a row exactly where it is the row's.
use Rattle.std.proofs.Common.{◌≡◌, ℕ, zero, suc, ◌^◌, ◌≤◌, List, [], ◌∷◌, ◌++◌, length, Bool, true, false, cond, Ok, Err, refl, sym, ap, subst, ◌∙◌, inl, inr, arith}
use Rattle.std.specs.Prelude.{◌⊎◌, nat_le, nat_eq, bytes_eq, IsTrue, Option, Some, None, is_some, unwrap_or, IsUtf8}
use Rattle.std.specs.Int.{to_le_bytes}
use Rattle.std.specs.List.{Contains}
use Rattle.std.specs.Str.{is_utf8}
use Rattle.std.proofs.Math.Bool.{or-true}
use Rattle.std.proofs.lemmas.Bool.{cases_Bool}
use Rattle.std.proofs.lemmas.Bool.Decides.{nat_tests}
use Rattle.std.proofs.lemmas.Slice.Eq.{bytes_eq-Decides}
use Rattle.std.proofs.lemmas.Str.{is_utf8-from_IsUtf8, IsUtf8-from_is_utf8}
use Rattle.serde_json.specs.Data as json
use Rattle.serde_json.specs.Data.{Data, Items, no_items, item, Members, no_members, member}
use Rattle.serde_json.specs.Find.{get_member, as_null, as_str, as_array, as_object}
use Rattle.serde_json.specs.Read.{read}
use Rattle.hex.specs.Hex.{decode_of}
use Rattle.lan_model.specs.declared.tree.Primitive.{Primitive}
use Rattle.lan_model.specs.declared.tree.Primitive.TheVariants as p
use Rattle.lan_model.specs.Plain.{PlainType, primitive, vector, text, bytes, list, struct, field, PlainFields, no_fields, one_field, fields_from, PlainValue, null, bits, raw, items, group, values_from}
use Rattle.lan_model.specs.Table.{Column, AreColumns, IsField, AreFields, names_of, name_of}
use Rattle.lan_rows.specs.declared.faults.RowFault.TheVariants.{Json, NotObject, NotNull, Kind, Count}
use Rattle.lan_rows.specs.Judged.{Judged, found_or, and_then, on_good, each_item}
use Rattle.lan_rows.specs.Bits.{stored, bits_in, bytes_or_hex}
use Rattle.lan_rows.specs.Values.{count_items, vector_item, bytes_of_item, joined, vector_in, short_or_long, text_in, bytes_in, is_name, first_stray, unless_stray, only_members, null_in, absent, unless_null, member_in, type_value, field_value, named_value, members_values, column_value, row_values, row_in, value_of, line_row}
use Rattle.lan_rows.specs.RowOf.{IsBits, IsVector, EachStands, HasOnly, value_at, StandsFor, IsValueOf, MembersStand, RowOf}
use Rattle.lan_rows.specs.Laws.{LineIsRow}
use Rattle.lan_rows.proofs.BitsTell.{IsWhole}
use Rattle.lan_rows.proofs.BitsStand.{good, both_good, found, is_string, is_array, is_object, decoded, to_bits, from_bits}

-- ---- texts, and binary data

short : (top s : List ℕ) (v : PlainValue) → short_or_long top s ≡ Ok v → (length s ≤ 2 ^ 24) × (v ≡ raw s)
short top s v e =
    elim (cases_Bool (nat_le (length s) (2 ^ 24))) [
      | inl is ↦ let e' = rw is at e in (grind (arith, nat_tests, is), cc)
      | inr over ↦ let e' = rw over at e in absurd (cc)
    ]

from_short : (top s : List ℕ) → length s ≤ 2 ^ 24 → short_or_long top s ≡ Ok (raw s)
from_short top s few = let is : nat_le (length s) (2 ^ 24) ≡ true = grind (arith, nat_tests, few) in rw is refl

to_text : (top : List ℕ) (d : Data) (v : PlainValue) → text_in top d ≡ Ok v → (s : List ℕ) × (d ≡ json.string s) × (length s ≤ 2 ^ 24) × (v ≡ raw s)
to_text top d v e =
    let f = both_good (short_or_long top) (found_or (Kind top) (as_str d)) v e in
    let h = short top f.0 v f.2 in
    (f.0, is_string d f.0 (found (Kind top) (as_str d) f.0 f.1), h.0, h.1)

to_bytes : (top : List ℕ) (d : Data) (v : PlainValue) → bytes_in top d ≡ Ok v → (digits : List ℕ) × (s : List ℕ) × (d ≡ json.string digits) × (decode_of digits ≡ Ok s) × (length s ≤ 2 ^ 24) × (v ≡ raw s)
to_bytes top d v e =
    let f = both_good (λ digits. and_then (bytes_or_hex top (decode_of digits)) (short_or_long top)) (found_or (Kind top) (as_str d)) v e in
    let g = both_good (short_or_long top) (bytes_or_hex top (decode_of f.0)) v f.2 in
    let h = short top g.0 v g.2 in
    (f.0, g.0, is_string d f.0 (found (Kind top) (as_str d) f.0 f.1), decoded top (decode_of f.0) g.0 g.1, h.0, h.1)

-- ---- what isn't null

null_or : {A : Type 0} (d : Data) (x y : A) → ((d ≡ json.null) × (cond (is_some (as_null d)) x y ≡ x)) ⊎ (cond (is_some (as_null d)) x y ≡ y)
null_or json.null x y = inl (refl, refl)
null_or (json.boolean t) x y = inr refl
null_or (json.number n) x y = inr refl
null_or (json.string s) x y = inr refl
null_or (json.array ds) x y = inr refl
null_or (json.object ms) x y = inr refl

not_null : {A : Type 0} (d : Data) (x y : A) → (d ≡ json.null → ⊥) → cond (is_some (as_null d)) x y ≡ y
not_null d x y other = elim (null_or d x y) [ inl h ↦ absurd (other h.0) | inr is ↦ is ]

no_bits : (top : List ℕ) (prim : Primitive) (b : ℕ) → bits_in top prim json.null ≡ Ok b → ⊥
no_bits top p.Bool b e = cc
no_bits top p.Int8 b e = cc
no_bits top p.Int16 b e = cc
no_bits top p.Int32 b e = cc
no_bits top p.Int64 b e = cc
no_bits top p.Uint8 b e = cc
no_bits top p.Uint16 b e = cc
no_bits top p.Uint32 b e = cc
no_bits top p.Uint64 b e = cc
no_bits top p.Half b e = cc
no_bits top p.Float b e = cc
no_bits top p.Double b e = cc
no_bits top p.Date b e = cc

-- ---- vectors

item_here : (top : List ℕ) (prim : Primitive) (d : Data) → IsWhole prim → bytes_of_item top prim d ≡ on_good (to_le_bytes (stored prim)) (bits_in top prim d)
item_here top p.Bool d whole = absurd (whole refl)
item_here top p.Int8 d whole = refl
item_here top p.Int16 d whole = refl
item_here top p.Int32 d whole = refl
item_here top p.Int64 d whole = refl
item_here top p.Uint8 d whole = refl
item_here top p.Uint16 d whole = refl
item_here top p.Uint32 d whole = refl
item_here top p.Uint64 d whole = refl
item_here top p.Half d whole = refl
item_here top p.Float d whole = refl
item_here top p.Double d whole = refl
item_here top p.Date d whole = refl

to_item : (top : List ℕ) (prim : Primitive) (d : Data) (s : List ℕ) → IsWhole prim → vector_item top prim d ≡ Ok s → (b : ℕ) × IsBits prim d b × (s ≡ to_le_bytes (stored prim) b)
to_item top prim d s whole e =
    elim (null_or d (Err (NotNull top)) (bytes_of_item top prim d)) [
      | inl h ↦ let e' : Err (NotNull top) ≡ Ok s = sym h.1 ∙ e in absurd (cc)
      | inr is ↦
          let g = good (to_le_bytes (stored prim)) (bits_in top prim d) s (sym (item_here top prim d whole) ∙ sym is ∙ e) in
          (g.0, to_bits top prim d g.0 g.1, sym g.2)
    ]

from_item : (top : List ℕ) (prim : Primitive) (d : Data) (b : ℕ) → IsWhole prim → IsBits prim d b → vector_item top prim d ≡ Ok (to_le_bytes (stored prim) b)
from_item top prim d b whole h =
    let read = from_bits top prim d b h in
    not_null d (Err (NotNull top)) (bytes_of_item top prim d) (λ is. no_bits top prim b (rw is at read)) ∙ item_here top prim d whole ∙ ap (on_good (to_le_bytes (stored prim))) read

to_parts : (top : List ℕ) (prim : Primitive) (ds : Items) (parts : List (List ℕ)) → IsWhole prim → each_item (vector_item top prim) ds ≡ Ok parts → IsVector prim ds (joined parts)
to_parts top prim no_items parts whole e = let same : [] ≡ parts = cc in ap joined (sym same)
to_parts top prim (item d ds) parts whole e =
    let f = both_good (λ a. on_good (λ later. a ∷ later) (each_item (vector_item top prim) ds)) (vector_item top prim d) parts e in
    let g = good (λ later. f.0 ∷ later) (each_item (vector_item top prim) ds) parts f.2 in
    let i = to_item top prim d f.0 whole f.1 in
    (i.0, joined g.0, i.1, to_parts top prim ds g.0 whole g.1, ap joined (sym g.2) ∙ ap (λ x. x ++ joined g.0) i.2)

from_parts : (top : List ℕ) (prim : Primitive) (ds : Items) (s : List ℕ) → IsWhole prim → IsVector prim ds s → (parts : List (List ℕ)) × (each_item (vector_item top prim) ds ≡ Ok parts) × (joined parts ≡ s)
from_parts top prim no_items s whole h = ([], refl, sym h)
from_parts top prim (item d ds) s whole h =
    let r = from_parts top prim ds h.1 whole h.3 in
    let first = from_item top prim d h.0 whole h.2 in
    let rest = r.1 in
    (to_le_bytes (stored prim) h.0 ∷ r.0, rw (first, rest) refl, ap (λ x. to_le_bytes (stored prim) h.0 ++ x) r.2 ∙ sym h.4)

to_vector : (top : List ℕ) (prim : Primitive) (n : ℕ) (d : Data) (v : PlainValue) → IsWhole prim → vector_in top prim n d ≡ Ok v → (ds : Items) × (s : List ℕ) × (d ≡ json.array ds) × (count_items ds ≡ n) × IsVector prim ds s × (v ≡ raw s)
to_vector top prim n d v whole e =
    let judge = λ (ds : Items). cond (nat_eq (count_items ds) n) (on_good (λ parts. raw (joined parts)) (each_item (vector_item top prim) ds)) (Err (Count top)) in
    let f = both_good judge (found_or (Kind top) (as_array d)) v e in
    let is = is_array d f.0 (found (Kind top) (as_array d) f.0 f.1) in
    elim (cases_Bool (nat_eq (count_items f.0) n)) [
      | inl same ↦
          let e' = rw same at f.2 in
          let g = good (λ parts. raw (joined parts)) (each_item (vector_item top prim) f.0) v e' in
          (f.0, joined g.0, is, grind (arith, nat_tests, same), to_parts top prim f.0 g.0 whole g.1, sym g.2)
      | inr other ↦ let e' = rw other at f.2 in absurd (cc)
    ]

from_vector : (top : List ℕ) (prim : Primitive) (n : ℕ) (d : Data) (v : PlainValue) (ds : Items) (s : List ℕ) → IsWhole prim → d ≡ json.array ds → count_items ds ≡ n → IsVector prim ds s → v ≡ raw s → vector_in top prim n d ≡ Ok v
from_vector top prim n d v ds s whole is count stands value =
    let r = from_parts top prim ds s whole stands in
    let same : nat_eq (count_items ds) n ≡ true = grind (arith, nat_tests, count) in
    let parts = r.1 in
    let bytes = r.2 in
    rw (is, same, parts, bytes, value) refl

-- ---- lists

to_each : (judge : Data → Judged PlainValue) (Stand : Data → PlainValue → Type 0) → ((d : Data) (v : PlainValue) → judge d ≡ Ok v → Stand d v) → (ds : Items) (vs : List PlainValue) → each_item judge ds ≡ Ok vs → EachStands Stand ds vs
to_each judge Stand h no_items [] e = tt
to_each judge Stand h no_items (v ∷ vs) e = absurd (cc)
to_each judge Stand h (item d ds) vs e =
    let f = both_good (λ a. on_good (λ later. a ∷ later) (each_item judge ds)) (judge d) vs e in
    let g = good (λ later. f.0 ∷ later) (each_item judge ds) vs f.2 in
    subst (EachStands Stand (item d ds)) g.2 (h d f.0 f.1, to_each judge Stand h ds g.0 g.1)

from_each : (judge : Data → Judged PlainValue) (Stand : Data → PlainValue → Type 0) → ((d : Data) (v : PlainValue) → Stand d v → judge d ≡ Ok v) → (ds : Items) (vs : List PlainValue) → EachStands Stand ds vs → each_item judge ds ≡ Ok vs
from_each judge Stand h no_items [] e = refl
from_each judge Stand h no_items (v ∷ vs) e = absurd e
from_each judge Stand h (item d ds) [] e = absurd e
from_each judge Stand h (item d ds) (v ∷ vs) e = let first = h d v e.0 in let rest = from_each judge Stand h ds vs e.1 in rw (first, rest) refl

-- ---- keys

to_name : (key : List ℕ) (fs : PlainFields (Unit {0})) → is_name key fs ≡ true → Contains (names_of fs) key
to_name key no_fields e = absurd (cc)
to_name key (one_field (field id name nullable ty) fs) e =
    elim (cases_Bool (bytes_eq key name)) [
      | inl is ↦ (0, omega arith, sym ((bytes_eq-Decides key name).0 is))
      | inr other ↦
          let rest = to_name key fs (rw other at e) in
          (suc rest.0, omega (arith, rest.1), rest.2)
    ]

from_name : (key : List ℕ) (fs : PlainFields (Unit {0})) → Contains (names_of fs) key → is_name key fs ≡ true
from_name key no_fields h = absurd (omega (arith, h.1))
from_name key (one_field (field id name nullable ty) fs) (zero, below, at) = let is = (bytes_eq-Decides key name).1 (sym at) in rw is refl
from_name key (one_field (field id name nullable ty) fs) (suc k, below, at) = let rest = from_name key fs (k, omega (arith, below), at) in rw rest (or-true (bytes_eq key name))

to_only_names : (fs : PlainFields (Unit {0})) (ms : Members) → first_stray fs ms ≡ None → HasOnly (names_of fs) ms
to_only_names fs no_members e = tt
to_only_names fs (member key d ms) e =
    elim (cases_Bool (is_name key fs)) [
      | inl is ↦ (to_name key fs is, to_only_names fs ms (rw is at e))
      | inr stray ↦ let e' = rw stray at e in absurd (cc)
    ]

from_only_names : (fs : PlainFields (Unit {0})) (ms : Members) → HasOnly (names_of fs) ms → first_stray fs ms ≡ None
from_only_names fs no_members h = refl
from_only_names fs (member key d ms) h = let is = from_name key fs h.0 in let rest = from_only_names fs ms h.1 in rw (is, rest) refl

no_stray : (o : Option (List ℕ)) (vs ws : List PlainValue) → unless_stray o vs ≡ Ok ws → (o ≡ None) × (vs ≡ ws)
no_stray None vs ws e = (refl, cc)
no_stray (Some key) vs ws e = absurd (cc)

to_only : (fs : PlainFields (Unit {0})) (judge : Members → Judged (List PlainValue)) (ms : Members) (vs : List PlainValue) → only_members fs judge ms ≡ Ok vs → HasOnly (names_of fs) ms × (judge ms ≡ Ok vs)
to_only fs judge ms vs e =
    let f = both_good (unless_stray (first_stray fs ms)) (judge ms) vs e in
    let h = no_stray (first_stray fs ms) f.0 vs f.2 in
    (to_only_names fs ms h.0, f.1 ∙ ap (λ ws. Ok ws) h.1)

from_only : (fs : PlainFields (Unit {0})) (judge : Members → Judged (List PlainValue)) (ms : Members) (vs : List PlainValue) → HasOnly (names_of fs) ms → judge ms ≡ Ok vs → only_members fs judge ms ≡ Ok vs
from_only fs judge ms vs h e = let none = from_only_names fs ms h in rw (e, none) refl

-- ---- null, and keys that are absent

taken : (top : List ℕ) (nullable : Bool) (v : PlainValue) → null_in top nullable ≡ Ok v → (nullable ≡ true) × (v ≡ null)
taken top true v e = (refl, cc)
taken top false v e = absurd (cc)

taken_absent : (name : List ℕ) (nullable : Bool) (v : PlainValue) → absent name nullable ≡ Ok v → (nullable ≡ true) × (v ≡ null)
taken_absent name true v e = (refl, cc)
taken_absent name false v e = absurd (cc)

-- null that is taken, or a value
abbrev NullOr : Bool → (Data → Judged PlainValue) → Data → PlainValue → Type 0
NullOr nullable judge d v = ((d ≡ json.null) × IsTrue nullable × (v ≡ null)) ⊎ (judge d ≡ Ok v)

to_null : (top : List ℕ) (nullable : Bool) (judge : Data → Judged PlainValue) (d : Data) (v : PlainValue) → unless_null top nullable judge d ≡ Ok v → NullOr nullable judge d v
to_null top nullable judge d v e =
    elim (null_or d (null_in top nullable) (judge d)) [
      | inl h ↦ let t = taken top nullable v (sym h.1 ∙ e) in inl (h.0, t.0, t.1)
      | inr is ↦ inr (sym is ∙ e)
    ]

from_null : (top : List ℕ) (nullable : Bool) (judge : Data → Judged PlainValue) (d : Data) (v : PlainValue) → (judge json.null ≡ Ok v → ⊥) → NullOr nullable judge d v → unless_null top nullable judge d ≡ Ok v
from_null top nullable judge d v never (inl h) = rw (h.0, h.1, h.2) refl
from_null top nullable judge d v never (inr e) = not_null d (null_in top nullable) (judge d) (λ is. never (rw is at e)) ∙ e

to_member : (top name : List ℕ) (nullable : Bool) (judge : Data → Judged PlainValue) (o : Option Data) (v : PlainValue) → member_in name nullable (unless_null top nullable judge) o ≡ Ok v → NullOr nullable judge (unwrap_or o json.null) v
to_member top name nullable judge None v e = let t = taken_absent name nullable v e in inl (refl, t.0, t.1)
to_member top name nullable judge (Some d) v e = to_null top nullable judge d v e

from_member : (top name : List ℕ) (nullable : Bool) (judge : Data → Judged PlainValue) (o : Option Data) (v : PlainValue) → (judge json.null ≡ Ok v → ⊥) → NullOr nullable judge (unwrap_or o json.null) v → member_in name nullable (unless_null top nullable judge) o ≡ Ok v
from_member top name nullable judge None v never (inl h) = rw (h.1, h.2) refl
from_member top name nullable judge None v never (inr e) = absurd (never e)
from_member top name nullable judge (Some d) v never h = from_null top nullable judge d v never h

no_value : (top : List ℕ) (ty : PlainType (Unit {0})) (v : PlainValue) → type_value top ty json.null ≡ Ok v → ⊥
no_value top (primitive prim) v e = let g = good bits (bits_in top prim json.null) v e in no_bits top prim g.0 g.1
no_value top (vector prim n) v e = cc
no_value top text v e = cc
no_value top bytes v e = cc
no_value top (list f) v e = cc
no_value top (struct fs) v e = cc

-- ---- what is read stands

mutual
  to_type : (top : List ℕ) (id : Unit {0}) (name : List ℕ) (nullable : Bool) (ty : PlainType (Unit {0})) → IsField (field id name nullable ty) → (d : Data) (v : PlainValue) → type_value top ty d ≡ Ok v → StandsFor ty d v
  to_type top id name nullable (primitive prim) i d v e = let g = good bits (bits_in top prim d) v e in (g.0, to_bits top prim d g.0 g.1, sym g.2)
  to_type top id name nullable (vector prim n) i d v e = to_vector top prim n d v i.0 e
  to_type top id name nullable text i d v e = to_text top d v e
  to_type top id name nullable bytes i d v e = to_bytes top d v e
  to_type top id name nullable (list f) i d v e =
      let a = both_good (λ ds. on_good (λ vs. items (values_from vs)) (each_item (field_value top f) ds)) (found_or (Kind top) (as_array d)) v e in
      let g = good (λ vs. items (values_from vs)) (each_item (field_value top f) a.0) v a.2 in
      (a.0, g.0, is_array d a.0 (found (Kind top) (as_array d) a.0 a.1), to_each (field_value top f) (IsValueOf f) (to_field top f i) a.0 g.0 g.1, sym g.2)
  to_type top id name nullable (struct fs) i d v e =
      let a = both_good (λ ms. on_good (λ vs. group (values_from vs)) (only_members fs (members_values top fs) ms)) (found_or (Kind top) (as_object d)) v e in
      let g = good (λ vs. group (values_from vs)) (only_members fs (members_values top fs) a.0) v a.2 in
      let o = to_only fs (members_values top fs) a.0 g.0 g.1 in
      (a.0, g.0, is_object d a.0 (found (Kind top) (as_object d) a.0 a.1), o.0, to_members top fs i.1 a.0 g.0 o.1, sym g.2)

  to_field : (top : List ℕ) (f : Column) → IsField f → (d : Data) (v : PlainValue) → field_value top f d ≡ Ok v → IsValueOf f d v
  to_field top (field id name nullable ty) i d v e = elim (to_null top nullable (type_value top ty) d v e) [ inl h ↦ inl h | inr h ↦ inr (to_type top id name nullable ty i d v h) ]

  to_named : (top : List ℕ) (f : Column) → IsField f → (ms : Members) (v : PlainValue) → named_value top f ms ≡ Ok v → IsValueOf f (value_at (name_of f) ms) v
  to_named top (field id name nullable ty) i ms v e =
      elim (to_member top name nullable (type_value top ty) (get_member name ms) v e) [ inl h ↦ inl h | inr h ↦ inr (to_type top id name nullable ty i (value_at name ms) v h) ]

  to_members : (top : List ℕ) (fs : PlainFields (Unit {0})) → AreFields fs → (ms : Members) (vs : List PlainValue) → members_values top fs ms ≡ Ok vs → MembersStand fs ms vs
  to_members top no_fields i ms [] e = tt
  to_members top no_fields i ms (v ∷ vs) e = absurd (cc)
  to_members top (one_field f fs) i ms vs e =
      let a = both_good (λ v. on_good (λ vs. v ∷ vs) (members_values top fs ms)) (named_value top f ms) vs e in
      let g = good (λ vs. a.0 ∷ vs) (members_values top fs ms) vs a.2 in
      subst (MembersStand (one_field f fs) ms) g.2 (to_named top f i.0 ms a.0 a.1, to_members top fs i.1 ms g.0 g.1)

-- ---- what stands is read

mutual
  from_type : (top : List ℕ) (id : Unit {0}) (name : List ℕ) (nullable : Bool) (ty : PlainType (Unit {0})) → IsField (field id name nullable ty) → (d : Data) (v : PlainValue) → StandsFor ty d v → type_value top ty d ≡ Ok v
  from_type top id name nullable (primitive prim) i d v h = let read = from_bits top prim d h.0 h.1 in rw (read, h.2) refl
  from_type top id name nullable (vector prim n) i d v h = from_vector top prim n d v h.0 h.1 i.0 h.2 h.3 h.4 h.5
  from_type top id name nullable text i d v h = let few = from_short top h.0 h.2 in rw (h.1, few, h.3) refl
  from_type top id name nullable bytes i d v h = let few = from_short top h.1 h.4 in rw (h.2, h.3, few, h.5) refl
  from_type top id name nullable (list f) i d v h = let read = from_each (field_value top f) (IsValueOf f) (from_field top f i) h.0 h.1 h.3 in rw (h.2, read, h.4) refl
  from_type top id name nullable (struct fs) i d v h =
      let read = from_only fs (members_values top fs) h.0 h.1 h.3 (from_members top fs i.1 h.0 h.1 h.4) in
      rw (h.2, read, h.5) refl

  from_field : (top : List ℕ) (f : Column) → IsField f → (d : Data) (v : PlainValue) → IsValueOf f d v → field_value top f d ≡ Ok v
  from_field top (field id name nullable ty) i d v h =
      from_null top nullable (type_value top ty) d v (no_value top ty v) (elim h as (λ x. NullOr nullable (type_value top ty) d v) [ inl none ↦ inl none | inr stands ↦ inr (from_type top id name nullable ty i d v stands) ])

  from_named : (top : List ℕ) (f : Column) → IsField f → (ms : Members) (v : PlainValue) → IsValueOf f (value_at (name_of f) ms) v → named_value top f ms ≡ Ok v
  from_named top (field id name nullable ty) i ms v h =
      from_member top name nullable (type_value top ty) (get_member name ms) v (no_value top ty v) (elim h as (λ x. NullOr nullable (type_value top ty) (value_at name ms) v) [ inl none ↦ inl none | inr stands ↦ inr (from_type top id name nullable ty i (value_at name ms) v stands) ])

  from_members : (top : List ℕ) (fs : PlainFields (Unit {0})) → AreFields fs → (ms : Members) (vs : List PlainValue) → MembersStand fs ms vs → members_values top fs ms ≡ Ok vs
  from_members top no_fields i ms [] h = refl
  from_members top no_fields i ms (v ∷ vs) h = absurd h
  from_members top (one_field f fs) i ms [] h = absurd h
  from_members top (one_field f fs) i ms (v ∷ vs) h = let first = from_named top f i.0 ms v h.0 in let rest = from_members top fs i.1 ms vs h.1 in rw (first, rest) refl

-- ---- the row

to_column : (f : Column) → IsField f → (ms : Members) (v : PlainValue) → column_value f ms ≡ Ok v → IsValueOf f (value_at (name_of f) ms) v
to_column (field id name nullable ty) i ms v e = to_named name (field id name nullable ty) i ms v e

from_column : (f : Column) → IsField f → (ms : Members) (v : PlainValue) → IsValueOf f (value_at (name_of f) ms) v → column_value f ms ≡ Ok v
from_column (field id name nullable ty) i ms v h = from_named name (field id name nullable ty) i ms v h

to_row : (fs : PlainFields (Unit {0})) → AreFields fs → (ms : Members) (row : List PlainValue) → row_values fs ms ≡ Ok row → MembersStand fs ms row
to_row no_fields i ms [] e = tt
to_row no_fields i ms (v ∷ vs) e = absurd (cc)
to_row (one_field f fs) i ms vs e =
    let a = both_good (λ v. on_good (λ vs. v ∷ vs) (row_values fs ms)) (column_value f ms) vs e in
    let g = good (λ vs. a.0 ∷ vs) (row_values fs ms) vs a.2 in
    subst (MembersStand (one_field f fs) ms) g.2 (to_column f i.0 ms a.0 a.1, to_row fs i.1 ms g.0 g.1)

from_row : (fs : PlainFields (Unit {0})) → AreFields fs → (ms : Members) (row : List PlainValue) → MembersStand fs ms row → row_values fs ms ≡ Ok row
from_row no_fields i ms [] h = refl
from_row no_fields i ms (v ∷ vs) h = absurd h
from_row (one_field f fs) i ms [] h = absurd h
from_row (one_field f fs) i ms (v ∷ vs) h = let first = from_column f i.0 ms v h.0 in let rest = from_row fs i.1 ms vs h.1 in rw (first, rest) refl

to_value : (line : List ℕ) (d : Data) → value_of line ≡ Some d → IsUtf8 line × (read line ≡ Some d)
to_value line d e =
    elim (cases_Bool (is_utf8 line)) [
      | inl is ↦ (IsUtf8-from_is_utf8 line is, rw is at e)
      | inr other ↦ let e' = rw other at e in absurd (cc)
    ]

to_line : (columns : List Column) (line : List ℕ) (row : List PlainValue) → AreColumns columns → line_row columns line ≡ Ok row → RowOf columns line row
unfolding line_row
to_line columns line row i e =
    let fs = fields_from columns in
    let a = both_good (row_in fs) (found_or Json (value_of line)) row e in
    let o = both_good (only_members fs (row_values fs)) (found_or NotObject (as_object a.0)) row a.2 in
    let value = to_value line a.0 (found Json (value_of line) a.0 a.1) in
    let h = to_only fs (row_values fs) o.0 row o.2 in
    record {
      members = o.0;
      utf8 = value.0;
      object = value.1 ∙ ap (λ d. Some d) (is_object a.0 o.0 (found NotObject (as_object a.0) o.0 o.1));
      only = h.0;
      each = to_row fs i.each o.0 row h.1;
    }

from_line : (columns : List Column) (line : List ℕ) (row : List PlainValue) → AreColumns columns → RowOf columns line row → line_row columns line ≡ Ok row
unfolding line_row
from_line columns line row i h =
    let fs = fields_from columns in
    let utf8 = is_utf8-from_IsUtf8 line h.utf8 in
    let read = h.object in
    let judged = from_only fs (row_values fs) h.members row h.only (from_row fs i.each h.members row h.each) in
    rw (utf8, read) judged

pub line_is : LineIsRow
line_is columns line row i = (to_line columns line row i, from_line columns line row i)
