-- Why messages stand for no fields.
use Rattle.std.specs.Prelude.{◌≡◌, ℕ, ◌<◌, ◌&&◌, List, []}
use Rattle.std.specs.Str.{bytes_eq}
use Rattle.lan_bytes.specs.Placed.{Placed}
use Rattle.lan_schema.specs.declared.fault.SchemaFault.{SchemaFault}
use Rattle.lan_schema.specs.declared.fault.SchemaFault.TheVariants.{Wire, Empty, BadId, SameId, BadParent, NoName, SameName, UnknownType, Children, TooDeep, TooManyLeaves, Memory}
use Rattle.lan_schema.specs.FieldMessage.{Flat}
use Rattle.lan_schema.specs.FieldMessages.{SaysFields, FieldsBreakOff}
use Rattle.lan_schema.specs.FieldsOf.{AreLinked, AreNamed, AreTyped}
use Rattle.lan_schema.specs.Listed.{Test, has_bad_id, repeats, is_orphan, is_nameless, has_namesake, is_untyped, miscounts, is_deep, leaves_in, Has, Lacks}

-- it has no type, and this is its logical type
abbrev pub is_untyped_as : List ℕ → Test
is_untyped_as logical before f after = is_untyped before f after && bytes_eq f.logical logical

-- a rule that the fields break; those above it they keep, and memory may want anywhere
abbrev pub Breaks : SchemaFault → List Flat → Type 0
Breaks (Wire fault) fs = ⊥
Breaks Empty fs = fs ≡ []
Breaks (BadId id) fs = Has has_bad_id id [] fs
Breaks (SameId id) fs = Lacks has_bad_id [] fs × Has repeats id [] fs
Breaks (BadParent id) fs = Lacks has_bad_id [] fs × Lacks repeats [] fs × Has is_orphan id [] fs
Breaks (NoName id) fs = AreLinked fs × Has is_nameless id [] fs
Breaks (SameName id) fs = AreLinked fs × Lacks is_nameless [] fs × Has has_namesake id [] fs
Breaks (UnknownType id logical) fs = AreLinked fs × AreNamed fs × Has (is_untyped_as logical) id [] fs
Breaks (Children id) fs = AreLinked fs × AreNamed fs × Lacks is_untyped [] fs × Has miscounts id [] fs
Breaks (TooDeep id) fs = AreLinked fs × AreNamed fs × AreTyped fs × Has is_deep id [] fs
Breaks TooManyLeaves fs = AreLinked fs × AreNamed fs × AreTyped fs × Lacks is_deep [] fs × (1024 < leaves_in fs)
Breaks Memory fs = Unit {0}

-- the fault stands in the message: a wire fault at its place, or fields that break a rule
abbrev pub StandsIn : Placed → ℕ → SchemaFault → Type 0
StandsIn message number (Wire fault) = FieldsBreakOff message number fault
StandsIn message number Memory = Unit {0}
StandsIn message number fault = (fs : List Flat) × SaysFields message number fs × Breaks fault fs
