-- Fields that lie flat, and what can be wrong with one of them.
use Rattle.std.specs.Prelude.{◌≡◌, ◌⊎◌, ℕ, ◌+◌, Bool, true, false, not, ◌&&◌, ◌||◌, if◌then◌else◌, IsTrue, nat_lt, Option, Some, None, is_some, List, [], ◌∷◌, ℤ, pos, negsuc}
use Rattle.std.specs.Str.{bytes_eq}
use Rattle.lan_schema.specs.FieldMessage.{Flat}
use Rattle.lan_schema.specs.Forest.{same}
use Rattle.lan_schema.specs.Logical.{leaf_type}
use Rattle.lan_schema.specs.Shapes.{shape_of, takes}

-- whether a field has this number
abbrev pub is_listed : List Flat → ℤ → Bool
is_listed [] id = false
is_listed (f ∷ fs) id = same f.id id || is_listed fs id

-- whether a field has this parent and this name
abbrev pub is_named : List Flat → ℤ → List ℕ → Bool
is_named [] parent name = false
is_named (f ∷ fs) parent name = (same f.parent parent && bytes_eq f.name name) || is_named fs parent name

-- how many fields have this parent
abbrev pub children_of : List Flat → ℤ → ℕ
children_of [] id = 0
children_of (f ∷ fs) id = if same f.parent id then children_of fs id + 1 else children_of fs id

-- how many layers a field has with all those round it, where the last field stands first; the number of no field stands for the top, which has none
abbrev pub layers_of : List Flat → ℤ → ℕ
layers_of [] id = 0
layers_of (f ∷ before) id = if same f.id id then layers_of before f.parent + 1 else layers_of before id

-- whether a field has no fields in it
abbrev pub is_leaf : Flat → Bool
is_leaf f = takes (shape_of f.logical) 0

-- how many leaves there are
abbrev pub leaves_in : List Flat → ℕ
leaves_in [] = 0
leaves_in (f ∷ fs) = if is_leaf f then leaves_in fs + 1 else leaves_in fs

-- what is asked of a field: of those listed before it, the last one first, of itself, and of those listed after it
abbrev pub Test : Type 0
Test = List Flat → Flat → List Flat → Bool

abbrev pub is_negative : ℤ → Bool
is_negative (pos n) = false
is_negative (negsuc n) = true

-- its number is negative
abbrev pub has_bad_id : Test
has_bad_id before f after = is_negative f.id

-- its number is listed before
abbrev pub repeats : Test
repeats before f after = is_listed before f.id

-- its parent is neither the top nor listed before
abbrev pub is_orphan : Test
is_orphan before f after = not (same f.parent (negsuc 0) || is_listed before f.parent)

-- its name is empty
abbrev pub is_nameless : Test
is_nameless before f after = bytes_eq f.name []

-- a field before it with the same parent has its name
abbrev pub has_namesake : Test
has_namesake before f after = is_named before f.parent f.name

-- its logical type is none
abbrev pub is_untyped : Test
is_untyped before f after = takes (shape_of f.logical) 0 && not (is_some (leaf_type f.logical))

-- its type takes another number of fields than those listed after it in it
abbrev pub miscounts : Test
miscounts before f after = not (takes (shape_of f.logical) (children_of after f.id))

-- it is a leaf of over 16 layers
abbrev pub is_deep : Test
is_deep before f after = is_leaf f && nat_lt 16 (layers_of before f.parent + 1)

-- a field of those in the second list, of this number, passes; the first has those before them, the last one first
abbrev pub Has : Test → ℤ → List Flat → List Flat → Type 0
Has test id before [] = ⊥
Has test id before (f ∷ after) = ((f.id ≡ id) × IsTrue (test before f after)) ⊎ Has test id (f ∷ before) after

-- none of them passes
abbrev pub Lacks : Test → List Flat → List Flat → Type 0
Lacks test before [] = Unit {0}
Lacks test before (f ∷ after) = (test before f after ≡ false) × Lacks test (f ∷ before) after

-- the number of a field that passes, or that none does
abbrev pub Finds : Test → List Flat → Option ℤ → Type 0
Finds test fs None = Lacks test [] fs
Finds test fs (Some id) = Has test id [] fs
