-- The readers of a fragment's fields: of which columns, what opening them asks, and why they aren't opened.
use Rattle.std.specs.Prelude.{◌≡◌, ◌≢◌, ◌⊎◌, ⊤, ℕ, ℤ, ◌*◌, ◌<◌, ◌≤◌, ◌^◌, Bool, false, not, ◌&&◌, ◌||◌, cond, bytes_eq, List, [], ◌∷◌, ◌++◌, length, All, Contains, Option, Some, None, IsSomeAnd, option_map, pos, negsuc}
use Rattle.std.specs.Option.{option_or}
use Rattle.lan_model.specs.Fits.{Fits}
use Rattle.lan_model.specs.Leaves.{PlainLeaf, IsNarrow, leaves_of, plain_leaf}
use Rattle.lan_model.specs.Plain.{PlainField, null}
use Rattle.lan_model.specs.Table.{IsField, depths_of}
use Rattle.lan_model.specs.declared.tree.Leaf.{Leaf}
use Rattle.lan_schema.specs.FieldTree.{signed}
use Rattle.lan_schema.specs.Forest.{same}
use Rattle.lan_meta.specs.declared.page.PageMeta.{PageMeta}
use Rattle.lan_page.specs.ColumnCursors.{PlainCursor, at_first}
use Rattle.lan_store.specs.Budget.{Budget, nothing, plus, ranges}
use Rattle.lan_store.specs.Objects.{object}
use Rattle.lan_store.specs.declared.name.Name.{Name}
use Rattle.lan_store.specs.declared.name.Object.{Object}
use Rattle.lan_file.specs.HeadReasons.{HeadStands}
use Rattle.lan_file.specs.Heads.{HasHead, Pick, head_budget}
use Rattle.lan_manifest.specs.declared.manifest.DataFile.{DataFile}
use Rattle.lan_manifest.specs.declared.manifest.Fragment.{Fragment}
use Rattle.lan_read.specs.FieldReaders.{CanRead}
use Rattle.lan_read.specs.Given.{IsWhole, NoneGiven}
use Rattle.lan_read.specs.Rows.{IsHeld, data_name}
use Rattle.lan_read.specs.declared.read_fault.Reason.TheVariants as reason
use Rattle.lan_read.specs.declared.read_fault.ReadFault.{ReadFault}
use Rattle.lan_read.specs.declared.read_fault.ReadFault.TheVariants.{Memory, Outside, Store}

-- ---- which columns

-- a column that is read: the path of its file, and its number there with the leaf as which it is read
pub record Use : Type 0 where
  pub path : List ℕ
  pub pick : Pick

-- the column that a file's lists have for a number, where it has one of its own
abbrev pub own_column : ℤ → Option ℕ
own_column (pos column) = Some column
own_column (negsuc n) = None

abbrev pub column_listed : List ℤ → List ℤ → ℤ → Option ℕ
column_listed [] columns id = None
column_listed (i ∷ ids) [] id = None
column_listed (i ∷ ids) (c ∷ columns) id = cond (same i id) (option_or (own_column c) (column_listed ids columns id)) (column_listed ids columns id)

abbrev pub use_in : DataFile → PlainLeaf → Option Use
use_in file leaf = option_map (λ column. record { path = file.path; pick = record { column = column; leaf = leaf } }) (column_listed file.ids file.columns (signed leaf.id))

-- that of the first file that gives the leaf
abbrev pub use_of : List DataFile → PlainLeaf → Option Use
use_of [] leaf = None
use_of (file ∷ files) leaf = option_or (use_in file leaf) (use_of files leaf)

-- those of leaves, in order; a leaf that no file gives has none
abbrev pub and_use : Option Use → List Use → List Use
and_use None uses = uses
and_use (Some used) uses = used ∷ uses

abbrev pub uses_of : List DataFile → List PlainLeaf → List Use
uses_of files [] = []
uses_of files (leaf ∷ leaves) = and_use (use_of files leaf) (uses_of files leaves)

-- the leaves of fields, one field after another
abbrev pub leaves_in : List (PlainField ℕ) → List PlainLeaf
leaves_in [] = []
leaves_in (f ∷ fields) = leaves_of f 0 [] ++ leaves_in fields

-- ---- which files

abbrev pub is_used : List Use → List ℕ → Bool
is_used [] path = false
is_used (used ∷ uses) path = bytes_eq used.path path || is_used uses path

abbrev pub has_path : List DataFile → List ℕ → Bool
has_path [] path = false
has_path (file ∷ files) path = bytes_eq file.path path || has_path files path

-- the paths of files of which a column is read, each once
abbrev pub paths_used : List DataFile → List Use → List (List ℕ)
paths_used [] uses = []
paths_used (file ∷ files) uses = cond (is_used uses file.path && not (has_path files file.path)) (file.path ∷ paths_used files uses) (paths_used files uses)

-- the columns that are read of the file at a path
abbrev pub picks_at : List Use → List ℕ → List Pick
picks_at [] path = []
picks_at (used ∷ uses) path = cond (bytes_eq used.path path) (used.pick ∷ picks_at uses path) (picks_at uses path)

-- ---- what opening them asks

-- of an object that isn't held no more than of one that is, three ranges
abbrev pub head_due : Option (List ℕ) → Budget
head_due None = ranges 3
head_due (Some bytes) = head_budget bytes

-- the head of each of the files
abbrev pub heads_due : List Object → List (List ℕ) → Budget
heads_due objects [] = nothing
heads_due objects (path ∷ paths) = plus (head_due (object objects (data_name path))) (heads_due objects paths)

-- of a fragment, for these fields
unfoldable pub opening_due : List Object → List (PlainField ℕ) → Fragment → Budget
opening_due objects fields f = heads_due objects (paths_used f.files (uses_of f.files (leaves_in fields)))

-- three ranges at most for each file
abbrev pub opening_most : Fragment → Budget
opening_most f = ranges (3 * length f.files)

-- ---- the readers

-- a new cursor of the column that a leaf has first in the files, of so many rows
pub record IsNewCursor (objects : List Object) (files : List DataFile) (count : ℕ) (leaf : PlainLeaf) (c : PlainCursor) : Type 0 where
  pub used : Use
  pub is_first : use_of files leaf ≡ Some used
  pub of_leaf : Leaf
  pub leaf_is : plain_leaf of_leaf ≡ leaf
  pub pages : List PageMeta
  pub new : c ≡ at_first (data_name used.path) of_leaf pages
  pub held : IsHeld objects (data_name used.path) (λ bytes. HasHead (used.pick ∷ []) bytes count (pages ∷ []))

-- one for each leaf, in order
abbrev pub AreNewCursors : List Object → List DataFile → ℕ → List PlainLeaf → List PlainCursor → Type 0
AreNewCursors objects files count [] [] = ⊤
AreNewCursors objects files count (leaf ∷ leaves) (c ∷ cursors) = IsNewCursor objects files count leaf c × AreNewCursors objects files count leaves cursors
AreNewCursors objects files count _ _ = ⊥

-- a new reader of the field
abbrev pub IsNewReader : List Object → List DataFile → ℕ → PlainField ℕ → Option (List PlainCursor) → Type 0
IsNewReader objects files count f None = NoneGiven files f
IsNewReader objects files count f (Some cursors) = AreNewCursors objects files count (leaves_of f 0 []) cursors

-- one for each field, in order
abbrev pub AreNewReaders : List Object → List DataFile → ℕ → List (PlainField ℕ) → List (Option (List PlainCursor)) → Type 0
AreNewReaders objects files count [] [] = ⊤
AreNewReaders objects files count (f ∷ fields) (r ∷ readers) = IsNewReader objects files count f r × AreNewReaders objects files count fields readers
AreNewReaders objects files count _ _ = ⊥

-- each row from one on, of so many, may be read of the fields
abbrev pub CanReadFrom : List (PlainField ℕ) → ℕ → ℕ → List (Option (List PlainCursor)) → Type 0
CanReadFrom [] row count [] = ⊤
CanReadFrom (f ∷ fields) row count (r ∷ readers) = ((later : ℕ) → row ≤ later → later < count → CanRead f later r) × CanReadFrom fields row count readers
CanReadFrom _ row count _ = ⊥

-- ---- what opening them needs

-- a field of at most 16 layers that is given whole or not at all; where it isn't given and there are rows, null is a value of it
pub record IsReadable (files : List DataFile) (count : ℕ) (f : PlainField ℕ) : Type 0 where
  pub field : IsField f
  pub narrow : IsNarrow f
  pub layers : All (λ depth. depth ≤ 16) (depths_of f 0)
  pub whole : IsWhole files f
  pub absent : NoneGiven files f → (count ≡ 0) ⊎ Fits f null

-- ---- why they aren't opened

-- the columns that are asked of the file at a path, of these fields
abbrev pub picks_of_fields : List DataFile → List (PlainField ℕ) → List ℕ → List Pick
picks_of_fields files fields path = picks_at (uses_of files (leaves_in fields)) path

-- the object of this name is a file of the fragment of which a column is read
pub record IsUsedFile (files : List DataFile) (fields : List (PlainField ℕ)) (name : Name) : Type 0 where
  pub path : List ℕ
  pub used : Contains (paths_used files (uses_of files (leaves_in fields))) path
  pub named : name ≡ data_name path

-- the object is no data file with the columns that are asked of it
pub record HeadReasonStands (objects : List Object) (files : List DataFile) (fields : List (PlainField ℕ)) (name : Name) (stands : List Pick → Option (List ℕ) → Type 0) : Type 0 where
  pub file : IsUsedFile files fields name
  pub is : stands (picks_of_fields files fields file.path) (object objects name)

-- it is one, of another number of rows than the fragment's
abbrev pub HasRows : ℕ → List Pick → Option (List ℕ) → Type 0
HasRows rows picks held = IsSomeAnd held (λ bytes. (length bytes ≤ 2 ^ 30) × (columns : List (List PageMeta)) × HasHead picks bytes rows columns)

abbrev pub RefusesOpening : List Object → List (PlainField ℕ) → Fragment → ReadFault → Type 0
RefusesOpening objects fields f (Outside name (reason.File why) place) = HeadReasonStands objects f.files fields name (λ picks held. HeadStands picks held why place)
RefusesOpening objects fields f (Outside name (reason.Rows found stated) place) = (place ≡ 0) × (stated ≡ f.rows) × (found ≢ stated) × HeadReasonStands objects f.files fields name (HasRows found)
RefusesOpening objects fields f (Store name) = ⊤
RefusesOpening objects fields f Memory = ⊤
RefusesOpening objects fields f fault = ⊥
