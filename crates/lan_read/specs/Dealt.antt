-- New cursors of files' columns, and how they are dealt to readers.
use Rattle.std.specs.Prelude.{◌≡◌, ◌≢◌, ⊤, ℕ, ◌<◌, List, [], ◌∷◌, ◌++◌, length, take, drop, All, Option, Some, None, slice_get, slice_index_or, slice_set}
use Rattle.std.specs.List.{AllZip}
use Rattle.lan_model.specs.Leaves.{plain_leaf}
use Rattle.lan_model.specs.declared.tree.Leaf.{Leaf}
use Rattle.lan_meta.specs.declared.page.PageMeta.{PageMeta}
use Rattle.lan_page.specs.ColumnCursors.{PlainCursor, at_first, cursor_pages}
use Rattle.lan_page.specs.Columns.{rows_of}
use Rattle.lan_store.specs.Budget.{Budget, nothing, plus}
use Rattle.lan_store.specs.Objects.{object}
use Rattle.lan_store.specs.declared.name.Name.{Name}
use Rattle.lan_store.specs.declared.name.Object.{Object}
use Rattle.lan_file.specs.HeadReasons.{HeadStands}
use Rattle.lan_file.specs.Heads.{HasHead, Pick}
use Rattle.lan_file.specs.declared.head_fault.HeadFault.{HeadFault}
use Rattle.lan_file.specs.declared.head_fault.HeadFault.TheVariants as head
use Rattle.lan_manifest.specs.declared.manifest.DataFile.{DataFile}
use Rattle.lan_read.specs.Opened.{HasRows, head_due}
use Rattle.lan_read.specs.Rows.{IsHeld, data_name}
use Rattle.lan_read.specs.declared.read_fault.Reason.TheVariants as reason
use Rattle.lan_read.specs.declared.read_fault.ReadFault.{ReadFault}
use Rattle.lan_read.specs.declared.read_fault.ReadFault.TheVariants.{Memory, Outside, Store}

-- ---- of one file

-- a new cursor of a column of so many rows
pub record IsFirst (name : Name) (rows : ℕ) (pick : Pick) (c : PlainCursor) : Type 0 where
  pub of_leaf : Leaf
  pub leaf_is : plain_leaf of_leaf ≡ pick.leaf
  pub pages : List PageMeta
  pub new : c ≡ at_first name of_leaf pages
  pub rows_are : rows_of pages ≡ rows

-- its pages are the column's, in a held file of so many rows
abbrev pub IsColumnOf : List Object → Name → ℕ → Pick → PlainCursor → Type 0
IsColumnOf objects name rows pick c = IsHeld objects name (λ bytes. HasHead (pick ∷ []) bytes rows (cursor_pages c ∷ []))

-- what is read of a file none of whose columns are asked costs nothing
abbrev pub file_due : List Object → List ℕ → List Pick → Budget
file_due objects path [] = nothing
file_due objects path (pick ∷ picks) = head_due (object objects (data_name path))

-- a fault of the head of the object of this name
abbrev pub fault_of : Name → HeadFault → ReadFault
fault_of name (head.Outside why place) = Outside name (reason.File why) place
fault_of name head.Store = Store name
fault_of name head.Memory = Memory

-- why a file's columns aren't opened
abbrev pub RefusesFile : List Object → List ℕ → List Pick → ℕ → ReadFault → Type 0
RefusesFile objects path picks rows (Outside name (reason.File why) place) = (name ≡ data_name path) × (0 < length picks) × HeadStands picks (object objects name) why place
RefusesFile objects path picks rows (Outside name (reason.Rows found stated) place) = (name ≡ data_name path) × (0 < length picks) × (place ≡ 0) × (stated ≡ rows) × (found ≢ stated) × HasRows found picks (object objects name)
RefusesFile objects path picks rows (Store name) = ⊤
RefusesFile objects path picks rows Memory = ⊤
RefusesFile objects path picks rows fault = ⊥

-- ---- of several

-- each file has a cursor for each of its columns, in order
abbrev pub AreOpened : (List ℕ → Pick → PlainCursor → Type 0) → List DataFile → List (List Pick) → List (List PlainCursor) → Type 0
AreOpened Opens [] [] [] = ⊤
AreOpened Opens (file ∷ files) (picks ∷ groups) (cursors ∷ opened) = AllZip (Opens file.path) picks cursors × AreOpened Opens files groups opened
AreOpened Opens _ _ _ = ⊥

abbrev pub AreFirst : ℕ → List DataFile → List (List Pick) → List (List PlainCursor) → Type 0
AreFirst rows files groups opened = AreOpened (λ path pick c. IsFirst (data_name path) rows pick c) files groups opened

abbrev pub AreColumns : List Object → ℕ → List DataFile → List (List Pick) → List (List PlainCursor) → Type 0
AreColumns objects rows files groups opened = AreOpened (λ path pick c. IsColumnOf objects (data_name path) rows pick c) files groups opened

abbrev pub files_due : List Object → List DataFile → List (List Pick) → Budget
files_due objects [] groups = nothing
files_due objects (file ∷ files) [] = nothing
files_due objects (file ∷ files) (picks ∷ groups) = plus (file_due objects file.path picks) (files_due objects files groups)

-- one of the files of which columns are read is why
pub record RefusesOne (objects : List Object) (files : List DataFile) (groups : List (List Pick)) (rows : ℕ) (fault : ReadFault) : Type 0 where
  pub number : ℕ
  pub file : DataFile
  pub file_at : slice_get files number ≡ Some file
  pub picks : List Pick
  pub picks_at : slice_get groups number ≡ Some picks
  pub refuses : RefusesFile objects file.path picks rows fault

abbrev pub RefusesFiles : List Object → List DataFile → List (List Pick) → ℕ → ReadFault → Type 0
RefusesFiles objects files groups rows (Outside name why place) = RefusesOne objects files groups rows (Outside name why place)
RefusesFiles objects files groups rows (Store name) = ⊤
RefusesFiles objects files groups rows Memory = ⊤
RefusesFiles objects files groups rows fault = ⊥

-- ---- dealing

-- the cursors of a file that are left when the first is taken
abbrev pub without_first : List (List PlainCursor) → ℕ → List (List PlainCursor)
without_first opened number = slice_set opened number (drop 1 (slice_index_or opened number []))

-- the first cursor of each of these files that is left, in order
abbrev pub dealt : List ℕ → List (List PlainCursor) → List PlainCursor
dealt [] opened = []
dealt (number ∷ numbers) opened = take 1 (slice_index_or opened number []) ++ dealt numbers (without_first opened number)

abbrev pub left : List ℕ → List (List PlainCursor) → List (List PlainCursor)
left [] opened = opened
left (number ∷ numbers) opened = left numbers (without_first opened number)

-- the reader of a field whose leaves' columns lie in these files
abbrev pub reader_of : List ℕ → List (List PlainCursor) → Option (List PlainCursor)
reader_of [] opened = None
reader_of (number ∷ numbers) opened = Some (dealt (number ∷ numbers) opened)

abbrev pub readers_of : List (List ℕ) → List (List PlainCursor) → List (Option (List PlainCursor))
readers_of [] opened = []
readers_of (numbers ∷ fields) opened = reader_of numbers opened ∷ readers_of fields (left numbers opened)

-- each of these files is there
abbrev pub AreThere : List ℕ → List (List PlainCursor) → Type 0
AreThere numbers opened = All (λ number. number < length opened) numbers
