-- What a change does to a dataset, or the first refusal of it.
use Rattle.std.specs.Prelude.{ℕ, ◌+◌, Bool, cond, not, ◌++◌, List, [], ◌∷◌, length, map, remove, position, find, is_some, nat_eq, nat_lt, Option, Some, None, option_map, Result, Ok, Err, bytes_eq}
use Rattle.std.specs.List.{list_any}
use Rattle.lan_model.specs.Plain.{field, PlainValue, null}
use Rattle.lan_model.specs.Table.{Column, Table, name_of}
use Rattle.lan_model.specs.Dataset.{Dataset, newest, table_at, with_version}

-- what a change asks for
pub data Command : Type 0 where
  create : List Column → Command
  append : List (List PlainValue) → Command
  delete : List ℕ → Command
  add_column : Column → List PlainValue → Command
  add_null : Column → Command
  drop_column : List ℕ → Command
  restore : ℕ → Command

-- why a change is refused
pub data Refusal : Type 0 where
  no_dataset : Refusal
  already_there : ℕ → Refusal
  no_version : ℕ → ℕ → Refusal
  row_out_of_range : ℕ → ℕ → Refusal
  no_column : List ℕ → Refusal
  column_there : List ℕ → Refusal
  last_column : List ℕ → Refusal
  no_nullable : List ℕ → Refusal
  count_differs : ℕ → ℕ → Refusal

-- the first position that is not below the rows
abbrev pub first_past : ℕ → List ℕ → Option ℕ
first_past rows positions = find (λ p. not (nat_lt p rows)) positions

-- the items whose place, counted from here, isn't listed
abbrev pub without : {X : Type 0} → List ℕ → ℕ → List X → List X
without positions at [] = []
without positions at (x ∷ xs) = cond (list_any (nat_eq at) positions) (without positions (at + 1) xs) (x ∷ without positions (at + 1) xs)

-- each row with its value at its end
abbrev pub each_with : List (List PlainValue) → List PlainValue → List (List PlainValue)
each_with [] values = []
each_with (row ∷ rows) [] = []
each_with (row ∷ rows) (v ∷ vs) = (row ++ v ∷ []) ∷ each_with rows vs

-- the place of the column of this name
abbrev pub place_of : List ℕ → List Column → Option ℕ
place_of name columns = position (λ c. bytes_eq (name_of c) name) columns

abbrev pub is_nullable : Column → Bool
is_nullable (field id name nullable ty) = nullable

-- the first refusal that stands, or else the answer
abbrev pub refuse_or : Option Refusal → Result Table Refusal → Result Table Refusal
refuse_or (Some refusal) answer = Err refusal
refuse_or None answer = answer

abbrev pub refuse_if : Bool → Refusal → Result Table Refusal → Result Table Refusal
refuse_if stands refusal answer = cond stands (Err refusal) answer

abbrev pub dropped : List ℕ → Table → Option ℕ → Result Table Refusal
dropped name t None = Err (no_column name)
dropped name t (Some place) = refuse_if (nat_eq (length t.columns) 1) (last_column name) (Ok (record { columns = remove t.columns place; rows = map (λ row. remove row place) t.rows }))

-- the table after a change of the newest table; `create` and `restore` are answered by `after`
abbrev pub changed : Table → Command → Result Table Refusal
changed t (append rows) = Ok (record t { rows = t.rows ++ rows })
changed t (delete positions) = refuse_or (option_map (λ p. row_out_of_range p (length t.rows)) (first_past (length t.rows) positions)) (Ok (record t { rows = without positions 0 t.rows }))
changed t (add_column f values) =
    refuse_if (is_some (place_of (name_of f) t.columns)) (column_there (name_of f))
    (refuse_if (not (nat_eq (length t.rows) (length values))) (count_differs (length t.rows) (length values)) (Ok (record { columns = t.columns ++ f ∷ []; rows = each_with t.rows values })))
changed t (add_null f) =
    refuse_if (not (is_nullable f)) (no_nullable (name_of f))
    (refuse_if (is_some (place_of (name_of f) t.columns)) (column_there (name_of f)) (Ok (record { columns = t.columns ++ f ∷ []; rows = map (λ row. row ++ null ∷ []) t.rows })))
changed t (drop_column name) = dropped name t (place_of name t.columns)
changed t (create columns) = Ok t
changed t (restore version) = Ok t

abbrev pub added : Dataset → ℕ → Result Table Refusal → Result Dataset Refusal
added d version (Ok t) = Ok (with_version d version t)
added d version (Err refusal) = Err refusal

abbrev pub created : Dataset → List Column → Option ℕ → Result Dataset Refusal
created d columns None = Ok (with_version d 1 (record { columns = columns; rows = [] }))
created d columns (Some version) = Err (already_there version)

-- the newest table, where it stands, is read before the old one
abbrev pub restored : Dataset → ℕ → ℕ → Option Table → Option (Result Dataset Refusal)
restored d version old None = None
restored d version old (Some t) = option_map (λ kept. Ok (with_version d (version + 1) kept)) (table_at d old)

-- a change of the newest version, where there is one
abbrev pub after_newest : Dataset → Command → Option ℕ → Option (Result Dataset Refusal)
after_newest d command None = Some (Err no_dataset)
after_newest d (restore old) (Some version) = cond (list_any (nat_eq old) d.listed) (restored d version old (table_at d version)) (Some (Err (no_version old version)))
after_newest d command (Some version) = option_map (λ t. added d (version + 1) (changed t command)) (table_at d version)

-- the dataset after a change, or the first refusal; `None` where the change reads a version that is listed and doesn't stand
abbrev pub after : Dataset → Command → Option (Result Dataset Refusal)
after d (create columns) = Some (created d columns (newest d))
after d command = after_newest d command (newest d)
