-- Commands as they are told, and what is replied to them: a fold over tables alone.
use Rattle.std.specs.Prelude.{◌≡◌, ℕ, List, [], ◌∷◌, ◌++◌, length, sum, flat_map, Bool, true, false, cond, ◌&&◌, ◌||◌, nat_eq, nat_le, codes, decimal, Option, Some, None, unwrap_or, option_map, option_and_then, Result, Ok, Err, is_ok}
use Rattle.lan_model.specs.Plain.{PlainValue}
use Rattle.lan_model.specs.Table.{Column, Table}
use Rattle.lan_model.specs.Dataset.{Dataset, newest, table_at}
use Rattle.lan_model.specs.After as change
use Rattle.lan_model.specs.After.{after, Command, Refusal}
use Rattle.std.specs.List.{list_any}
use Rattle.lan_form.specs.Form.{form}
use Rattle.lan_form.specs.Judged.{Judged}
use Rattle.lan_model.specs.Take.{scan_of}
use Rattle.lan_rows.specs.Line.{line_of}
use Rattle.lan_rows.specs.Lines.{rows_of, cut}
use Rattle.lan_rows.specs.declared.lines.LinesFault.{LinesFault}
use Rattle.lance_cli.specs.Commands.{Asked, create, append, restore, scan, schema, versions, asked_of, reads_input, Request}
use Rattle.lance_cli.specs.Faults.{status_of, fault_text, of_form, of_lines}
use Rattle.lance_cli.specs.Reports.{version_text, schema_text, versions_text}
use Rattle.lance_cli.specs.Scanning.{lines_at, places_asked}
use Rattle.lance_cli.specs.declared.fault.Fault.{Fault}
use Rattle.lance_cli.specs.declared.fault.Fault.TheVariants as fault
use Rattle.lan_commit.specs.declared.limits.Which.{Which}

-- what the objects show at a command: a limit that it reaches, a version with which it conflicts, and how many zones it stores
pub record Shown : Type 0 where
  pub limit : Option (Which × ℕ)
  pub conflict : Option ℕ
  pub zones : ℕ

-- a command as it is told: what it requests, and what the objects show at it
pub record Told : Type 0 where
  pub request : Request
  pub shown : Shown

-- what is replied: a refusal, or a text and the dataset after it
pub data Outcome : Type 0 where
  refused : Fault → Outcome
  done : List ℕ → Dataset → Outcome

abbrev pub fault_of : Refusal → Fault
fault_of change.no_dataset = fault.NoDataset
fault_of (change.already_there version) = fault.AlreadyThere version
fault_of (change.no_version asked newest) = fault.NoVersion asked newest
fault_of (change.row_out_of_range row rows) = fault.RowOutOfRange row rows
fault_of (change.no_column name) = fault.NoColumn name
fault_of (change.column_there name) = fault.ColumnThere name
fault_of (change.last_column name) = fault.LastColumn name
fault_of (change.no_nullable name) = fault.NoNullable name
fault_of (change.count_differs rows lines) = fault.CountDiffers rows lines

-- the limit comes behind every other refusal
abbrev pub within : Option (Which × ℕ) → Dataset → Outcome
within None d = done (version_text (unwrap_or (newest d) 0)) d
within (Some limit) d = refused (fault.Limit limit.0 limit.1)

abbrev pub changed_to : Shown → Result Dataset Refusal → Outcome
changed_to shown (Ok d) = within shown.limit d
changed_to shown (Err refusal) = refused (fault_of refusal)

abbrev pub change_reply : Dataset → Shown → Command → Option Outcome
change_reply d shown command = option_map (changed_to shown) (after d command)

-- the words are a line of the command's own
abbrev pub create_reply : Dataset → ℕ → Shown → Judged (List Column) → Option Outcome
create_reply d line shown (Ok columns) = change_reply d shown (change.create columns)
create_reply d line shown (Err f) = Some (refused (of_form line f))

abbrev pub append_reply : Dataset → Shown → Result (List (List PlainValue)) LinesFault → Option Outcome
append_reply d shown (Ok rows) = change_reply d shown (change.append rows)
append_reply d shown (Err f) = Some (refused (of_lines f))

-- the lines of the table's rows, in the columns at these places
abbrev pub scan_reply : Dataset → Table → Result (List ℕ) Refusal → Outcome
scan_reply d t (Ok places) = done (lines_at t.columns places (scan_of t places)) d
scan_reply d t (Err refusal) = refused (fault_of refusal)

abbrev pub versions_reply : Dataset → List ℕ → Outcome
versions_reply d [] = refused fault.NoDataset
versions_reply d (version ∷ listed) = done (versions_text (version ∷ listed)) d

-- what reads the version of a number, or the newest: a refusal where it isn't listed, and nothing where it doesn't stand
abbrev pub on_listed : Dataset → (Table → Option Outcome) → ℕ → Option ℕ → Option Outcome
on_listed d read newest None = option_and_then read (table_at d newest)
on_listed d read newest (Some version) = cond (list_any (nat_eq version) d.listed) (option_and_then read (table_at d version)) (Some (refused (fault.NoVersion version newest)))

abbrev pub on_version : Dataset → Option ℕ → (Table → Option Outcome) → Option ℕ → Option Outcome
on_version d asked read None = Some (refused fault.NoDataset)
on_version d asked read (Some newest) = on_listed d read newest asked

abbrev pub answer : Dataset → Told → Asked → Option Outcome
answer d told (create json) = create_reply d told.request.line told.shown (form json)
answer d told append = on_version d None (λ t. append_reply d told.shown (rows_of t.columns told.request.lines)) (newest d)
answer d told (restore version) = change_reply d told.shown (change.restore version)
answer d told (scan options) = on_version d options.version (λ t. Some (scan_reply d t (places_asked t.columns options.columns))) (newest d)
answer d told (schema version) = on_version d version (λ t. Some (done (schema_text t.columns) d)) (newest d)
answer d told versions = Some (versions_reply d d.listed)

-- the reply to one command; `None` where it reads a version that is listed and doesn't stand
abbrev pub reply : Dataset → Told → Option Outcome
reply d told = answer d told told.request.asked

-- ---- a list of commands

-- how a list is answered: a command by itself, the commands of a batch, or those of `generate`
pub data Mode : Type 0 where
  single : Mode
  batch : Mode
  generate : Mode

-- what is said of an outcome: a text, or a refusal
abbrev pub said_by : Outcome → Result (List ℕ) Fault
said_by (refused f) = Err f
said_by (done text later) = Ok text

-- the refusals that are a reply of a batch
abbrev pub is_replied : Fault → Bool
is_replied f = nat_eq (status_of f) 3 || (nat_le 5 (status_of f) && nat_le (status_of f) 14)

-- whether the commands behind one of which this is said have their turn
abbrev pub goes_on : Mode → Result (List ℕ) Fault → Bool
goes_on mode (Ok text) = true
goes_on single (Err f) = false
goes_on batch (Err f) = is_replied f
goes_on generate (Err f) = false

abbrev pub left_by : Dataset → Outcome → Dataset
left_by d (refused f) = d
left_by d (done text later) = later

-- the outcomes of told commands in turn, up to the first that ends the list
abbrev pub outcomes : Mode → List Told → Dataset → Option (List Outcome)
outcomes mode [] d = Some []
outcomes mode (told ∷ more) d = option_and_then (λ o. option_map (λ os. o ∷ os) (cond (goes_on mode (said_by o)) (outcomes mode more (left_by d o)) (Some []))) (reply d told)

abbrev pub left_after : Dataset → List Outcome → Dataset
left_after d [] = d
left_after d (o ∷ os) = left_after (left_by d o) os

-- the answer: of the first refusal that ends the list, or an Ok
abbrev pub answer_to : Mode → List Outcome → Result Unit Fault
answer_to mode [] = Ok tt
answer_to mode (done text later ∷ os) = answer_to mode os
answer_to mode (refused f ∷ os) = cond (goes_on mode (Err f)) (answer_to mode os) (Err f)

-- what a command prints in its turn: of `generate` nothing comes before the end
abbrev pub text_by : Mode → Result (List ℕ) Fault → List ℕ
text_by single (Ok text) = text
text_by single (Err f) = []
text_by batch (Ok text) = text
text_by batch (Err f) = cond (is_replied f) (codes "refused: " ++ (fault_text f ++ codes "\n")) []
text_by generate said = []

-- the rows of a table, the bytes of its scan, and the sum of these bytes
abbrev pub summary_of : List ℕ → ℕ → List ℕ
summary_of scanned rows = codes "rows " ++ (decimal rows ++ (codes "\nbytes " ++ (decimal (length scanned) ++ (codes "\nsum " ++ (decimal (sum scanned) ++ codes "\n")))))

abbrev pub summary : Option Table → List ℕ
summary None = []
summary (Some t) = summary_of (flat_map (line_of t.columns) t.rows) (length t.rows)

-- what is printed once all commands are done: of `generate` the summary of the newest table
abbrev pub closing : Mode → Dataset → List ℕ
closing single d = []
closing batch d = []
closing generate d = summary (option_and_then (table_at d) (newest d))

-- the text and the dataset after a list, and its answer
pub record Replied : Type 0 where
  pub text : List ℕ
  pub later : Dataset
  pub answer : Result Unit Fault

abbrev pub texts : Mode → List Outcome → List ℕ
texts mode os = flat_map (λ o. text_by mode (said_by o)) os

abbrev pub replied : Mode → Dataset → List Outcome → Replied
replied mode d os = record { text = texts mode os ++ cond (is_ok (answer_to mode os)) (closing mode (left_after d os)) []; later = left_after d os; answer = answer_to mode os }

-- what is replied to told commands, one after another; `None` where one reads a version that is listed and doesn't stand
abbrev pub replies : Mode → List Told → Dataset → Option Replied
replies mode told d = option_map (replied mode d) (outcomes mode told d)

-- a command by itself: its words are line 0, and its lines are those of the input
abbrev pub alone : Asked → List ℕ → Request
alone asked input = record { asked = asked; line = 0; lines = cond (reads_input asked) (cut 1 [] input) [] }

-- what the words and the input tell: the requests, and how their list is answered; one by itself so far
abbrev pub Tells : List (List ℕ) → List ℕ → Mode → List Request → Type 0
Tells words input single (r ∷ []) = (asked_of words ≡ Some r.asked) × (r ≡ alone r.asked input)
Tells words input mode requests = ⊥
