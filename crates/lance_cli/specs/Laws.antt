-- Laws of runs.
use Rattle.std.specs.Prelude.{◌≡◌, ◌⊎◌, ℕ, ◌^◌, ◌<◌, ◌≤◌, ⊤, List, ◌++◌, length, take, map, IsSome, Option, Some, Result, Ok, Err}
use Rattle.std.specs.Option.{ForSome}
use Rattle.lan_model.specs.Dataset.{Dataset, table_at}
use Rattle.lan_model.specs.Plain.{PlainValue, unnumbered}
use Rattle.lan_model.specs.Table.{Column, Table}
use Rattle.lan_form.specs.Form.{form}
use Rattle.lan_rows.specs.Lines.{rows_of}
use Rattle.lan_store.specs.declared.name.Object.{Object}
use Rattle.lan_manifest.specs.Manifests.{PlainManifest}
use Rattle.lan_read.specs.Snapshots.{IsNewestManifest}
use Rattle.lan_read.specs.Tables.{StandsFor, AgreesWith}
use Rattle.lan_commit.specs.Shredded.{CanBeWritten}
use Rattle.lance_cli.specs.Causes.{Reads}
use Rattle.lance_cli.specs.Chain.{Link, IsLink, Chain, outcomes_of, puts_of, IsFront}
use Rattle.lance_cli.specs.Commands.{Asked, create, append, asked_of, Request}
use Rattle.lance_cli.specs.Creates.{IsTaken}
use Rattle.lance_cli.specs.Replies.{Told, Mode, single, batch, Replied, replies, outcomes, left_after, alone}
use Rattle.lance_cli.specs.Runs.{Entry, heard, IsRun, IsBeforeAll, IsUntouched, Ran}
use Rattle.lance_cli.specs.Served.{Served}
use Rattle.lance_cli.specs.declared.fault.Fault.{Fault}

abbrev pub replied_as : List ℕ → Dataset → Result Unit Fault → Replied
replied_as text later answer = record { text = text; later = later; answer = answer }

-- a batch in two parts: the texts one behind the other, and the dataset and the answer of the second, on the dataset that the first leaves
abbrev pub RepliesOfParts : Type 0
RepliesOfParts = (xs ys : List Told) (d : Dataset) (first second : Replied) → replies batch xs d ≡ Some first → first.answer ≡ Ok tt → replies batch ys first.later ≡ Some second
    → replies batch (xs ++ ys) d ≡ Some (replied_as (first.text ++ second.text) second.later second.answer)

-- a batch that ends in its first part is that part
abbrev pub RepliesEnd : Type 0
RepliesEnd = (xs ys : List Told) (d : Dataset) (first : Replied) (f : Fault) → replies batch xs d ≡ Some first → first.answer ≡ Err f → replies batch (xs ++ ys) d ≡ Some first

-- the outcomes along a chain are those of the replies, which know no objects
abbrev pub ChainsAreReplied : Type 0
ChainsAreReplied = (mode : Mode) (objects : List Object) (d : Dataset) (told : List Told) (links : List Link) → Chain mode objects d told links → outcomes mode told d ≡ Some (outcomes_of links)

-- at every step the objects stand for the dataset after the links before it
abbrev pub StepsAgree : Type 0
StepsAgree = (mode : Mode) (old : List Object) (d : Dataset) (told : List Told) (before behind : List Link) → AgreesWith old d → Chain mode old d told (before ++ behind) → AgreesWith (old ++ puts_of before) (left_after d (outcomes_of before))

-- each front of a chain's objects stands for the dataset after so many of the accepted changes
abbrev pub FrontsStand : Type 0
FrontsStand = (mode : Mode) (old : List Object) (d : Dataset) (told : List Told) (links : List Link) (k : ℕ) → AgreesWith old d → Chain mode old d told links → k ≤ length (puts_of links) → (m : ℕ) × IsFront old d links m (old ++ take k (puts_of links))

-- so many, and no others
abbrev pub FrontsCount : Type 0
FrontsCount = (old : List Object) (d : Dataset) (links : List Link) (m n : ℕ) (part : List Object) → IsFront old d links m part → IsFront old d links n part → m ≡ n

-- ---- that there are chains

-- what lines are read as can be written in the newest manifest's fields
abbrev pub RowsCanBeWritten : List Object → List (ℕ × List ℕ) → Type 0
RowsCanBeWritten objects lines = (m : PlainManifest) (rows : List (List PlainValue)) → IsNewestManifest objects m → rows_of (map unnumbered m.fields) lines ≡ Ok rows → CanBeWritten m.fields rows × (length rows < 2 ^ 31)

-- what a command's text or lines are read as can be stored, as the reader of each says of what it reads
abbrev pub IsSound : List Object → Request → Asked → Type 0
IsSound objects r (create json) = (columns : List Column) → form json ≡ Ok columns → IsTaken json
IsSound objects r append = RowsCanBeWritten objects r.lines
IsSound objects r asked = ⊤

-- each version that the command reads has a table in the dataset
abbrev pub HasTables : List Object → Dataset → Asked → Type 0
HasTables objects d asked = (version : ℕ) → Reads objects asked version → IsSome (table_at d version)

-- on objects that agree with a dataset, a command has a link where the versions that it reads have tables there
abbrev pub LinksExist : Type 0
LinksExist = (objects : List Object) (d : Dataset) (r : Request) → AgreesWith objects d → IsSound objects r r.asked → HasTables objects d r.asked → (link : Link) × (link.told.request ≡ r) × IsLink objects d link

-- each version that the command reads stands for a table
abbrev pub AllStand : List Object → Asked → Type 0
AllStand objects asked = (version : ℕ) → Reads objects asked version → (t : Table) × StandsFor objects version t

-- where the versions that a command reads stand, there is a dataset with which the objects agree, and the command's chain on it
abbrev pub RunsExist : Type 0
RunsExist = (words : List (List ℕ)) (input : List ℕ) (objects : List Object) (asked : Asked) → asked_of words ≡ Some asked → IsSound objects (alone asked input) asked → AllStand objects asked
    → (d : Dataset) × (links : List Link) × IsRun words input objects single d links

-- ---- a command by itself

-- what a command by itself did, on the objects at entry and with the lines of the input that is heard
pub record ServedAlone (e : Entry) (asked : Asked) (now : Option (List Object)) (held holds : Option (List ℕ)) (result : Result Unit Fault) : Type 0 where
  pub input : List ℕ
  pub is_heard : ForSome (heard e) (λ all. input ≡ all)
  pub served : Served (record { before = e.objects; now = now; held = held; holds = holds }) (alone asked input) result

-- a run of one command did what that command does by itself, or was refused before the store was asked
abbrev pub IsOfOne : Entry → Asked → Option (List Object) → Option (List ℕ) → Option (List ℕ) → Result Unit Fault → Type 0
IsOfOne e asked now held holds (Ok done) = ForSome e.objects (λ _. ServedAlone e asked now held holds (Ok done))
IsOfOne e asked now held holds (Err f) = (IsBeforeAll f × IsUntouched e.objects now held holds) ⊎ ServedAlone e asked now held holds (Err f)

abbrev pub RunsOfOne : Type 0
RunsOfOne = (e : Entry) (asked : Asked) (now : Option (List Object)) (held holds : Option (List ℕ)) (result : Result Unit Fault) → asked_of e.words ≡ Some asked → Ran e now held holds result → IsOfOne e asked now held holds result
