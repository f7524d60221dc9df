-- What the words ask for.
use Rattle.std.specs.Prelude.{ℕ, Bool, true, false, List, [], ◌∷◌, codes, cond, bytes_eq, Option, Some, None, option_map, option_and_then}
use Rattle.lance_cli.specs.Options.{Options, number_in, options_in, plain_options}
use Rattle.lance_cli.specs.declared.command.Asked.{Asked as Parsed}
use Rattle.lance_cli.specs.declared.command.Asked.TheVariants as parsed

-- a command, as its words ask for it; each further command is a case more
pub data Asked : Type 0 where
  create : List ℕ → Asked
  append : Asked
  restore : ℕ → Asked
  scan : Options → Asked
  schema : Option ℕ → Asked
  versions : Asked

-- the commands that read the input, as their lines
abbrev pub reads_input : Asked → Bool
reads_input append = true
reads_input asked = false

-- those that are refused where no version is listed
abbrev pub needs_dataset : Asked → Bool
needs_dataset (create json) = false
needs_dataset asked = true

-- those that make a version where they are accepted
abbrev pub is_change : Asked → Bool
is_change (create json) = true
is_change append = true
is_change (restore version) = true
is_change asked = false

-- those that print rows
abbrev pub prints_rows : Asked → Bool
prints_rows (scan options) = true
prints_rows asked = false

-- what is requested: what the words ask for, the number of their line, and the numbered lines that are given
pub record Request : Type 0 where
  pub asked : Asked
  pub line : ℕ
  pub lines : List (ℕ × List ℕ)

abbrev pub one_word : List (List ℕ) → Option (List ℕ)
one_word (word ∷ []) = Some word
one_word words = None

abbrev pub no_word : Asked → List (List ℕ) → Option Asked
no_word asked [] = Some asked
no_word asked words = None

-- the version that options ask for, where they ask for no columns
abbrev pub version_alone : Option (List (List ℕ)) → Option ℕ → Option Asked
version_alone None version = Some (schema version)
version_alone (Some columns) version = None

abbrev pub schema_of : Options → Option Asked
schema_of options = version_alone options.columns options.version

-- the rule of words
unfoldable pub asked_of : List (List ℕ) → Option Asked
asked_of [] = None
asked_of (command ∷ words) =
    cond (bytes_eq command (codes "create")) (option_map create (one_word words))
    (cond (bytes_eq command (codes "append")) (no_word append words)
    (cond (bytes_eq command (codes "restore")) (option_map restore (option_and_then number_in (one_word words)))
    (cond (bytes_eq command (codes "scan")) (option_map scan (options_in words))
    (cond (bytes_eq command (codes "schema")) (option_and_then schema_of (options_in words))
    (cond (bytes_eq command (codes "versions")) (no_word versions words) None)))))

-- what the program has read in the words
abbrev pub asked_as : Parsed → Asked
asked_as (parsed.Create json) = create json.now
asked_as parsed.Append = append
asked_as (parsed.Restore version) = restore version
asked_as (parsed.Scan options) = scan (plain_options options)
asked_as (parsed.Schema version) = schema version
asked_as parsed.Versions = versions
