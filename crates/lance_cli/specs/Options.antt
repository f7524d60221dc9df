-- The options of a command line: the version that is read, and the columns.
use Rattle.std.specs.Prelude.{ℕ, ◌^◌, ◌==◌, ◌&&◌, Bool, true, not, List, [], ◌∷◌, codes, cond, nat_lt, bytes_eq, decimal, Option, Some, None, is_some, option_map, option_and_then}
use Rattle.std.specs.List.{list_any, slice_split}
use Rattle.std.specs.Str.Parse.{digits_value}
use Rattle.lance_cli.specs.declared.options.Options.{Options as Read}

-- what the options ask for, each of which may be left out
pub record Options : Type 0 where
  pub version : Option ℕ
  pub columns : Option (List (List ℕ))

-- the number below 2 ^ 64 that a text writes in plain decimal, without a sign or a leading zero
unfoldable pub number_in : List ℕ → Option ℕ
number_in s = let n = digits_value 10 s in cond (bytes_eq s (decimal n) && nat_lt n (2 ^ 64)) (Some n) None

-- the texts round the commas of a text
abbrev pub between_commas : List ℕ → List (List ℕ)
between_commas s = slice_split (λ b. b == 44) s

abbrev pub is_among : List (List ℕ) → List ℕ → Bool
is_among names name = list_any (λ other. bytes_eq other name) names

-- none is empty, and none stands twice
abbrev pub are_names : List (List ℕ) → Bool
are_names [] = true
are_names (name ∷ names) = not (bytes_eq name []) && (not (is_among names name) && are_names names)

-- the names round the commas of a text
unfoldable pub names_in : List ℕ → Option (List (List ℕ))
names_in s = cond (are_names (between_commas s)) (Some (between_commas s)) None

-- with a version, where none is asked for yet
abbrev pub with_version : List ℕ → Options → Option Options
with_version value options = cond (is_some options.version) None (option_map (λ n. record { version = Some n; columns = options.columns }) (number_in value))

-- with columns, where none are asked for yet
abbrev pub with_columns : List ℕ → Options → Option Options
with_columns value options = cond (is_some options.columns) None (option_map (λ names. record { version = options.version; columns = Some names }) (names_in value))

-- with the option of this name and value
unfoldable pub with_option : List ℕ → List ℕ → Options → Option Options
with_option name value options =
    cond (bytes_eq name (codes "--version")) (with_version value options)
    (cond (bytes_eq name (codes "--columns")) (with_columns value options) None)

-- the options that words ask for, a name and a value each, in any order
unfoldable pub options_in : List (List ℕ) → Option Options
options_in [] = Some (record { version = None; columns = None })
options_in (name ∷ []) = None
options_in (name ∷ value ∷ words) = option_and_then (with_option name value) (options_in words)

-- what the program has read in the words
abbrev pub plain_options : Read → Options
plain_options o = record { version = o.version; columns = o.columns }
