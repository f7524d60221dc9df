-- What is answered to a command that prints a schema, or the versions.
use Rattle.std.proofs.Common.{◌≡◌, refl, ap, ℕ, ◌<◌, List, length, map}
use Rattle.std.specs.Prelude.{Option, Some, Result, Ok, Err}
use Rattle.std.specs.Option.{ForSome}
use Rattle.lan_model.specs.PlainTable.{column_of}
use Rattle.lan_store.specs.declared.name.Object.{Object}
use Rattle.lan_manifest.specs.Manifests.{plain_manifest}
use Rattle.lan_manifest.specs.Versions.{AreListed}
use Rattle.lan_manifest.specs.declared.manifest.Manifest.{Manifest}
use Rattle.lan_read.specs.Opening.{Opens, RefusesListing}
use Rattle.lan_read.specs.declared.read_fault.ReadFault.{ReadFault}
use Rattle.lan_read.specs.declared.read_fault.ReadFault.TheVariants as unread
use Rattle.lance_cli.specs.Changes.{Change}
use Rattle.lance_cli.specs.Commands.{schema, versions}
use Rattle.lance_cli.specs.Faults.{of_read}
use Rattle.lance_cli.specs.Plans.{Plans}
use Rattle.lance_cli.specs.Puts.{Prints}
use Rattle.lance_cli.specs.Reports.{PrintsReply, schema_text, versions_text}
use Rattle.lance_cli.specs.Served.{Served}
use Rattle.lance_cli.specs.declared.fault.Fault.{Fault}
use Rattle.lance_cli.proofs.Numbered.{columns_are}
use Rattle.lance_cli.proofs.Serving.{text_served, unplanned_served}
use Rattle.lance_cli.proofs.VersionOpened.{unopened_plans}

-- the version whose schema is asked for isn't opened
pub unopened_schema : (c : Change) (asked : Option ℕ) (line : ℕ) (lines : List (ℕ × List ℕ)) (f : ReadFault) → ((number newest : ℕ) → f ≡ unread.NoVersion number newest → asked ≡ Some number) → ForSome c.before (λ all. Opens all asked (Err f)) → c.now ≡ c.before → c.holds ≡ c.held
    → Served c (record { asked = schema asked; line = line; lines = lines }) (Err (of_read f))
unopened_schema c asked line lines f named opens same bytes =
    unplanned_served (record { asked = schema asked; line = line; lines = lines }) c (of_read f)
    (unopened_plans c.before (record { asked = schema asked; line = line; lines = lines }) asked f refl (λ n is. is) named (λ all told v is. is) opens) same bytes

-- its schema was written, or a front of it
pub schema_replied : (c : Change) (asked : Option ℕ) (line : ℕ) (lines : List (ℕ × List ℕ)) (m : Manifest) (result : Result Unit Fault) → c.now ≡ c.before → ForSome c.before (λ all. Opens all asked (Ok m)) → PrintsReply (schema_text (map column_of m.fields)) c.held c.holds result
    → Served c (record { asked = schema asked; line = line; lines = lines }) result
schema_replied c asked line lines m result same opens prints =
    text_served c (record { asked = schema asked; line = line; lines = lines }) (schema_text (map column_of m.fields)) result refl same (λ old was. says old (opens old was)) prints (λ written. written) where
      says : (old : List Object) → Opens old asked (Ok m) → Prints old (schema asked) (schema_text (map column_of m.fields))
      says old (is, has) = (plain_manifest m, record { is_asked = is; has = has }, ap schema_text (columns_are m.fields))

-- no versions are listed
pub unlisted : (c : Change) (line : ℕ) (lines : List (ℕ × List ℕ)) (f : ReadFault) → ((number newest : ℕ) → f ≡ unread.NoVersion number newest → ⊥) → ForSome c.before (λ all. RefusesListing all f) → c.now ≡ c.before → c.holds ≡ c.held
    → Served c (record { asked = versions; line = line; lines = lines }) (Err (of_read f))
unlisted c line lines f named none same bytes = unplanned_served (record { asked = versions; line = line; lines = lines }) c (of_read f) (why f named none) same bytes where
  why : (f : ReadFault) → ((number newest : ℕ) → f ≡ unread.NoVersion number newest → ⊥) → ForSome c.before (λ all. RefusesListing all f) → Plans c.before (record { asked = versions; line = line; lines = lines }) (Err (of_read f))
  why unread.NoDataset named none = (refl, none)
  why (unread.NoVersion number newest) named none = absurd (named number newest refl)
  why (unread.Outside name reason place) named none = (refl, λ all told. absurd (none all told))
  why (unread.Store name) named none = tt
  why unread.Memory named none = tt

-- their numbers were written, or a front of them
pub versions_replied : (c : Change) (line : ℕ) (lines : List (ℕ × List ℕ)) (listed : List ℕ) (result : Result Unit Fault) → c.now ≡ c.before → ForSome c.before (λ all. AreListed all listed) → 0 < length listed → PrintsReply (versions_text listed) c.held c.holds result
    → Served c (record { asked = versions; line = line; lines = lines }) result
versions_replied c line lines listed result same are some prints =
    text_served c (record { asked = versions; line = line; lines = lines }) (versions_text listed) result refl same (λ old was. (listed, are old was, some, refl)) prints (λ written. written)
