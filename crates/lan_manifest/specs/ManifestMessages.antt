-- What the messages of a manifest say, before its rules are looked at.
use Rattle.std.specs.Prelude.{◌≡◌, ◌⊎◌, Bool, true, false, List, Option, Some, None}
use Rattle.lan_bytes.specs.Placed.{Placed}
use Rattle.lan_wire.specs.declared.item.Item.{Item}
use Rattle.lan_wire.specs.declared.item.WireFault.{WireFault}
use Rattle.lan_wire.specs.Messages.{ReadsItems, FailsToRead, ReadsAs, ReadsValue, FailsPlainly, FailsOr, ReadEach, FailsInOne}
use Rattle.lan_wire.specs.Rules.{open_to}
use Rattle.lan_wire.specs.Values.{num_under, small_under, maybe_small_under, text_under, signeds_under, part_under, parts_under, Under}
use Rattle.lan_manifest.specs.declared.fault.ManifestFault.{ManifestFault}
use Rattle.lan_manifest.specs.declared.fault.ManifestFault.TheVariants.{Wire, Memory}
use Rattle.lan_manifest.specs.declared.said.SaidFile.{SaidFile}
use Rattle.lan_manifest.specs.declared.said.SaidDeletion.{SaidDeletion}
use Rattle.lan_manifest.specs.declared.said.SaidFragment.{SaidFragment}
use Rattle.lan_manifest.specs.declared.said.SaidManifest.{SaidManifest}
use Rattle.lan_manifest.specs.declared.said.TheConstants.{MANIFEST, DATA_FRAGMENT, ROW_IDS, DATA_FILE, DELETION_FILE}

-- ---- DataFile

abbrev pub file_said : List Item → SaidFile
file_said items = record { file = record { path = text_under 1 items; ids = signeds_under 2 items; columns = signeds_under 3 items }; major = small_under 4 items; minor = small_under 5 items }

abbrev pub SaysFile : Placed → SaidFile → Type 0
SaysFile part file = ReadsValue (open_to DATA_FILE) file_said part file

-- where a DataFile can't be read; memory may want
abbrev pub FailsFile : Placed → ManifestFault → Type 0
FailsFile part error = FailsOr Wire (open_to DATA_FILE) (λ items e. e ≡ Memory) part error

-- ---- DeletionFile

abbrev pub deletion_said : List Item → SaidDeletion
deletion_said items = record { kind = num_under 1 items; deletion = record { read_version = num_under 2 items; id = num_under 3 items; rows = num_under 4 items } }

abbrev pub SaysDeletion : Placed → SaidDeletion → Type 0
SaysDeletion part deletion = ReadsValue (open_to DELETION_FILE) deletion_said part deletion

abbrev pub FailsDeletion : Placed → ManifestFault → Type 0
FailsDeletion part error = FailsPlainly Wire (open_to DELETION_FILE) part error

-- ---- DataFragment

-- a fragment may have no deletion file
abbrev pub SaysDeletions : List Item → Option SaidDeletion → Type 0
SaysDeletions items None = part_under 3 items ≡ None
SaysDeletions items (Some deletion) = Under 3 SaysDeletion items deletion

-- whether the message has row ids: no item is taken under their numbers, whatever it is
abbrev pub SaysRowIds : Placed → Bool → Type 0
SaysRowIds part true = (fault : WireFault) × FailsToRead (open_to ROW_IDS) part fault
SaysRowIds part false = (items : List Item) × ReadsItems (open_to ROW_IDS) part items

pub record FragmentSaid (items : List Item) (fragment : SaidFragment) : Type 0 where
  pub id : fragment.id ≡ num_under 1 items
  pub files : ReadEach SaysFile (parts_under 2 items) fragment.files
  pub deletion : SaysDeletions items fragment.deletion
  pub rows : fragment.rows ≡ num_under 4 items

abbrev pub SaysFragment : Placed → SaidFragment → Type 0
SaysFragment part fragment = ReadsAs (open_to DATA_FRAGMENT) FragmentSaid part fragment × SaysRowIds part fragment.row_ids

-- one of its messages can't be read; memory may want
abbrev pub LacksInFragment : List Item → ManifestFault → Type 0
LacksInFragment items error = (error ≡ Memory) ⊎ FailsInOne FailsFile (parts_under 2 items) error ⊎ Under 3 FailsDeletion items error

abbrev pub FailsFragment : Placed → ManifestFault → Type 0
FailsFragment part error = FailsOr Wire (open_to DATA_FRAGMENT) LacksInFragment part error

-- ---- Manifest, but for its fields

pub record ManifestSaid (items : List Item) (manifest : SaidManifest) : Type 0 where
  pub fragments : ReadEach SaysFragment (parts_under 2 items) manifest.fragments
  pub version : manifest.version ≡ num_under 3 items
  pub flags : manifest.flags ≡ num_under 9 items
  pub greatest : manifest.greatest ≡ maybe_small_under 11 items

-- the bytes are a message that says this
abbrev pub SaysManifest : Placed → SaidManifest → Type 0
SaysManifest message manifest = ReadsAs (open_to MANIFEST) ManifestSaid message manifest

abbrev pub LacksFragment : List Item → ManifestFault → Type 0
LacksFragment items error = (error ≡ Memory) ⊎ FailsInOne FailsFragment (parts_under 2 items) error

-- where it can't be read; memory may want
abbrev pub FailsManifest : Placed → ManifestFault → Type 0
FailsManifest message error = FailsOr Wire (open_to MANIFEST) LacksFragment message error
