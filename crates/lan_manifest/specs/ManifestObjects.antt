-- When an object stands for a manifest of a version, and why it doesn't.
use Rattle.std.specs.Prelude.{◌≡◌, ◌≢◌, ◌⊎◌, ℕ, ◌-◌, ◌^◌, ◌<◌, ◌≤◌, bit_and, List, length, map, Option, option_map}
use Rattle.lan_bytes.specs.Placed.{Placed}
use Rattle.lan_model.specs.Plain.{PlainField, PlainFields, fields_from}
use Rattle.lan_schema.specs.FieldsOf.{FieldsOf}
use Rattle.lan_schema.specs.SchemaFaults.{StandsIn}
use Rattle.lan_schema.specs.declared.fault.SchemaFault.{SchemaFault}
use Rattle.lan_schema.specs.declared.fault.SchemaFault.TheVariants as schema
use Rattle.lan_manifest.specs.declared.fault.ManifestFault.{ManifestFault}
use Rattle.lan_manifest.specs.declared.fault.ManifestFault.TheVariants.{Schema, VersionDiffers, UnknownFlag, Fragments, FragmentId, Memory}
use Rattle.lan_manifest.specs.declared.keeping.TheConstants.{FRAGMENT_RULES}
use Rattle.lan_manifest.specs.declared.manifest.Fragment.{Fragment}
use Rattle.lan_manifest.specs.declared.said.SaidFragment.{SaidFragment}
use Rattle.lan_manifest.specs.declared.said.SaidManifest.{SaidManifest}
use Rattle.lan_manifest.specs.Frame.{IsFramed, FailsFrame}
use Rattle.lan_manifest.specs.FragmentRules.{KeepEach, BreakOne, HaveIds, BreaksId}
use Rattle.lan_manifest.specs.ManifestMessages.{SaysManifest, FailsManifest}
use Rattle.lan_manifest.specs.Manifests.{PlainManifest}
use Rattle.lan_manifest.specs.SchemaLeaves.{LeafShape, shape_of}

-- the reader's flags beside 1, 4 and 8
abbrev pub unknown_flags : ℕ → ℕ
unknown_flags flags = bit_and flags (2 ^ 64 - 1 - 13)

-- a manifest of a version keeps to the rules
pub record KeepsRules (version : ℕ) (shape : LeafShape) (said : SaidManifest) : Type 0 where
  pub numbered : said.version ≡ version
  pub flags : unknown_flags said.flags ≡ 0
  pub few : length said.fragments ≤ 65536
  pub ids : HaveIds said.fragments
  pub each : KeepEach FRAGMENT_RULES shape said.fragments

-- a rule that it breaks; those above it it keeps
abbrev pub BreaksRule : ℕ → LeafShape → SaidManifest → ManifestFault → Type 0
BreaksRule version shape said (VersionDiffers asked found) = (asked ≡ version) × (found ≡ said.version) × (found ≢ asked)
BreaksRule version shape said (UnknownFlag flags) = (said.version ≡ version) × (flags ≡ unknown_flags said.flags) × (flags ≢ 0)
BreaksRule version shape said Fragments = (said.version ≡ version) × (unknown_flags said.flags ≡ 0) × (65536 < length said.fragments)
BreaksRule version shape said (FragmentId id) = (said.version ≡ version) × (unknown_flags said.flags ≡ 0) × (length said.fragments ≤ 65536) × BreaksId id said.fragments
BreaksRule version shape said fault =
    (said.version ≡ version) × (unknown_flags said.flags ≡ 0) × (length said.fragments ≤ 65536) × HaveIds said.fragments × BreakOne FRAGMENT_RULES shape said.fragments fault

-- the fragment without what only its rules need
abbrev pub fragment_of : SaidFragment → Fragment
fragment_of f = record { id = f.id; files = map (λ s. s.file) f.files; deletion = option_map (λ d. d.deletion) f.deletion; rows = f.rows }

-- the message is that of this manifest of a version
pub record StandsForManifest (message : Placed) (version : ℕ) (m : PlainManifest) : Type 0 where
  pub whole : SaidManifest
  pub said : SaysManifest message whole
  pub fields : FieldsOf message 1 (fields_from m.fields)
  pub keeps : KeepsRules version (shape_of (fields_from m.fields)) whole
  pub fragments : m.fragments ≡ map fragment_of whole.fragments
  pub numbered : m.version ≡ version
  pub greatest : m.greatest ≡ whole.greatest

-- the object stands for this manifest of a version
pub record IsManifestObject (object : Placed) (version : ℕ) (m : PlainManifest) : Type 0 where
  pub message : Placed
  pub framed : IsFramed object message
  pub stands : StandsForManifest message version m

-- the messages of the fields stand for none
abbrev pub FailsFields : Placed → ManifestFault → Type 0
FailsFields message fault = (why : SchemaFault) × StandsIn message 1 why × (why ≢ schema.Memory) × (fault ≡ Schema why)

-- a message that can be read breaks a rule
pub record BreaksAtManifest (message : Placed) (version : ℕ) (fault : ManifestFault) : Type 0 where
  pub whole : SaidManifest
  pub said : SaysManifest message whole
  pub fields : PlainFields ℕ
  pub has_fields : FieldsOf message 1 fields
  pub breaks : BreaksRule version (shape_of fields) whole fault

-- the message is no manifest's; memory may want
abbrev pub RefusesMessage : Placed → ℕ → ManifestFault → Type 0
RefusesMessage message version fault = (fault ≡ Memory) ⊎ FailsManifest message fault ⊎ FailsFields message fault ⊎ BreaksAtManifest message version fault

-- the object stands for no manifest of the version; memory may want
abbrev pub RefusesManifest : Placed → ℕ → ManifestFault → Type 0
RefusesManifest object version fault = (fault ≡ Memory) ⊎ FailsFrame object.bytes fault ⊎ ((message : Placed) × IsFramed object message × RefusesMessage message version fault)
