-- What a manifest says, and the object that it is written as.
use Rattle.std.specs.Prelude.{ℕ, ◌%◌, ◌^◌, List, [], ◌∷◌, ◌++◌, length, map, codes, flat_map, Bool, negsuc, ℤ, Option, Some, None, is_some}
use Rattle.std.specs.List.{list_any}
use Rattle.std.specs.Int.{to_le_bytes, w16, w32, w64}
use Rattle.lan_wire.specs.Spelling.{num_field, part_field, num_item, part_item, packed_field, two_complement}
use Rattle.lan_model.specs.Plain.{PlainField, plain_field, fields_from}
use Rattle.lan_wire.specs.Written.{flag_number}
use Rattle.lan_schema.specs.FieldTree.{all_messages}
use Rattle.lan_store.specs.declared.name.Object.{Object}
use Rattle.lan_manifest.specs.Versions.{manifest_name}
use Rattle.lan_manifest.specs.declared.manifest.DataFile.{DataFile}
use Rattle.lan_manifest.specs.declared.manifest.Deletion.{Deletion}
use Rattle.lan_manifest.specs.declared.manifest.Fragment.{Fragment}
use Rattle.lan_manifest.specs.declared.manifest.Manifest.{Manifest as Stored}

-- a manifest, its fields as plain trees
pub record PlainManifest : Type 0 where
  pub fields : List (PlainField ℕ)
  pub fragments : List Fragment
  pub version : ℕ
  pub greatest : Option ℕ

abbrev pub plain_manifest : Stored → PlainManifest
plain_manifest m = record { fields = map plain_field m.fields; fragments = m.fragments; version = m.version; greatest = m.greatest }

-- signed numbers, each as its 64 bits
abbrev pub complements : List ℤ → List ℕ
complements [] = []
complements (z ∷ zs) = two_complement z ∷ complements zs

abbrev pub file_text : DataFile → List ℕ
file_text f = part_field 1 f.path ++ packed_field 2 (complements f.ids) ++ packed_field 3 (complements f.columns) ++ num_field 4 2 ++ num_field 5 1

abbrev pub deletion_text : Option Deletion → List ℕ
deletion_text None = []
deletion_text (Some d) = part_item 3 (num_field 2 d.read_version ++ num_field 3 d.id ++ num_field 4 d.rows)

abbrev pub fragment_text : Fragment → List ℕ
fragment_text f = num_field 1 f.id ++ flat_map (λ file. part_item 2 (file_text file)) f.files ++ deletion_text f.deletion ++ num_field 4 f.rows

abbrev pub greatest_text : Option ℕ → List ℕ
greatest_text None = []
greatest_text (Some id) = num_item 11 id

abbrev pub has_deletions : PlainManifest → Bool
has_deletions m = list_any (λ f. is_some f.deletion) m.fragments

-- the writer's one spelling of a manifest
unfoldable pub manifest_text : PlainManifest → List ℕ
manifest_text m =
    all_messages 1 (negsuc 0) (fields_from m.fields) ++ (flat_map (λ f. part_item 2 (fragment_text f)) m.fragments
    ++ (num_field 3 m.version ++ (num_field 9 (flag_number (has_deletions m)) ++ (num_field 10 (flag_number (has_deletions m)) ++ greatest_text m.greatest))))

-- a message in its frame: its length, the message, its place, the format's version and its mark
unfoldable pub framed : List ℕ → List ℕ
framed message = to_le_bytes w32 (length message % 2 ^ 32) ++ message ++ to_le_bytes w64 0 ++ to_le_bytes w16 0 ++ to_le_bytes w16 2 ++ codes "LANC"

-- the object that a manifest is put as
abbrev pub manifest_object : PlainManifest → Object
manifest_object m = record { name = manifest_name m.version; bytes = framed (manifest_text m) }
