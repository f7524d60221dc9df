-- When the stored objects stand for a table at a version.
use Rattle.std.specs.Prelude.{◌≡◌, ℕ, List, map, All}
use Rattle.lan_model.specs.Dataset.{Dataset}
use Rattle.lan_model.specs.Plain.{unnumbered}
use Rattle.lan_model.specs.Table.{Table}
use Rattle.lan_store.specs.declared.name.Object.{Object}
use Rattle.lan_manifest.specs.ManifestObjects.{IsManifestObject}
use Rattle.lan_manifest.specs.Manifests.{PlainManifest}
use Rattle.lan_manifest.specs.Versions.{AreListed, IsVersion, manifest_name}
use Rattle.lan_read.specs.Rows.{IsHeld, FragmentsGive}

-- the manifest of a version is held, and this is it
pub record HasManifest (objects : List Object) (version : ℕ) (m : PlainManifest) : Type 0 where
  pub is_version : IsVersion version
  pub held : IsHeld objects (manifest_name version) (λ bytes. IsManifestObject (record { base = 0; bytes = bytes }) version m)

-- the objects stand for this table at this version
pub record StandsFor (objects : List Object) (version : ℕ) (t : Table) : Type 0 where
  pub manifest : PlainManifest
  pub has : HasManifest objects version manifest
  pub columns : t.columns ≡ map unnumbered manifest.fields
  pub rows : FragmentsGive objects manifest.fields manifest.fragments t.rows

-- the dataset's versions are those of the objects, and each of its tables stands
pub record AgreesWith (objects : List Object) (d : Dataset) : Type 0 where
  pub listed : AreListed objects d.listed
  pub stands : All (λ p. StandsFor objects p.0 p.1) d.stands
