-- The manifests that are opened to be read from and to be changed.
use Rattle.std.specs.Prelude.{List}
use Rattle.lan_bytes.specs.Placed.{Placed}
use Rattle.lan_store.specs.declared.name.Object.{Object}
use Rattle.lan_manifest.specs.ManifestObjects.{IsManifestObject}
use Rattle.lan_manifest.specs.Manifests.{PlainManifest}
use Rattle.lan_manifest.specs.Versions.{IsNewest, IsVersion}
use Rattle.lan_read.specs.Tables.{HasManifest}

-- what holds of each manifest that was opened, also where the store doesn't tell its objects: some object stands for it
pub record IsSnapshot (m : PlainManifest) : Type 0 where
  pub is_version : IsVersion m.version
  pub object : Placed
  pub stands : IsManifestObject object m.version m

-- the objects have this manifest, of the newest version that is listed
pub record IsNewestManifest (objects : List Object) (m : PlainManifest) : Type 0 where
  pub newest : IsNewest objects m.version
  pub has : HasManifest objects m.version m
