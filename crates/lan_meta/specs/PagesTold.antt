-- Pages whose numbers can be written.
use Rattle.std.specs.Prelude.{◌^◌, ◌<◌, ⊤}
use Rattle.lan_levels.specs.declared.shape.ValueKind.{ValueKind}
use Rattle.lan_levels.specs.declared.shape.ValueKind.TheVariants as stored
use Rattle.lan_meta.specs.declared.page.Layout.{Layout}
use Rattle.lan_meta.specs.declared.page.Layout.TheVariants.{Constant, Mini, Zip}
use Rattle.lan_meta.specs.declared.page.PageMeta.{PageMeta}
use Rattle.lan_meta.specs.PageRules.{slots_of}

abbrev pub HasFewBits : ValueKind → Type 0
HasFewBits (stored.Flat bits) = bits < 2 ^ 64
HasFewBits values = ⊤

abbrev pub StoresFewBits : Layout → Type 0
StoresFewBits (Constant codes slots value) = ⊤
StoresFewBits (Mini codes slots values) = HasFewBits values
StoresFewBits (Zip codes slots values) = HasFewBits values

-- the numbers of slots, rows and bits have 64 bits each
pub record CanBeTold (page : PageMeta) : Type 0 where
  pub rows : page.rows < 2 ^ 64
  pub slots : slots_of page.layout < 2 ^ 64
  pub bits : StoresFewBits page.layout
