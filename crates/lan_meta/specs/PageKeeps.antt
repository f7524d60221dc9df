-- What holds of each page that is read of a column's metadata.
use Rattle.std.specs.Prelude.{◌≡◌, ℕ, ◌^◌, ◌<◌, ◌≤◌, List, length, All}
use Rattle.lan_bytes.specs.Placed.{Placed}
use Rattle.lan_model.specs.Leaves.{PlainLeaf}
use Rattle.lan_levels.specs.SlotsOf.{lists_in}
use Rattle.lan_meta.specs.declared.page.PageMeta.{PageMeta}
use Rattle.lan_meta.specs.Columns.{ColumnOf}
use Rattle.lan_meta.specs.PageRules.{FitLayers, slots_of, buffers_of, FitValues, EndBefore}
use Rattle.lan_meta.specs.Stage.{IsStaged}

-- the page keeps to the rules for the leaf, and its buffers end where places can be counted
pub record KeepsRules (leaf : PlainLeaf) (page : PageMeta) : Type 0 where
  pub staged : IsStaged page.layout
  pub layers : FitLayers page.layout leaf.layers
  pub some : 0 < page.rows
  pub slots : page.rows ≤ slots_of page.layout
  pub alone : lists_in leaf.layers ≡ 0 → slots_of page.layout ≡ page.rows
  pub buffers : length page.buffers ≡ buffers_of page.layout leaf.layers
  pub values : FitValues page.layout leaf.ty
  pub region : EndBefore (2 ^ 63) page.buffers

-- each page of a column does
abbrev pub PagesKeepRules : Type 0
PagesKeepRules = (part : Placed) (leaf : PlainLeaf) (end : ℕ) (pages : List PageMeta) → end ≤ 2 ^ 63 → ColumnOf part leaf end pages → All (KeepsRules leaf) pages
