-- A column's metadata has at least two bytes a page.
use Rattle.std.proofs.Common.{◌≡◌, ℕ, ◌*◌, ◌≤◌, List, [], ◌∷◌, length, ap, arith}
use Rattle.lan_bytes.specs.Placed.{Placed}
use Rattle.lan_model.specs.Leaves.{PlainLeaf}
use Rattle.lan_wire.specs.Messages.{ReadEach}
use Rattle.lan_wire.specs.Values.{parts_under}
use Rattle.lan_wire.proofs.LawTerms.{few_parts}
use Rattle.lan_meta.specs.declared.page.PageMeta.{PageMeta}
use Rattle.lan_meta.specs.Columns.{StandsForPage, ColumnOf}

as_many : (leaf : PlainLeaf) (end : ℕ) (parts : List Placed) (ps : List PageMeta) → ReadEach (StandsForPage leaf end) parts ps → length ps ≡ length parts
as_many leaf end [] ps r = ap length r
as_many leaf end (part ∷ parts) ps r = omega (arith, ap length r.2, as_many leaf end parts r.1 r.4)

pub few_pages : (part : Placed) (leaf : PlainLeaf) (end : ℕ) (ps : List PageMeta) → ColumnOf part leaf end ps → 2 * length ps ≤ length part.bytes
few_pages part leaf end ps p = omega (arith, as_many leaf end (parts_under 2 p.items) ps p.said, few_parts part.base part.bytes p.items 2 p.reads.spelled)
