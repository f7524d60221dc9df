use Rattle.std.proofs.Common.{◌≡◌, ◌+◌, ◌++◌, drop}
use Rattle.std.specs.Prelude.{flat_map, sum_by}
use Rattle.lan_wire.specs.Spelling.{part_item}
use Rattle.lan_meta.specs.Written.{page_texts}
use Rattle.lan_meta.specs.declared.page.PageMeta.{PageMeta}
use Rattle.lan_meta.proofs.writing.write_column.Given as goal

abbrev pub invariant-loop-page : goal.invariant-loop-page
invariant-loop-page l = record {
  spelled : l.out ++ flat_map (λ text. part_item 2 text) (page_texts l.before (drop l.page-index l.pages)) ≡ flat_map (λ text. part_item 2 text) (page_texts 0 l.pages);
  rows : l.before + sum_by (λ (page : PageMeta). page.rows) (drop l.page-index l.pages) ≡ sum_by (λ (page : PageMeta). page.rows) l.pages;
}
