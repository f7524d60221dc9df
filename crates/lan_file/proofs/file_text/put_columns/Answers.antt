use Rattle.std.proofs.Common.{◌≡◌, ◌∙◌, ◌<◌, ◌^◌, sym, ap, subst, List, arith}
use Rattle.std.specs.Prelude.{sum_by}
use Rattle.lan_meta.specs.declared.page.BuiltPage.{BuiltPage}
use Rattle.lan_meta.specs.declared.page.PageMeta.{PageMeta}
use Rattle.lan_file.specs.FileText.{pages_behind}
use Rattle.lan_file.proofs.FilePut.{rows_behind}
use Rattle.lan_file.proofs.file_text.put_columns.Goals as goal

pub write_column-requires : goal.write_column-requires
write_column-requires c =
    let P : List BuiltPage → Type 0 = λ pages. sum_by (λ (page : BuiltPage). page.rows) pages < 2 ^ 64 in
    let few : P c.column-item.result = subst P (sym c.column-item.is) (c.requires c.loop-column.column-index c.column-item.result c.loop-column-test.true) in
    let same : c.as_slice-in-loop-column.result.now ≡ pages_behind c.loop-column.out c.as_slice.result.now = c.as_slice-in-loop-column.ensures ∙ c.in_ok-metas.ensures.0 in
    omega (arith, ap (sum_by (λ (page : PageMeta). page.rows)) same, rows_behind c.loop-column.out c.as_slice.result.now, ap (sum_by (λ (page : BuiltPage). page.rows)) c.as_slice.ensures, few)
