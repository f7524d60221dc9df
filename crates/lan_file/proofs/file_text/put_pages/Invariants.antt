use Rattle.std.proofs.Common.{◌≡◌, ◌++◌, drop}
use Rattle.lan_file.specs.FileText.{with_pages, pages_behind}
use Rattle.lan_file.proofs.file_text.put_pages.Given as goal

abbrev pub invariant-loop-page : goal.invariant-loop-page
invariant-loop-page l = record {
  metas : l.metas ++ pages_behind l.out (drop l.page-index l.pages) ≡ pages_behind l.initial.out l.pages;
  bytes : with_pages l.out (drop l.page-index l.pages) ≡ with_pages l.initial.out l.pages;
}
