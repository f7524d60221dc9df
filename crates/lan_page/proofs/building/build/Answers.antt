use Rattle.std.proofs.Common.{arith, drop}
use Rattle.lan_model.specs.Leaves.{plain_leaf}
use Rattle.lan_levels.specs.PagesWritten.{cut_pages}
use Rattle.lan_levels.specs.ZipForm.{leaf_form}
use Rattle.lan_meta.specs.ColumnWritten.{page_written, written}
use Rattle.lan_page.proofs.PageCuts.{range}
use Rattle.lan_page.proofs.ZipPages.{built_more, built_all}
use Rattle.lan_page.proofs.building.build.Goals as goal

pub loop-from-preserved : goal.loop-from-preserved
loop-from-preserved c =
    let leaf = plain_leaf c.args.leaf.now in
    let f = leaf_form leaf in
    let xs = c.args.slots.now in
    record {
      within = c.page_end-to.ensures.within;
      all =
          built_more (page_written leaf) (written leaf xs) c.loop-from.pages c.push.new.self c.in_ok-page.page (cut_pages f (drop c.loop-from.from xs)) (range xs c.loop-from.from c.page_end-to.result) (cut_pages f (drop c.page_end-to.result xs)) c.loop-from.invariant.all c.page_end-to.ensures.cut
          c.in_ok-page.ensures c.in_ok-push.ensures.ok;
    }

pub returns : goal.returns
returns c =
    let leaf = plain_leaf c.args.leaf.now in
    built_all (page_written leaf) (leaf_form leaf) (written leaf c.args.slots.now) c.loop-from.pages c.args.slots.now c.loop-from.from (omega arith) c.loop-from.invariant.all
