use Rattle.std.proofs.Common.{◌∙◌, ap, sym, ℕ, arith}
use Rattle.lan_model.specs.Leaves.{plain_leaf}
use Rattle.lan_levels.specs.SlotsOf.{lists_in}
use Rattle.lan_levels.specs.ZipSlots.{starts}
use Rattle.lan_page.proofs.PageCuts.{range, ranged_length}
use Rattle.lan_page.proofs.ZipPages.{zip_page}
use Rattle.lan_page.proofs.building.page_of.Goals as goal

pub returns-in_ok-buffers-in-None : goal.returns-in_ok-buffers-in-None
returns-in_ok-buffers-in-None c =
    let slots = range c.args.slots.now c.args.from c.args.to in
    zip_page (plain_leaf c.args.leaf.now) slots _ _ _ _ _ (c.rows_in-rows.ensures ∙ ap (λ (n : ℕ). starts n slots) (c.lists_in.ensures.value ∙ ap lists_in c.as_slice.ensures)) c.in_ok-codes.ensures.value (sym (ranged_length c.args.slots.now c.args.from c.args.to (omega arith) c.requires.end))
    c.kind_of.ensures c.in_ok-buffers-in-None.ensures (sym c.in_ok-constant.ensures ∙ c.in-None.is)
