use Rattle.std.proofs.Common.{◌∷◌, ◌∙◌, ap, sym, subst, List, Option}
use Rattle.std.specs.Prelude.{option_to_list}
use Rattle.lan_model.specs.declared.range.Range.{Range}
use Rattle.lan_model.specs.Leaves.{plain_leaf}
use Rattle.lan_store.specs.Budget.{Asks}
use Rattle.lan_store.specs.Objects.{object}
use Rattle.lan_page.specs.Asking.{near_budget}
use Rattle.lan_page.proofs.PageLemmas.{even_answer, offsets_are}
use Rattle.lan_page.proofs.fetching.row_part.Goals as goal

pub returns-in_default-None-clause-answer : goal.returns-in_default-None-clause-answer
returns-in_default-None-clause-answer g c = λ all told.
    let buffers = c.buffers.ensures ∙ ap (λ (o : Option Range). c.buffers.result.0 ∷ option_to_list o) c.in_default-None.is-1 in
    even_answer (plain_leaf c.args.leaf.now) c.args.page.now (object all c.args.name.now) c.in-Zip.codes c.in-Zip.slots c.in-Zip.values c.buffers.result.0 c.even_run.result c.args.row c.slot_width-width.result (record { layout = c.in-Zip.is; buffers = buffers }) c.slot_width-width.ensures
    c.even_run.ensures.exact

pub returns-in_default-Some-clause-asks : goal.returns-in_default-Some-clause-asks
returns-in_default-Some-clause-asks g c = λ all told slots h.
    let buffers = c.buffers.ensures ∙ ap (λ (o : Option Range). c.buffers.result.0 ∷ option_to_list o) c.in_default-Some.is-1 in
    let are = offsets_are (plain_leaf c.args.leaf.now) c.args.page.now (object all c.args.name.now) c.in-Zip.codes c.in-Zip.slots c.in-Zip.values c.buffers.result.0 c.in_default-Some.index slots (record { layout = c.in-Zip.is; buffers = buffers }) h in
    subst (λ (bs : List Range). Asks (near_budget bs) (g.S.Store.tells c.args.store.now) (g.S.Store.tells c.listed_run.new.store)) (sym buffers) (c.listed_run.ensures.asks all told are.0 are.1)
