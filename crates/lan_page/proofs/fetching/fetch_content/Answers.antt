use Rattle.std.proofs.Common.{◌+◌, ◌≤◌, List, subst}
use Rattle.lan_model.specs.declared.range.Range.{Range}
use Rattle.lan_store.specs.Objects.{object}
use Rattle.lan_page.specs.Asking.{first_len}
use Rattle.lan_page.proofs.Fetched.{content_bytes, one_part}
use Rattle.lan_page.proofs.fetching.fetch_content.Goals as goal

pub returns-clause-answer : goal.returns-clause-answer
returns-clause-answer g c = λ all told.
    let read = c.in_ok-fetch.ensures.answer all told in
    let inside = subst (λ (bs : List Range). c.args.part.at + c.args.part.len ≤ first_len bs) c.buffers.ensures c.requires.inside in
    content_bytes c.args.page.now (object all c.args.name.now) c.buffers.result.0 c.args.part c.within.result _ c.args.into.now c.fetch.new.into c.buffers.ensures inside c.within.ensures c.requires.empty read.0

pub returns-clause-bytes : goal.returns-clause-bytes
returns-clause-bytes g c = λ all told.
    let held = object all c.args.name.now in
    let read = c.in_ok-fetch.ensures.answer all told in
    let inside = subst (λ (bs : List Range). c.args.part.at + c.args.part.len ≤ first_len bs) c.buffers.ensures c.requires.inside in
    one_part c.args.page.now held c.args.part _ c.fetch.new.into c.in_ok-cut.ensures
    (content_bytes c.args.page.now held c.buffers.result.0 c.args.part c.within.result _ c.args.into.now c.fetch.new.into c.buffers.ensures inside c.within.ensures c.requires.empty read.0)
