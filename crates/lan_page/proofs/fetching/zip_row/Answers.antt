use Rattle.std.proofs.Common.{◌∙◌, ◌+◌}
use Rattle.lan_model.specs.Leaves.{plain_leaf}
use Rattle.lan_store.specs.Objects.{object}
use Rattle.lan_page.specs.Held.{held_run}
use Rattle.lan_page.proofs.Fetched.{asks_more, cover_alone, zip_answer}
use Rattle.lan_page.proofs.fetching.zip_row.Goals as goal

pub returns-in_err-part-clause-asks : goal.returns-in_err-part-clause-asks
returns-in_err-part-clause-asks g c = λ all told slots h. asks_more _ (c.row_part.ensures.asks all told slots h)

pub returns-clause-answer : goal.returns-clause-answer
returns-clause-answer g c = λ all told.
    let leaf = plain_leaf c.args.leaf.now in
    let held = object all c.args.name.now in
    zip_answer leaf c.args.page.now held c.args.row (c.args.row + 1) c.in_ok-part.part c.fetch_content.new.into c.fetch_content.result c.requires.zip
    (λ slots h. c.in_ok-part.ensures.answer all told slots h ∙ cover_alone (held_run leaf c.args.page.now held) c.args.row) c.fetch_content.ensures.cut (c.fetch_content.ensures.answer all (c.row_part.ensures.looked.kept ∙ told))

pub returns-clause-bytes : goal.returns-clause-bytes
returns-clause-bytes g c = λ all told. c.fetch_content.ensures.bytes all (c.row_part.ensures.looked.kept ∙ told)
