use Rattle.lan_store.specs.Objects.{object}
use Rattle.lan_page.proofs.Fetched.{index_answer}
use Rattle.lan_page.proofs.fetching.fetch_index.Goals as goal

pub returns-clause-answer : goal.returns-clause-answer
returns-clause-answer g c = λ all told.
    index_answer c.args.page.now (object all c.args.name.now) c.two_buffers.result.0 c.two_buffers.result.1 c.args.into.now c.fetch.new.into c.fetch.result c.two_buffers.ensures c.requires.empty (c.fetch.ensures.answer all told)
