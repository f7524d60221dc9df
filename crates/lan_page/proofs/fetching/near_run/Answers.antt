use Rattle.std.proofs.Common.{◌∙◌, ◌+◌, ◌*◌, ◌++◌, ap, ℕ, List, take, drop}
use Rattle.lan_levels.specs.Offsets.{place_at}
use Rattle.lan_store.specs.Objects.{object}
use Rattle.lan_page.specs.Held.{bytes_held}
use Rattle.lan_page.proofs.Fetched.{near_is}
use Rattle.lan_page.proofs.fetching.near_run.Goals as goal

pub returns-clause-answer : goal.returns-clause-answer
returns-clause-answer g c = λ all told.
    let held = object all c.args.name.now in
    let read = c.in_ok-fetch.ensures.answer all told in
    let alone = ap (λ (bs : List ℕ). bs ++ take 16 (drop (c.args.index.at + 8 * c.args.row) (bytes_held held))) c.new-two.ensures in
    near_is held c.args.page.now.rows c.args.content.len c.args.row c.args.index c.fetch.new.into c.place-from.result c.place-past.result c.between.result c.requires.whole c.requires.row (read.0 ∙ alone)
    (c.place-from.ensures ∙ ap (λ (bs : List ℕ). place_at bs 0) c.as_slice.ensures) (c.place-past.ensures ∙ ap (λ (bs : List ℕ). place_at bs 1) c.as_slice-2.ensures) c.between.ensures.some c.between.ensures.none
