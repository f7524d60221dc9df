use Rattle.std.proofs.Common.{◌∙◌, ap, sym}
use Rattle.std.specs.Prelude.{option_map}
use Rattle.lance_cli.specs.Options.{plain_options}
use Rattle.lance_cli.proofs.OptionWords.{onto_none, goes_on, stops, at_end, one_left}
use Rattle.lance_cli.proofs.options.options_of.Goals as goal

pub loop-rest-init : goal.loop-rest-init
loop-rest-init c = onto_none c.args.words.now

pub loop-rest-preserved : goal.loop-rest-preserved
loop-rest-preserved c =
    let taken = sym c.in_ok-more.ensures ∙ ap (option_map plain_options) c.in-Some.is in
    goes_on c.loop-rest.rest.now c.name-item.result c.value-item.result (plain_options c.loop-rest.options) (plain_options c.in-Some.more) c.in-len2-up.len_at_least c.name-item.is c.value-item.is taken
    ∙ c.loop-rest.invariant

pub returns-in-None : goal.returns-in-None
returns-in-None c =
    let none = sym c.in_ok-more.ensures ∙ ap (option_map plain_options) c.in-None.is in
    stops c.loop-rest.rest.now c.name-item.result c.value-item.result (plain_options c.loop-rest.options) c.in-len2-up.len_at_least c.name-item.is c.value-item.is none ∙ c.loop-rest.invariant

pub returns-then-is_empty : goal.returns-then-is_empty
returns-then-is_empty c = at_end c.loop-rest.rest.now (plain_options c.loop-rest.options) (sym c.is_empty.ensures ∙ c.if-is_empty.true) ∙ c.loop-rest.invariant

pub returns-else-is_empty : goal.returns-else-is_empty
returns-else-is_empty c = one_left c.loop-rest.rest.now (plain_options c.loop-rest.options) c.in_default.len_below (sym c.is_empty.ensures ∙ c.if-is_empty.false) ∙ c.loop-rest.invariant
