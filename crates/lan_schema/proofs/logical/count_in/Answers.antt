use Rattle.std.proofs.Common.{sym, ◌∙◌, arith}
use Rattle.std.proofs.lemmas.Bool.Decides.{nat_tests}
use Rattle.lan_schema.proofs.LogicalParts.{count_none, count_is}
use Rattle.lan_schema.proofs.logical.count_in.Goals as goal

pub returns-in_err-count : goal.returns-in_err-count
returns-in_err-count c = c.from_residual.ensures ∙ sym (count_none c.args.text.now c.in_err-count.ensures.none)

pub returns-then-count-eq0 : goal.returns-then-count-eq0
returns-then-count-eq0 c =
    let found = count_is c.args.text.now c.in_ok-count.count (omega arith) c.in_ok-count.ensures.some in
    let either = c.then-count-eq0.either in
    grind (arith, nat_tests, found, either)

pub returns : goal.returns
returns c =
    let found = count_is c.args.text.now c.in_ok-count.count (omega arith) c.in_ok-count.ensures.some in
    let some = c.if-count-eq0.false in
    let few = c.if-count-gt-MAX_COUNT.false in
    grind (arith, nat_tests, found, some, few)
