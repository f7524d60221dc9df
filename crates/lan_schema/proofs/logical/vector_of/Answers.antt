use Rattle.std.proofs.Common.{arith, rules}
use Rattle.lan_schema.specs.Logical.{vector_of}
use Rattle.lan_schema.proofs.LogicalParts.{cut_is, vector_found}
use Rattle.lan_schema.proofs.logical.vector_of.Goals as goal

pub returns-in_err-name : goal.returns-in_err-name
unfolding vector_of
returns-in_err-name c =
    let split = cut_is 58 c.in_ok-parts.parts.now _ c.rsplit_once.ensures.cases (omega arith) in
    rw (← c.in_ok-parts.ensures, ← split) (search rules)

pub returns-in_err-primitive : goal.returns-in_err-primitive
unfolding vector_of
returns-in_err-primitive c =
    let split = cut_is 58 c.in_ok-parts.parts.now _ c.rsplit_once.ensures.cases (omega arith) in
    rw (← c.in_ok-parts.ensures, ← split) (search rules)

pub returns-in_err-count : goal.returns-in_err-count
unfolding vector_of
returns-in_err-count c =
    let split = cut_is 58 c.in_ok-parts.parts.now _ c.rsplit_once.ensures.cases (omega arith) in
    rw (← c.in_ok-parts.ensures, ← split) (search rules)

pub returns : goal.returns
unfolding vector_of
returns c =
    let split = cut_is 58 c.in_ok-parts.parts.now _ c.rsplit_once.ensures.cases (omega arith) in
    rw (← c.in_ok-parts.ensures, ← split)
    (vector_found c.rsplit_once.result c.in_ok-name.name c.in_ok-name.count c.in_ok-primitive.primitive c.in_ok-count.count c.in_ok-name.was c.in_ok-primitive.ensures c.in_ok-count.ensures)
