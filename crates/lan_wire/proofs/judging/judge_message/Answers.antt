use Rattle.std.proofs.Common.{List, [], ◌∷◌, ◌++◌, subst, sym, inr}
use Rattle.lan_wire.specs.declared.item.Item.{Item}
use Rattle.lan_wire.specs.Spells.{Begins}
use Rattle.lan_wire.specs.Messages.{MayFollow, MayNotFollow}
use Rattle.lan_wire.proofs.MessageLaws.{given_more}
use Rattle.lan_wire.proofs.Obeying.{obey_push, reads_all}
use Rattle.lan_wire.proofs.judging.judge_message.Goals as goal

pub judge_next-requires : goal.judge_next-requires
judge_next-requires c =
    let i = c.loop-found.invariant in
    let b : Begins c.loop-found.fields c.in_ok-item.item c.next.new.self = rw c.in_ok-item.was at c.in-Some.ensures.item in
    (c.front_of-before.ensures i.0 c.loop-found.fields i.1 (sym b.place)).1

pub loop-found-preserved : goal.loop-found-preserved
loop-found-preserved c =
    let i = c.loop-found.invariant in
    let item : Item = c.in_ok-item.item in
    let b : Begins c.loop-found.fields item c.next.new.self = rw c.in_ok-item.was at c.in-Some.ensures.item in
    let f = c.front_of-before.ensures i.0 c.loop-found.fields i.1 (sym b.place) in
    let next = subst (λ (xs : List Item). MayFollow c.args.rules.now xs item) f.0 c.in-Ok.ensures.ok in
    (i.0 ++ item ∷ [], given_more c.args.message.now i.0 c.loop-found.fields item c.next.new.self i.1 b, obey_push c.args.rules.now [] i.0 item i.2 next)

pub returns-in-Err-clause-fault : goal.returns-in-Err-clause-fault
returns-in-Err-clause-fault c =
    let i = c.loop-found.invariant in
    let item : Item = c.in_ok-item.item in
    let b : Begins c.loop-found.fields item c.next.new.self = rw c.in_ok-item.was at c.in-Some.ensures.item in
    let f = c.front_of-before.ensures i.0 c.loop-found.fields i.1 (sym b.place) in
    let next = subst (λ (xs : List Item). MayNotFollow c.args.rules.now xs item c.in-Err.fault) f.0 c.in-Err.ensures.fault in
    record { before = i.0; left = c.loop-found.fields; given = i.1; obeyed = i.2; breaks = inr (item, c.next.new.self, b, next) }

pub returns-clause-ok : goal.returns-clause-ok
returns-clause-ok c =
    let i = c.loop-found.invariant in
    reads_all c.args.rules.now c.args.message.now i.0 c.loop-found.fields i.1 c.in_default.ensures.none.0 i.2
