use Rattle.std.proofs.Common.{◌++◌, [], ◌∷◌, List, ℕ, refl, sym, ap, subst, ◌∙◌, append_assoc, arith, rules}
use Rattle.std.proofs.lemmas.List.{append-nil}
use Rattle.lan_wire.proofs.FrontVarint.{IsBytes, IsBytes-back, not_nil}
use Rattle.lan_wire.proofs.FaultLaws.{breaks}
use Rattle.lan_wire.proofs.FrontItem.{number_takes}
use Rattle.lan_wire.proofs.NumberLaws.{numbers_push}
use Rattle.lan_wire.proofs.readers.push_numbers.Goals as goal

pub loop-rest-init : goal.loop-rest-init
loop-rest-init c = ([], [], refl, refl, sym (append-nil c.args.into.now))

pub loop-rest-preserved : goal.loop-rest-preserved
loop-rest-preserved c =
    let i = c.loop-rest.invariant in
    let fits : IsBytes c.args.bytes.now = λ k. omega (arith, c.type_inv.bytes k) in
    let t = number_takes c.loop-rest.rest.now c.in-Ok.value c.in-Ok.after.now (IsBytes-back i.0 c.loop-rest.rest.now (subst IsBytes i.2 fits)) c.in-Ok.ensures.read in
    (i.0 ++ t.front, i.1 ++ c.in-Ok.value ∷ [], i.2 ∙ ap (λ (r : List ℕ). i.0 ++ r) t.parts ∙ sym (append_assoc i.0 t.front c.in-Ok.after.now), numbers_push i.0 t.front i.1 c.in-Ok.value i.3 t.spelled, c.in_ok-push-in-Ok.ensures.ok ∙ ap (λ (x : List ℕ). x ++ c.in-Ok.value ∷ []) i.4 ∙ append_assoc c.args.into.now i.1 (c.in-Ok.value ∷ []))

pub returns-in-Err-clause-fault : goal.returns-in-Err-clause-fault
returns-in-Err-clause-fault c =
    let i = c.loop-rest.invariant in
    let rest = c.loop-rest.rest.now in
    (refl, (i.0, rest, i.1, i.2, i.3, breaks rest c.in-Err.kind (not_nil rest (search rules)) c.in-Err.ensures.read))
