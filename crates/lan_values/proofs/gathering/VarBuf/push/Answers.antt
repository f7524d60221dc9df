use Rattle.std.proofs.Common.{◌≡◌, [], ◌∷◌, ◌++◌, length}
use Rattle.std.proofs.lemmas.Result.{on_ok_weaker}
use Rattle.lan_values.proofs.Cuts.{pushed}
use Rattle.lan_values.proofs.gathering.VarBuf.push.Goals as goal

pub returns-else-is_err-clause-ok : goal.returns-else-is_err-clause-ok
returns-else-is_err-clause-ok c =
    let b = c.self.inside in
    let value = c.args.value.now in
    on_ok_weaker c.push-pushed.result
    (λ (e : c.push-pushed.new.self ≡ b.lengths ++ length value ∷ []).
    pushed b.lengths c.push-pushed.new.self b.bytes c.extend.new.self value c.args.self.now c.self.view_is c.self.invariant e c.in_ok-extend.ensures.ok)
    c.push-pushed.ensures.ok
