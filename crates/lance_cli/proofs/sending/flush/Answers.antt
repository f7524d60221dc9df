use Rattle.std.proofs.Common.{subst, sym, ◌∙◌, ap}
use Rattle.std.specs.Prelude.{flat_map}
use Rattle.std.proofs.lemmas.List.{append-nil}
use Rattle.lance_cli.specs.Reports.{GotPart}
use Rattle.lance_cli.proofs.sending.flush.Goals as goal

pub returns-then-is_err-clause-passes : goal.returns-then-is_err-clause-passes
returns-then-is_err-clause-passes g c = λ line pending is.
    subst (λ text. GotPart text (g.O.Sink.held c.args.out.now) (g.O.Sink.held c.write_all.new.out)) (c.as_slice.ensures ∙ is ∙ ap (flat_map line) (sym (append-nil pending))) c.write_all.ensures.part
