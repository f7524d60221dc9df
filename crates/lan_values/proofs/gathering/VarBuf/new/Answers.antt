use Rattle.std.proofs.Common.{ap, ◌∙◌, List, ℕ}
use Rattle.lan_values.specs.Cut.{cut_by}
use Rattle.lan_values.proofs.Cuts.{cut_nil}
use Rattle.lan_values.proofs.gathering.VarBuf.new.Goals as goal

pub returns : goal.returns
returns c = ap (λ (ns : List ℕ). cut_by ns c.new-2.result) c.new.ensures ∙ cut_nil c.new-2.result
