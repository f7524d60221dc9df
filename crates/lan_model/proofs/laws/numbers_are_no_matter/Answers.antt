use Rattle.std.proofs.Common.{◌≡◌, sym, subst}
use Rattle.lan_model.proofs.Unnumbered.{Fits-unnumbered}
use Rattle.lan_model.proofs.laws.numbers_are_no_matter.Goals as goal

along : {A B : Type 0} → A ≡ B → A → B
along same a = subst (λ T. T) same a

pub returns : goal.returns
returns c = λ f v. (along (Fits-unnumbered f v), along (sym (Fits-unnumbered f v)))
