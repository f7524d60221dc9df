use Rattle.lan_form.proofs.Unnumbered.{numbers_are_not_printed}
use Rattle.lan_form.proofs.laws.numbers_are_not_printed.Goals as goal

pub returns : goal.returns
returns c = numbers_are_not_printed
