use Rattle.lan_wire.proofs.NumbersFit.{num_fits, nums_fit}
use Rattle.lan_wire.proofs.SaidFits.{small_fits, signed_fits, text_fits, signeds_fit}
use Rattle.lan_wire.proofs.laws.said_values_fit.Goals as goal

pub returns-clause-nums : goal.returns-clause-nums
returns-clause-nums c = λ rules message items number r. num_fits number message.base message.bytes items r.spelled

pub returns-clause-lists : goal.returns-clause-lists
returns-clause-lists c = nums_fit

pub returns-clause-smalls : goal.returns-clause-smalls
returns-clause-smalls c = small_fits

pub returns-clause-signs : goal.returns-clause-signs
returns-clause-signs c = signed_fits

pub returns-clause-texts : goal.returns-clause-texts
returns-clause-texts c = text_fits

pub returns-clause-signeds : goal.returns-clause-signeds
returns-clause-signeds c = signeds_fit
