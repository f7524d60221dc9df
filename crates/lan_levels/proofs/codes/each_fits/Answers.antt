use Rattle.std.proofs.Common.{arith, true≢false, sym}
use Rattle.lan_levels.proofs.LayerCodes.{fitting_count}
use Rattle.lan_levels.proofs.codes.each_fits.Goals as goal

pub returns-then-codes-layers : goal.returns-then-codes-layers
returns-then-codes-layers c = (λ h. absurd (true≢false (sym h)), λ h. absurd (omega (arith, fitting_count _ _ h)))
