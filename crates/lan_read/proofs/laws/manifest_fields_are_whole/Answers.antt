use Rattle.lan_read.proofs.WholeFields.{manifest_fields, manifest_whole}
use Rattle.lan_read.proofs.laws.manifest_fields_are_whole.Goals as goal

pub returns : goal.returns
returns c = record { fields = manifest_fields; whole = manifest_whole }
