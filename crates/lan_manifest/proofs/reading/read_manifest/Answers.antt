use Rattle.std.proofs.Common.{inr}
use Rattle.std.proofs.lemmas.Result.{IfErr-weaker}
use Rattle.lan_manifest.specs.ManifestObjects.{RefusesMessage, RefusesManifest}
use Rattle.lan_manifest.proofs.reading.read_manifest.Goals as goal

pub returns-clause-fault : goal.returns-clause-fault
returns-clause-fault c =
    IfErr-weaker c.read_framed.result (RefusesMessage c.in-Ok.message c.args.version) (RefusesManifest c.args.view c.args.version)
    (λ fault refuses. inr (inr (c.in-Ok.message, c.in-Ok.ensures.ok, refuses)))
    c.read_framed.ensures.fault
