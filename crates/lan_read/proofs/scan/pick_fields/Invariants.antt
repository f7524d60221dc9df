use Rattle.std.proofs.Common.{◌≡◌, map, take}
use Rattle.lan_model.specs.Plain.{plain_field}
use Rattle.lan_read.specs.Scanned.{fields_at}
use Rattle.lan_read.proofs.scan.pick_fields.Given as goal

abbrev pub invariant-loop-place : goal.invariant-loop-place
invariant-loop-place l = map plain_field l.picked ≡ fields_at (map plain_field l.fields) (take l.place-index l.places)
