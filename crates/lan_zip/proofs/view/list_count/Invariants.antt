use Rattle.std.proofs.Common.{◌≡◌, ◌+◌, ◌≤◌, length}
use Rattle.lan_zip.specs.Form.{plain_form}
use Rattle.lan_levels.specs.ZipSlots.{starts}
use Rattle.lan_zip.proofs.Rows.{Walked}
use Rattle.lan_zip.proofs.view.list_count.Given as goal

abbrev pub invariant-loop-rest : goal.invariant-loop-rest
invariant-loop-rest l = record {
  walked : Walked (plain_form l.form) l.count l.bytes l.rest;
  starts_are : starts l.form.lists walked.slots ≡ l.starts;
  few : l.starts ≤ l.count;
  room : l.count + length l.rest ≤ length l.bytes;
}

abbrev pub decreases-loop-rest : goal.decreases-loop-rest
decreases-loop-rest l = length l.rest
