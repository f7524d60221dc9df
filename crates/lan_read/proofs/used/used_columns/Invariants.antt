use Rattle.std.proofs.Common.{◌≡◌, map, take}
use Rattle.lan_model.specs.Plain.{plain_field}
use Rattle.lan_file.specs.Heads.{picks_of}
use Rattle.lan_read.specs.Grouped.{grouped, numbers_for}
use Rattle.lan_read.specs.Opened.{leaves_in, uses_of}
use Rattle.lan_read.proofs.used.used_columns.Given as goal

abbrev pub invariant-loop-field : goal.invariant-loop-field
invariant-loop-field l = record {
  picks : map picks_of l.picks ≡ grouped l.files (uses_of l.files (leaves_in (map plain_field (take l.field-index l.fields))));
  numbers : l.numbers ≡ map (numbers_for l.files) (map plain_field (take l.field-index l.fields));
}
