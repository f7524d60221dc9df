use Rattle.std.proofs.Common.{◌≡◌, ◌++◌, List, drop, map}
use Rattle.serde_json.specs.View.{members_view}
use Rattle.lan_model.specs.Fits.{EachFits}
use Rattle.lan_model.specs.Plain.{PlainValue, plain_fields, plain_value, values_from}
use Rattle.lan_rows.specs.Judged.{on_good}
use Rattle.lan_rows.specs.Values.{row_values}
use Rattle.lan_rows.proofs.reading.read_columns.Given as goal

abbrev pub invariant-loop-field : goal.invariant-loop-field
invariant-loop-field l =
    let ms = members_view l.members.entries in
    record {
      value : row_values (plain_fields l.fields) ms ≡ on_good (λ vs. map plain_value l.row ++ vs) (row_values (plain_fields (drop l.field-index l.fields)) ms);
      fit : (vs : List PlainValue) → EachFits (plain_fields (drop l.field-index l.fields)) (values_from vs) → EachFits (plain_fields l.fields) (values_from (map plain_value l.row ++ vs));
    }
