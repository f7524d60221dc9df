use Rattle.std.proofs.Common.{◌≡◌, ◌++◌, List, drop, map}
use Rattle.serde_json.specs.View.{items_view, members_view}
use Rattle.lan_model.specs.Fits.{AllFit, EachFits}
use Rattle.lan_model.specs.Plain.{PlainValue, plain_field, plain_fields, plain_value, values_from}
use Rattle.lan_rows.specs.Judged.{on_good, each_item}
use Rattle.lan_rows.specs.Values.{field_value, members_values}
use Rattle.lan_rows.proofs.values.+values.Given as goal

abbrev pub invariant-read_items-loop-item : goal.invariant-read_items-loop-item
invariant-read_items-loop-item l =
    let f = field_value l.top (plain_field l.field) in
    record {
      value : each_item f (items_view l.item-items) ≡ on_good (λ vs. map plain_value l.vals ++ vs) (each_item f (items_view (drop l.item-index l.item-items)));
      fit : AllFit (plain_field l.field) (values_from (map plain_value l.vals));
    }

abbrev pub invariant-read_group-loop-field : goal.invariant-read_group-loop-field
invariant-read_group-loop-field l =
    let ms = members_view l.members.entries in
    record {
      value : members_values l.top (plain_fields l.fields) ms ≡ on_good (λ vs. map plain_value l.vals ++ vs) (members_values l.top (plain_fields (drop l.field-index l.fields)) ms);
      fit : (vs : List PlainValue) → EachFits (plain_fields (drop l.field-index l.fields)) (values_from vs) → EachFits (plain_fields l.fields) (values_from (map plain_value l.vals ++ vs));
    }
