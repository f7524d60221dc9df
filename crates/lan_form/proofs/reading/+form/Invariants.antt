use Rattle.std.proofs.Common.{◌≡◌, ◌+◌, ◌*◌, ◌++◌, drop, map}
use Rattle.serde_json.specs.Data.{depth}
use Rattle.serde_json.specs.View.{view, items_view}
use Rattle.lan_model.specs.Plain.{plain_fields}
use Rattle.lan_model.specs.PlainTable.{column_of}
use Rattle.lan_form.specs.Form.{each_form}
use Rattle.lan_form.specs.Judged.{on_good}
use Rattle.lan_form.specs.Names.{HaveTextNames}
use Rattle.lan_form.specs.Numbers.{AllCounted}
use Rattle.lan_form.proofs.reading.+form.Given as goal

abbrev pub decreases-read_list : goal.decreases-read_list
decreases-read_list l = 3 * depth (view l.value.now)

abbrev pub decreases-read_field : goal.decreases-read_field
decreases-read_field l = 3 * depth (view l.value.now) + 1

abbrev pub decreases-read_type : goal.decreases-read_type
decreases-read_type l = 3 * depth (view l.value.now)

abbrev pub invariant-read_list-loop-item : goal.invariant-read_list-loop-item
invariant-read_list-loop-item l = record {
  form : each_form (items_view l.item-items) ≡ on_good (λ fs. map column_of l.fields ++ fs) (each_form (items_view (drop l.item-index l.item-items)));
  ids : AllCounted l.initial.next (plain_fields l.fields) l.next;
  texts : HaveTextNames (plain_fields l.fields);
}
