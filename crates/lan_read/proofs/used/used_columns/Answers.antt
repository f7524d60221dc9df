use Rattle.std.proofs.Common.{◌≡◌, ◌∙◌, ap, ◌<◌, List, arith, get_or, length}
use Rattle.lan_model.specs.declared.tree.Field.{Field}
use Rattle.lan_read.specs.Grouped.{grouped}
use Rattle.lan_read.proofs.Grouping.{all_within, field_numbers, fields_step, groups_long, narrow_at}
use Rattle.lan_read.proofs.used.used_columns.Goals as goal

pub leaves_of-requires : goal.leaves_of-requires
leaves_of-requires c =
    let fields = c.args.fields.now in
    let i = c.loop-field.field-index in
    narrow_at fields i c.field-item.result c.requires (omega (arith, c.loop-field-test.true, ap length c.as_slice-field-items.ensures)) (c.field-item.is ∙ ap (λ (l : List Field). get_or l i c.field-item.result) c.as_slice-field-items.ensures)

pub use_leaves-requires : goal.use_leaves-requires
use_leaves-requires c = λ id. all_within c.args.files.now c.in_ok-places.places (length c.loop-field.picks) id c.in_ok-places.ensures (groups_long c.args.files.now _ c.loop-field.picks c.loop-field.invariant.picks)

pub loop-field-preserved : goal.loop-field-preserved
loop-field-preserved c =
    let files = c.args.files.now in
    let fields = c.args.fields.now in
    let i = c.loop-field.field-index in
    let f = c.field-item.result in
    let below : i < length fields = omega (arith, c.loop-field-test.true, ap length c.as_slice-field-items.ensures) in
    let item : f ≡ get_or fields i f = c.field-item.is ∙ ap (λ (l : List Field). get_or l i f) c.as_slice-field-items.ensures in
    let are = c.in_ok-places.ensures in
    record {
      picks = c.in_ok-use_leaves.ensures.picks files _ are c.loop-field.invariant.picks ∙ ap (grouped files) (fields_step files fields i f _ below item c.in_ok-leaves.ensures);
      numbers = field_numbers files fields i f _ c.loop-field.numbers c.push.new.self _ below item c.in_ok-leaves.ensures (c.in_ok-use_leaves.ensures.numbers files are) c.loop-field.invariant.numbers c.in_ok-push.ensures.ok;
    }
