use Rattle.std.proofs.Common.{◌≡◌, ◌∙◌, ℕ, List, ap, arith, get_or, length, map, sym}
use Rattle.std.specs.Prelude.{Some, slice_get}
use Rattle.lan_model.specs.Plain.{plain_field}
use Rattle.lan_model.specs.declared.tree.Field.{Field}
use Rattle.lan_read.proofs.PickedFields.{picked_more}
use Rattle.lan_read.proofs.scan.pick_fields.Goals as goal

pub loop-place-preserved : goal.loop-place-preserved
loop-place-preserved c =
    let fields = c.args.fields.now in
    let places = c.args.places.now in
    let i = c.loop-place.place-index in
    let f = c.in_ok-copy_field.field-0 in
    let same = c.as_slice-place-items.ensures in
    let at : slice_get fields (get_or places i 0) ≡ Some f =
    ap (λ (l : List ℕ). slice_get fields (get_or l i 0)) (sym same) ∙ c.at.ensures ∙ ap (λ (x : Field). Some x) (sym c.in_ok-copy_field.ensures)
    in
    ap (map plain_field) c.in_ok-push.ensures.ok
    ∙ picked_more fields c.loop-place.picked places i f (omega (arith, ap (length {A = ℕ}) same)) at c.loop-place.invariant
