use Rattle.std.proofs.Common.{◌≡◌, Some, None, slice_get, get_or, refl, subst, List}
use Rattle.std.proofs.lemmas.Option.{slice_get_past, slice_get_read}
use Rattle.lan_levels.specs.declared.slot.Slot.{Slot}
use Rattle.lan_levels.proofs.Places.{left_no_run, left_none, left_some, IfNone-always}
use Rattle.lan_levels.proofs.cursor.next_slot.Goals as goal

pub returns-in_err-run-clause-none : goal.returns-in_err-run-clause-none
returns-in_err-run-clause-none c =
    let runs = c.args.runs.now in
    let none : slice_get runs c.args.leaf ≡ None = slice_get_past runs c.args.leaf c.in_err-run.ensures.lookup.3 in
    IfNone-always c.from_residual.result _ (left_no_run runs c.args.places.now c.args.leaf none)

pub returns-in_err-slot-clause-none : goal.returns-in_err-slot-clause-none
returns-in_err-slot-clause-none c =
    let runs = c.args.runs.now in
    let run = c.in_ok-run.run'.now in
    let place = get_or c.args.places.now c.args.leaf 0 in
    let found = c.in_ok-run.ensures.lookup in
    let some : slice_get runs c.args.leaf ≡ Some run = slice_get_read runs _ c.args.leaf run refl found.3.0 found.1 in
    let past : slice_get c.as_slice.result.now place ≡ None = slice_get_past c.as_slice.result.now place c.in_err-slot.ensures.lookup.3 in
    let none : slice_get run.slots place ≡ None = subst (λ (x : List Slot). slice_get x place ≡ None) c.as_slice.ensures past in
    IfNone-always c.from_residual-in_err-slot.result _ (left_none runs c.args.places.now c.args.leaf run some none)

pub returns-clause-some : goal.returns-clause-some
returns-clause-some c =
    let runs = c.args.runs.now in
    let run = c.in_ok-run.run'.now in
    let slot = c.in_ok-slot.slot.now in
    let place = get_or c.args.places.now c.args.leaf 0 in
    let found = c.in_ok-run.ensures.lookup in
    let here = c.in_ok-slot.ensures.lookup in
    let some : slice_get runs c.args.leaf ≡ Some run = slice_get_read runs _ c.args.leaf run refl found.3.0 found.1 in
    let lent : slice_get c.as_slice.result.now place ≡ Some slot = slice_get_read c.as_slice.result.now _ place slot refl here.3.0 here.1 in
    left_some runs c.args.places.now c.args.leaf run slot some (subst (λ (x : List Slot). slice_get x place ≡ Some slot) c.as_slice.ensures lent)
