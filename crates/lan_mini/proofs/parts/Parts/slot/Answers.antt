use Rattle.std.proofs.Common.{◌≡◌, ◌∙◌, drop, ap, sym}
use Rattle.std.specs.Prelude.{slice_index}
use Rattle.lan_levels.specs.PlainSlots.{plain_piece}
use Rattle.lan_levels.specs.ChunkSlots.{state_named, first_kept}
use Rattle.lan_mini.specs.Form.{plain_form}
use Rattle.lan_mini.specs.Cutting.{reps_of, defs_of, pieces_of}
use Rattle.lan_mini.proofs.Weaving.{slot_is, kept_here, kept_none}
use Rattle.lan_mini.proofs.parts.Parts.slot.Goals as goal
use Rattle.lan_mini.proofs.parts.Parts.slot.Goals.{in-Here, in_default}

pub returns-clause-slot : goal.returns-clause-slot
returns-clause-slot c =
    let p = c.args.self.now in
    let f = plain_form p.form in
    let s = c.state_named-state.result in
    let vs = pieces_of p.values in
    let v = c.args.values in
    let kept : first_kept s (drop v vs) ≡ plain_piece c.match-state.value =
    elim c.match-state.branch [
      | in-Here w ↦ kept_here s vs v (plain_piece w.at-value.result) w.in-Here.is w.at-value.ensures ∙ sym (ap plain_piece w.value-is)
      | in_default w ↦ kept_none s (drop v vs) w.in_default.not-Here ∙ sym (ap plain_piece w.value-is)
    ] in
    slot_is f (slice_index (reps_of p) c.args.i) (slice_index (defs_of p) c.args.i) c.at.result s (plain_piece c.match-state.value) (drop v vs) (c.at.ensures p.count) (c.state_named-state.ensures ∙ ap (state_named f.states) (c.at-def.ensures p.count)) kept
