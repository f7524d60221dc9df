use Rattle.std.proofs.Common.{◌∙◌, length, ap, sym}
use Rattle.lan_levels.specs.PlainSlots.{PlainSlot}
use Rattle.lan_mini.specs.Form.{plain_form}
use Rattle.lan_mini.specs.Cutting.{reps_of, defs_of, pieces_of}
use Rattle.lan_mini.proofs.Weaving.{woven_length}
use Rattle.lan_mini.proofs.view.ChunkView.slots.Goals as goal

pub returns : goal.returns
returns c =
    let p = c.self.inside.parts in
    let inv = c.self.invariant in
    sym (sym (ap (length {A = PlainSlot}) c.self.view_is) ∙ woven_length (plain_form p.form) (reps_of p) (defs_of p) (pieces_of p.values) (inv.reps ∙ sym inv.defs) ∙ inv.reps)
