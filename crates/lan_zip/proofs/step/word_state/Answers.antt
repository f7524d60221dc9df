use Rattle.std.proofs.Common.{◌∙◌, ap, slice_get, bit_and}
use Rattle.std.proofs.lemmas.Nat.{and_mask}
use Rattle.lan_levels.specs.Codes.{states_of}
use Rattle.lan_zip.proofs.step.word_state.Goals as goal

pub returns : goal.returns
returns c =
    let f = c.args.form.now in
    c.state_of.ensures ∙ ap (slice_get (states_of f.codes.now)) (ap (bit_and c.args.number) c.requires.mask ∙ and_mask c.args.number f.bits)
