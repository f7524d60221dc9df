use Rattle.std.proofs.Common.{take, arith}
use Rattle.std.proofs.lemmas.List.{length-take}
use Rattle.lan_wire.proofs.Varints.{length-varint, length-flat_map}
use Rattle.lan_wire.proofs.writer.packed_len.Goals as goal

pub overflow_add-len : goal.overflow_add-len
overflow_add-len c =
    let values = c.args.values.now in
    let i = c.loop-value.value-index in
    omega (arith, c.loop-value.invariant, length-flat_map (take i values), length-take i values, c.varint_len-len.ensures, length-varint)
