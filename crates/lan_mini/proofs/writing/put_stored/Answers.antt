use Rattle.std.proofs.Common.{◌≡◌, length, ap, arith}
use Rattle.lan_levels.specs.Values.{variable}
use Rattle.lan_levels.specs.ChunkForm.{Storing, buffered}
use Rattle.lan_levels.specs.MiniWritten.{carried, values_len, buffer_size}
use Rattle.lan_mini.specs.Form.{plain_form, plain_storing}
use Rattle.lan_mini.specs.Building.{range}
use Rattle.lan_mini.proofs.Grown.{texts_len}
use Rattle.lan_mini.proofs.writing.put_stored.Goals as goal

pub put_texts-requires-clause-short : goal.put_texts-requires-clause-short
put_texts-requires-clause-short c =
    let vs = carried (plain_form c.args.form.now) (range c.args.slots.now c.args.from c.args.to) in
    let is : plain_storing c.args.form.now.values ≡ buffered variable = ap plain_storing c.in-Variable.is in
    let size = ap (λ (st : Storing). buffer_size st (length vs) (values_len st vs)) is in
    omega (arith, c.requires.size, texts_len vs)
