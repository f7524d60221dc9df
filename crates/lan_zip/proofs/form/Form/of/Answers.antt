use Rattle.std.proofs.Common.{◌^◌, ◌*◌, ◌%◌, ◌-◌, ℕ, arith, ap, ◌∙◌}
use Rattle.std.proofs.lemmas.Nat.{one_shl}
use Rattle.lan_levels.proofs.LayerCodes.{fitting_are, fitting_count}
use Rattle.lan_zip.proofs.Words.{word_room}
use Rattle.lan_zip.proofs.form.Form.of.Goals as goal

pub greatest-requires-clause-few : goal.greatest-requires-clause-few
greatest-requires-clause-few c =
    let same = fitting_count c.args.shape.codes.now c.args.shape.leaf.now.layers c.requires.codes in
    omega (arith, c.requires.few)

pub greatest-requires-clause-codes : goal.greatest-requires-clause-codes
greatest-requires-clause-codes c = fitting_are c.args.shape.codes.now c.args.shape.leaf.now.layers c.requires.codes

pub returns-clause-is : goal.returns-clause-is
returns-clause-is c =
    let codes = c.args.shape.codes.now in
    let layers = c.args.shape.leaf.now.layers in
    let same = fitting_count codes layers c.requires.codes in
    let bits = c.digits-bits.ensures.few in
    let lists = c.digits.ensures.few in
    let some = c.digits.ensures.some in
    record {
      few = omega (arith, c.requires.few);
      codes = fitting_are codes layers c.requires.codes;
      bits = bits;
      mask = ap (λ (k : ℕ). 1 * 2 ^ k % 65536 - 1) c.from.ensures ∙ ap (λ (k : ℕ). k - 1) (one_shl c.digits-bits.result 16 (omega arith));
      word = c.word_size.ensures.few;
      some = λ lt. let more = some lt in c.word_size.ensures.some (omega arith);
      below = omega (arith, c.digits-bits.ensures.room, c.greatest.ensures.count);
      room = λ rep def le lt. let wide = c.word_size.ensures.room (omega arith) in word_room c.digits.result c.digits-bits.result c.word_size.result rep def c.lists_in-lists.result (omega arith) c.digits.ensures.room le lt;
    }
