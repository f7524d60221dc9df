use Rattle.std.proofs.Common.{arith}
use Rattle.lan_levels.proofs.LayerCodes.{fitting_are, fitting_count}
use Rattle.lan_mini.proofs.form.Form.of.Goals as goal

pub greatest-requires-clause-few : goal.greatest-requires-clause-few
greatest-requires-clause-few c =
    let same = fitting_count c.args.shape.codes.now c.args.shape.leaf.now.layers c.requires.codes in
    omega (arith, c.requires.few)

pub greatest-requires-clause-codes : goal.greatest-requires-clause-codes
greatest-requires-clause-codes c = fitting_are c.args.shape.codes.now c.args.shape.leaf.now.layers c.requires.codes

pub returns-clause-is : goal.returns-clause-is
returns-clause-is c =
    let codes = c.args.shape.codes.now in
    let layers = c.args.shape.leaf.now.layers in
    let same = fitting_count codes layers c.requires.codes in
    record {
      few = omega (arith, c.requires.few);
      codes = fitting_are codes layers c.requires.codes;
      lists = c.lists.ensures.few;
      greatest = c.greatest.ensures.count;
    }
