use Rattle.std.proofs.Common.{refl, arith}
use Rattle.lan_model.specs.Leaves.{plain_leaf}
use Rattle.lan_store.specs.Objects.{object}
use Rattle.lan_page.proofs.ConstantPieces.{constant_piece}
use Rattle.lan_page.proofs.fetching.fetch_piece.Goals as goal

pub returns-in-Constant-clause-answer : goal.returns-in-Constant-clause-answer
returns-in-Constant-clause-answer g c = λ all told i slots h.
    constant_piece (plain_leaf c.args.leaf.now) c.args.page.now (object all c.args.name.now) c.args.leaf.now.layers c.in-Constant.codes c.in-Constant.slots c.in-Constant.value c.args.row _ c.args.into.now c.in-Constant.is c.requires.page.buffers c.requires.row refl (omega arith) c.nothing.ensures
    c.requires.empty
