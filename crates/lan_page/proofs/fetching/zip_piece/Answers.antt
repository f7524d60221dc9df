use Rattle.lan_model.specs.Leaves.{plain_leaf}
use Rattle.lan_store.specs.Objects.{object}
use Rattle.lan_page.specs.declared.cut.PieceCut.{PieceCut}
use Rattle.lan_page.specs.Asking.{IfHeld, IsPieceOf}
use Rattle.lan_page.proofs.ConstantPieces.{few_buffers}
use Rattle.lan_page.proofs.GivenIndex.{index_given, held_part, piece_is, piece_asks, piece_bytes, fails_held, refuses_given}
use Rattle.lan_page.proofs.fetching.zip_piece.Goals as goal

pub returns-in-Err-clause-answer : goal.returns-in-Err-clause-answer
returns-in-Err-clause-answer g c = λ all told i.
    let few = few_buffers c.args.page.now c.args.leaf.now.layers c.requires.zip c.requires.page.buffers in
    let leaf = plain_leaf c.args.leaf.now in
    let held = object all c.args.name.now in
    fails_held {A = PieceCut} (λ (piece : PieceCut). IfHeld leaf c.args.page.now held (IsPieceOf leaf c.args.page.now held c.args.row piece c.args.into.now)) c.args.page.now held c.args.index.now c.in-Err.fault few i c.in-Err.ensures.fault

pub returns-in_err-cut-clause-asks : goal.returns-in_err-cut-clause-asks
returns-in_err-cut-clause-asks g c = λ all told i slots h.
    let leaf = plain_leaf c.args.leaf.now in
    let page = c.args.page.now in
    let held = object all c.args.name.now in
    let few = few_buffers page c.args.leaf.now.layers c.requires.zip c.requires.page.buffers in
    let is = held_part leaf page held c.args.index.now c.args.row c.in-Ok.piece c.requires.zip few i (c.in-Ok.ensures.exact (index_given leaf page held c.args.index.now slots c.requires.zip few i h)) in
    piece_asks leaf page held c.args.row c.in-Ok.piece is c.fetch_content.ensures.looked.asks

pub returns-clause-asks : goal.returns-clause-asks
returns-clause-asks g c = λ all told i slots h.
    let leaf = plain_leaf c.args.leaf.now in
    let page = c.args.page.now in
    let held = object all c.args.name.now in
    let few = few_buffers page c.args.leaf.now.layers c.requires.zip c.requires.page.buffers in
    let is = held_part leaf page held c.args.index.now c.args.row c.in-Ok.piece c.requires.zip few i (c.in-Ok.ensures.exact (index_given leaf page held c.args.index.now slots c.requires.zip few i h)) in
    piece_asks leaf page held c.args.row c.in-Ok.piece is c.fetch_content.ensures.looked.asks

pub returns-clause-answer : goal.returns-clause-answer
returns-clause-answer g c = λ all told i slots h.
    let leaf = plain_leaf c.args.leaf.now in
    let page = c.args.page.now in
    let held = object all c.args.name.now in
    let few = few_buffers page c.args.leaf.now.layers c.requires.zip c.requires.page.buffers in
    let is = held_part leaf page held c.args.index.now c.args.row c.in-Ok.piece c.requires.zip few i (c.in-Ok.ensures.exact (index_given leaf page held c.args.index.now slots c.requires.zip few i h)) in
    piece_is leaf page held c.args.row c.in-Ok.piece c.in_ok-cut.cut c.fetch_content.new.into c.requires.zip is c.in_ok-cut.ensures.cut (c.in_ok-cut.ensures.answer all told)

pub returns-clause-own : goal.returns-clause-own
returns-clause-own g c = λ all told i.
    let page = c.args.page.now in
    let few = few_buffers page c.args.leaf.now.layers c.requires.zip c.requires.page.buffers in
    piece_bytes (plain_leaf c.args.leaf.now) page (object all c.args.name.now) c.args.index.now c.args.row c.in-Ok.piece c.fetch_content.new.into c.requires.zip few i c.in-Ok.ensures.same (c.in_ok-cut.ensures.answer all told)

pub returns-in-Err-clause-fault : goal.returns-in-Err-clause-fault
returns-in-Err-clause-fault g c = λ all told. refuses_given c.args.page.now (object all c.args.name.now) c.args.index.now c.in-Err.fault c.in-Err.ensures.fault
