use Rattle.std.proofs.Common.{◌∙◌, List, ap}
use Rattle.lan_model.specs.declared.tree.Leaf.{Leaf}
use Rattle.lan_model.specs.Leaves.{plain_leaves}
use Rattle.lan_model.specs.Plain.{plain_values}
use Rattle.lan_model.specs.PlainTable.{row_of}
use Rattle.lan_commit.specs.Shredded.{with_row}
use Rattle.lan_commit.proofs.ShreddedRows.{row_more}
use Rattle.lan_commit.proofs.new_rows.NewRows.push.Goals as goal

pub returns : goal.returns
returns c fields rows are fits room =
    let n = c.args.self.now in
    row_more fields rows (row_of c.args.row.now) (plain_leaves n.leaves) n.columns c.shred_each.new.columns n.count are fits room
    (c.in_ok-shred_each.ensures.ok ∙ ap (λ (ls : List Leaf). with_row (plain_leaves ls) (plain_values c.args.row.now) n.columns) c.as_slice.ensures) c.in_ok-shred_each.ensures.counted
