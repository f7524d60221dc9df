use Rattle.std.proofs.Common.{◌+◌, ◌-◌, ◌*◌, inl, inr, arith, [], ◌∷◌, ◌++◌}
use Rattle.lan_arrow.specs.Deletions.{AreRows}
use Rattle.lan_arrow.proofs.Rows.{gather_more, rows_more, gather_refused}
use Rattle.lan_arrow.proofs.gathering.gather.Goals as goal

pub loop-i-preserved : goal.loop-i-preserved
loop-i-preserved c = record {
  whole = gather_more c.args.file.now.bytes c.loop-i.rows.items _ c.add.new.rows.items
      (c.args.batch.from + 4 * c.loop-i.i) (c.args.batch.from + 4 * (c.loop-i.i + 1))
      (c.args.batch.count - c.loop-i.i) (c.args.batch.count - (c.loop-i.i + 1)) c.in-Some.row
      c.loop-i.invariant.whole (omega arith) (omega arith) c.in-Some.ensures.some c.in_default-add.ensures.rows;
  seen = c.in_default-add.ensures.seen;
  right = let known : AreRows c.args.physical (c.loop-i.rows.items ++ c.in-Some.row ∷ [])
      = rows_more c.args.physical c.in-Some.row c.loop-i.rows.items c.loop-i.invariant.right
      c.in_default-add.ensures.below c.in_default-add.ensures.fresh in
      rw c.in_default-add.ensures.rows known;
}

pub returns-in-Err-clause-fault : goal.returns-in-Err-clause-fault
returns-in-Err-clause-fault c = elim c.in-Err.ensures.fault [
  | inl memory ↦ inl memory
  | inr bad ↦ inr (gather_refused c.args.physical c.args.file.now.bytes c.loop-i.rows.items _
      (c.args.batch.from + 4 * c.loop-i.i) (c.args.batch.count - c.loop-i.i) (c.args.batch.count - (c.loop-i.i + 1))
      c.in-Some.row _ c.loop-i.invariant.whole (omega arith) c.in-Some.ensures.some c.loop-i.invariant.right bad)
]
