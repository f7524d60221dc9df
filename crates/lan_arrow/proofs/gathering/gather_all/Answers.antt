use Rattle.std.proofs.Common.{ℕ, ◌+◌, ◌-◌, ◌∙◌, List, ap, inl, inr, arith}
use Rattle.lan_arrow.specs.Batches.{block_from, block_many}
use Rattle.lan_arrow.specs.Deletions.{all_rows, blocks_in, footer_of}
use Rattle.lan_arrow.proofs.Blocks.{blocks_bytes, blocks_count}
use Rattle.lan_arrow.proofs.Rows.{blocks_more, blocks_refused, blocks_none, not_rows, rows_none, none_seen}
use Rattle.lan_arrow.proofs.gathering.gather_all.Goals as goal

pub loop-i-preserved : goal.loop-i-preserved
loop-i-preserved c =
    let footer = blocks_bytes c.args.file.now c.args.blocks.now c.requires.blocks in
    let many = blocks_count c.args.file.now c.args.blocks.now c.requires.blocks in
    record {
      whole = blocks_more c.args.file.now.bytes (footer_of c.args.file.now.bytes) c.loop-i.rows.items _ c.gather.new.rows.items
          c.loop-i.i (blocks_in c.args.file.now.bytes - c.loop-i.i) (blocks_in c.args.file.now.bytes - (c.loop-i.i + 1))
          c.in-Ok.batch.from c.in-Ok.batch.count c.loop-i.invariant.whole (omega arith)
          (c.in-Ok.ensures.from ∙ ap (λ (f : List ℕ). block_from c.args.file.now.bytes f c.loop-i.i) footer)
          (c.in-Ok.ensures.count ∙ ap (λ (f : List ℕ). block_many c.args.file.now.bytes f c.loop-i.i) footer)
          c.in_default-gather.ensures.rows;
      seen = c.in_default-gather.ensures.seen;
      right = c.in_default-gather.ensures.right;
    }

pub loop-i-init : goal.loop-i-init
loop-i-init c = record {
  whole = blocks_none c.args.file.now.bytes (footer_of c.args.file.now.bytes) c.new-rows.result.items
      (blocks_in c.args.file.now.bytes) c.new-rows.ensures.items;
  seen = λ (x : ℕ). none_seen c.new-seen.result c.new-rows.result.items c.new-seen.ensures.empty c.new-rows.ensures.items x;
  right = rows_none c.args.physical c.new-rows.result.items c.new-rows.ensures.items;
}

pub returns-in-Err-clause-fault : goal.returns-in-Err-clause-fault
returns-in-Err-clause-fault c =
    let footer = blocks_bytes c.args.file.now c.args.blocks.now c.requires.blocks in
    let many = blocks_count c.args.file.now c.args.blocks.now c.requires.blocks in
    elim c.in-Err.ensures.fault [
      | inl memory ↦ inl memory
      | inr bad ↦ inr (blocks_refused c.args.physical c.args.file.now.bytes (footer_of c.args.file.now.bytes)
          c.loop-i.rows.items _ c.loop-i.i (blocks_in c.args.file.now.bytes - c.loop-i.i)
          (blocks_in c.args.file.now.bytes - (c.loop-i.i + 1)) c.in-Ok.batch.from c.in-Ok.batch.count _
          c.loop-i.invariant.whole (omega arith)
          (c.in-Ok.ensures.from ∙ ap (λ (f : List ℕ). block_from c.args.file.now.bytes f c.loop-i.i) footer)
          (c.in-Ok.ensures.count ∙ ap (λ (f : List ℕ). block_many c.args.file.now.bytes f c.loop-i.i) footer) bad)
    ]

pub returns-in-Err-clause-refused : goal.returns-in-Err-clause-refused
returns-in-Err-clause-refused c = elim (returns-in-Err-clause-fault c) [
  | inl memory ↦ inl memory
  | inr bad ↦ inr (not_rows c.args.physical (all_rows c.args.file.now.bytes) _ bad)
]
