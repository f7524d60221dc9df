use Rattle.std.proofs.Common.{ℕ, List, below_more, subst}
use Rattle.lan_arrow.specs.Batches.{IsBlock}
use Rattle.lan_arrow.specs.Deletions.{footer_of}
use Rattle.lan_arrow.proofs.Blocks.{blocks_bytes}
use Rattle.lan_arrow.proofs.reading.check_batches.Goals as goal

pub loop-i-preserved : goal.loop-i-preserved
loop-i-preserved c =
    below_more (λ (k : ℕ). IsBlock c.args.file.now.bytes (footer_of c.args.file.now.bytes) k) c.loop-i.i c.loop-i.invariant
    (subst (λ (footer : List ℕ). IsBlock c.args.file.now.bytes footer c.loop-i.i)
    (blocks_bytes c.args.file.now c.args.blocks.now c.requires.blocks) c.in_default.ensures.block)
