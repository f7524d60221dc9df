-- The blocks of a file are those of its footer.
use Rattle.std.proofs.Common.{◌≡◌, ap}
use Rattle.lan_bytes.specs.Placed.{Placed}
use Rattle.lan_arrow.specs.Flat.{VectorAt, count_of}
use Rattle.lan_arrow.specs.Footer.{block_count}
use Rattle.lan_arrow.specs.Deletions.{footer_of, footer_in, blocks_of, blocks_in}

pub blocks_bytes : (file : Placed) (blocks : VectorAt) → blocks ≡ blocks_of file → blocks.buffer.bytes ≡ footer_of file.bytes
unfolding footer_of footer_in
blocks_bytes file blocks e = ap (λ (v : VectorAt). v.buffer.bytes) e

pub blocks_count : (file : Placed) (blocks : VectorAt) → blocks ≡ blocks_of file → count_of blocks ≡ blocks_in file.bytes
unfolding footer_of footer_in block_count
blocks_count file blocks e = ap (λ (v : VectorAt). count_of v) e
