use Rattle.std.proofs.Common.{◌≡◌, ◌*◌, true, length, rules, arith}
use Rattle.lan_levels.specs.Chunks.{small_chunks}
use Rattle.lan_levels.specs.ChunkSlots.{buffer_bytes}
use Rattle.lan_mini.specs.Cutting.{plain_buffer}
use Rattle.lan_mini.proofs.Places.{level_buffer, numbers_count, stored_numbers}
use Rattle.lan_mini.proofs.buffers.cut_level.Goals as goal

pub returns-clause-ok : goal.returns-clause-ok
returns-clause-ok c =
    let all = c.args.view.now.bytes in
    let n = c.args.slots in
    let b = plain_buffer c.args.place in
    let bs = c.buffer_bytes-bytes.result.now in
    let value = c.buffer_bytes-bytes.ensures.value in
    let size : length bs ≡ 2 * n = search rules in
    let stored : c.args.place.stored ≡ true = search rules in
    record {
      is = level_buffer b n all bs value size (omega (arith, c.in_ok-end.ensures.ok, c.in_ok-end.ensures.within));
      numbers = stored_numbers c.args.place.stored n bs (buffer_bytes small_chunks all b) stored value;
      count = numbers_count bs n size;
      few = c.buffer_bytes-bytes.ensures.few;
      end = c.in_ok-end.ensures.ok;
    }
