use Rattle.std.proofs.Common.{◌≡◌, ◌∙◌, ◌+◌, Bool, refl, ap, sym, subst, rules, arith}
use Rattle.lan_levels.specs.Chunks.{small_chunks}
use Rattle.lan_levels.specs.ChunkSlots.{Buffer, IsLevelBuffer, buffer_end, buffer_bytes, level_in, header_number, reps_buffer, defs_buffer, values_buffer, one_if}
use Rattle.lan_mini.specs.Form.{plain_form}
use Rattle.lan_mini.specs.Cutting.{plain_buffer}
use Rattle.lan_mini.proofs.Places.{header_is, buffer_is}
use Rattle.lan_mini.proofs.buffers.Buffers.cut.Goals as goal

pub returns-clause-ok : goal.returns-clause-ok
returns-clause-ok c =
    let all = c.args.view.now.bytes in
    let f = plain_form c.args.form.now in
    let n = c.args.slots in
    let reps = c.in_ok-reps.ensures.ok in
    let defs = c.in_ok-defs.ensures.ok in
    let p : Buffer = record { stored = c.has_reps.result; number = 0; at = 8 } in
    let pe : p ≡ reps_buffer small_chunks f = buffer_is _ _ _ _ _ _ c.has_reps.ensures refl (sym (header_is f)) in
    let q = plain_buffer c.behind-place.result in
    let qe : q ≡ defs_buffer small_chunks f all =
    buffer_is _ _ _ _ _ _ (c.behind-place.ensures.stored ∙ c.has_defs.ensures) (c.behind-place.ensures.number ∙ ap (λ (b : Bool). 0 + one_if b) c.has_reps.ensures)
    (c.behind-place.ensures.at ∙ reps.end ∙ ap (buffer_end small_chunks all) pe) in
    let v = plain_buffer c.behind-place-2.result in
    let ve : v ≡ values_buffer small_chunks f all =
    buffer_is _ _ _ _ _ _ (c.behind-place-2.ensures.stored ∙ c.has_values.ensures) (c.behind-place-2.ensures.number ∙ ap (λ (b : Buffer). b.number + one_if b.stored) qe)
    (c.behind-place-2.ensures.at ∙ defs.end ∙ ap (buffer_end small_chunks all) qe) in
    let end = c.in_ok-end.ensures.ok ∙ ap (buffer_end small_chunks all) ve in
    let header = header_is f in
    let count : header_number small_chunks all 0 ≡ n = search rules in
    record {
      has = record {
        header = omega (arith, c.len.ensures.value);
        count = count;
        reps = subst (IsLevelBuffer small_chunks n all) pe reps.is;
        defs = subst (IsLevelBuffer small_chunks n all) qe defs.is;
        values = omega (arith, c.in_ok-end.ensures.within);
      };
      few = omega (arith, c.from.ensures);
      reps = reps.numbers ∙ ap (level_in small_chunks all n) pe;
      defs = defs.numbers ∙ ap (level_in small_chunks all n) qe;
      reps_count = reps.count;
      defs_count = defs.count;
      reps_few = reps.few;
      defs_few = defs.few;
      values = c.buffer_bytes.ensures.value ∙ ap (buffer_bytes small_chunks all) ve;
      end = end;
    }
