-- A chunk that is written is a chunk of its slots.
use Rattle.std.proofs.Common.{◌≡◌, ◌∙◌, ℕ, zero, suc, ◌+◌, ◌*◌, ◌<◌, ◌≤◌, ◌^◌, Bool, true, false, cond, IsTrue, List, [], ◌∷◌, ◌++◌, length, map, take, drop, replicate, All, refl, ap, ap₂, subst, sym, arith, append_assoc, length-append, ltb-false}
use Rattle.std.specs.Prelude.{slice_index}
use Rattle.std.proofs.lemmas.List.{append-nil, take_at, drop_at, length-map}
use Rattle.std.proofs.lemmas.Option.{slice_get_within}
use Rattle.lan_bytes.specs.Numbers.{low_first}
use Rattle.lan_bytes.specs.Padding.{padded}
use Rattle.lan_levels.specs.declared.slot.State.{State}
use Rattle.lan_levels.specs.PlainSlots.{PlainSlot, PlainPiece}
use Rattle.lan_levels.specs.Chunks.{small_chunks}
use Rattle.lan_levels.specs.ChunkForm.{ChunkForm, Storing, buffered, always, has_buffer, has_reps, has_defs, has_values}
use Rattle.lan_levels.specs.ChunkSlots.{buffer_len, buffer_end, reps_buffer, defs_buffer, values_buffer, level_numbers, reps_in, defs_in, values_in, value_count, pieces_in, woven, one_if, LevelsFit, AreStored, HasBuffers, IsChunkOf, IsChunk}
use Rattle.lan_levels.specs.MiniWritten.{carried, stored_values, stored_size, number_bytes, zeros_behind, zero_padded, AreNumbered, rep_bytes, header_bytes, chunk_bytes, IsWrittenChunk}
use Rattle.lan_mini.specs.Building.{CanChunk}
use Rattle.lan_mini.proofs.HeaderBack.{Heads, heads, EachBelow, numbers_back}
use Rattle.lan_mini.proofs.SlotsBack.{values_back, slots_back, count_back}
use Rattle.lan_mini.proofs.Sizes.{each_fits, stored_len, numbers_len, numbered_count, reps_len, padded_len, header_bytes_len, zeros_len}

part_read : (stored : Bool) (len at : ℕ) (all pre part post : List ℕ) → all ≡ pre ++ (cond stored (zero_padded part) [] ++ post) → length pre ≡ at → (IsTrue stored → len ≡ length part) → cond stored (take len (drop at all)) [] ≡ cond stored part []
part_read true len at all pre part post e front size =
    ap (λ (bs : List ℕ). take len (drop at bs)) e
    ∙ ap (take len) (drop_at pre (zero_padded part ++ post) at front ∙ append_assoc part (zeros_behind (length part)) post)
    ∙ take_at part (zeros_behind (length part) ++ post) len (sym (size refl))
part_read false len at all pre part post e front size = refl

end_read : (stored : Bool) (len at : ℕ) (part : List ℕ) → (IsTrue stored → len ≡ length part) → cond stored (at + padded len) at ≡ at + length (cond stored (zero_padded part) [])
end_read true len at part size = ap (λ (k : ℕ). at + k) (ap padded (size refl) ∙ sym (padded_len part (length part) refl))
end_read false len at part size = omega arith

zeros_are : (ns : List ℕ) → EachBelow 1 ns → replicate (length ns) 0 ≡ ns
zeros_are [] h = refl
zeros_are (n ∷ ns) h = let z : 0 ≡ n = omega (arith, h.0) in ap₂ (λ (k : ℕ) (ks : List ℕ). k ∷ ks) z (zeros_are ns h.1)

level_back : (stored : Bool) (n : ℕ) (ns : List ℕ) → length ns ≡ n → (stored ≡ false → EachBelow 1 ns) → EachBelow (2 ^ 16) ns → level_numbers stored n (cond stored (number_bytes 2 ns) []) ≡ ns
level_back true n ns e zeros below = numbers_back ns below (numbers_len ns)
level_back false n ns e zeros below = ap (λ (k : ℕ). replicate k 0) (sym e) ∙ zeros_are ns (zeros refl)

below_more : (ns : List ℕ) (m k : ℕ) → m ≤ k → EachBelow m ns → EachBelow k ns
below_more [] m k le h = tt
below_more (n ∷ ns) m k le h = let lt = h.0 in (omega arith, below_more ns m k le h.1)

below_at : (ns : List ℕ) (m i : ℕ) → i < length ns → EachBelow m ns → slice_index ns i < m
below_at [] m i lt h = absurd (omega arith)
below_at (n ∷ ns) m zero lt h = h.0
below_at (n ∷ ns) m (suc i) lt h = below_at ns m i (omega arith) h.1

each_rep : (f : ChunkForm) (slots : List PlainSlot) → All (CanChunk f) slots → EachBelow (f.lists + 1) (map (λ (s : PlainSlot). s.rep) slots)
each_rep f [] h = tt
each_rep f (s ∷ slots) h =
    let one : CanChunk f s = h 0 s (omega arith) in
    let le = one.rep in
    (omega arith, each_rep f slots (λ k d lt. h (suc k) d (omega arith)))

each_def : (states : List State) (slots : List PlainSlot) (defs : List ℕ) → AreNumbered states slots defs → EachBelow (length states) defs
each_def states [] [] n = tt
each_def states [] (d ∷ defs) n = absurd n
each_def states (s ∷ slots) [] n = absurd n
each_def states (s ∷ slots) (d ∷ defs) n = (slice_get_within states d s.state n.0, each_def states slots defs n.1)

if_buffer : (st : Storing) (vs : List PlainPiece) → cond (has_buffer st) (stored_values st vs) [] ≡ stored_values st vs
if_buffer (buffered e) vs = refl
if_buffer (always p) vs = refl

-- four parts behind a front, grouped from the left and from the right
regrouped : (a b c d e : List ℕ) → a ++ b ++ c ++ d ++ e ≡ a ++ (b ++ (c ++ (d ++ e)))
regrouped a b c d e = simp append_assoc

headed : (n r d v z a b c : List ℕ) → (n ++ r ++ d ++ v) ++ z ++ a ++ b ++ c ≡ n ++ (r ++ (d ++ (v ++ (z ++ (a ++ (b ++ c))))))
headed n r d v z a b c = simp append_assoc

split_first : (h z a b c : List ℕ) → h ++ z ++ a ++ b ++ c ≡ (h ++ z) ++ (a ++ (b ++ c))
split_first h z a b c = simp append_assoc

split_second : (h z a b c : List ℕ) → h ++ z ++ a ++ b ++ c ≡ (h ++ z ++ a) ++ (b ++ c)
split_second h z a b c = simp append_assoc

split_third : (h z a b c : List ℕ) → h ++ z ++ a ++ b ++ c ≡ (h ++ z ++ a ++ b) ++ (c ++ [])
split_third h z a b c = ap (λ (bs : List ℕ). h ++ z ++ a ++ b ++ bs) (sym (append-nil c))

-- what a chunk that is written says of itself
pub record Said (f : ChunkForm) (slots : List PlainSlot) (defs all : List ℕ) : Type 0 where
  pub has : HasBuffers small_chunks f (length slots) all
  pub reps : reps_in small_chunks f (length slots) all ≡ map (λ (s : PlainSlot). s.rep) slots
  pub defs_are : defs_in small_chunks f (length slots) all ≡ defs
  pub values : values_in small_chunks f all ≡ stored_values f.values (carried f slots)
  pub whole : buffer_end small_chunks all (values_buffer small_chunks f all) ≡ length all

pub said : (f : ChunkForm) (slots : List PlainSlot) (defs all : List ℕ) → f.lists < 2 ^ 16 → length f.states ≤ 2 ^ 16 → All (CanChunk f) slots → length slots ≤ 4096 → stored_size f slots < 2 ^ 16 → AreNumbered f.states slots defs → all ≡ chunk_bytes small_chunks f slots defs
    → Said f slots defs all
said f slots defs all lists states can few small numbered e =
    let n = length slots in
    let A = has_reps f in
    let B = has_defs f in
    let C = has_values f in
    let w = 2 * (one_if A + one_if B + one_if C + 1) in
    let size = stored_size f slots in
    let hd = header_bytes small_chunks f slots in
    let z = zeros_behind w in
    let reps = map (λ (s : PlainSlot). s.rep) slots in
    let rb = rep_bytes slots in
    let db = number_bytes 2 defs in
    let vb = stored_values f.values (carried f slots) in
    let R = cond A (zero_padded rb) [] in
    let D = cond B (zero_padded db) [] in
    let V = cond C (zero_padded vb) [] in
    let front : all ≡ low_first 2 n ++ (cond A (low_first 2 (2 * n)) [] ++ (cond B (low_first 2 (2 * n)) [] ++ (cond C (low_first 2 size) [] ++ (z ++ (R ++ (D ++ V)))))) =
    e ∙ headed (low_first 2 n) (cond A (low_first 2 (2 * n)) []) (cond B (low_first 2 (2 * n)) []) (cond C (low_first 2 size) []) z R D V in
    let hs = subst (Heads A B C n (2 * n) (2 * n) size) (sym front) (heads A B C n (2 * n) (2 * n) size (z ++ (R ++ (D ++ V))) (omega arith) (omega arith) (omega arith) small) in
    let count = numbered_count f.states slots defs numbered in
    let defs_len : length db ≡ 2 * n = omega (arith, numbers_len defs) in
    let p = reps_buffer small_chunks f in
    let q = defs_buffer small_chunks f all in
    let v = values_buffer small_chunks f all in
    let pl : IsTrue A → buffer_len small_chunks all p ≡ length rb = λ t. hs.first t ∙ sym (reps_len slots) in
    let ql : IsTrue B → buffer_len small_chunks all q ≡ length db = λ t. hs.second t ∙ sym defs_len in
    let vl : IsTrue C → buffer_len small_chunks all v ≡ length vb = λ t. hs.third t ∙ sym (stored_len f slots can) in
    let pf : length (hd ++ z) ≡ p.at = length-append hd z ∙ ap (λ (k : ℕ). k + length z) (header_bytes_len f slots) ∙ zeros_len w in
    let pb = part_read A (buffer_len small_chunks all p) p.at all (hd ++ z) rb (D ++ V) (e ∙ split_first hd z R D V) pf pl in
    let pe = end_read A (buffer_len small_chunks all p) p.at rb pl in
    let qf : length (hd ++ z ++ R) ≡ q.at = length-append (hd ++ z) R ∙ ap (λ (k : ℕ). k + length R) pf ∙ sym pe in
    let qb = part_read B (buffer_len small_chunks all q) q.at all (hd ++ z ++ R) db V (e ∙ split_second hd z R D V) qf ql in
    let qe = end_read B (buffer_len small_chunks all q) q.at db ql in
    let vf : length (hd ++ z ++ R ++ D) ≡ v.at = length-append (hd ++ z ++ R) D ∙ ap (λ (k : ℕ). k + length D) qf ∙ sym qe in
    let vbs = part_read C (buffer_len small_chunks all v) v.at all (hd ++ z ++ R ++ D) vb [] (e ∙ split_third hd z R D V) vf vl in
    let ve = end_read C (buffer_len small_chunks all v) v.at vb vl in
    let whole : buffer_end small_chunks all v ≡ length all = ve ∙ ap (λ (k : ℕ). k + length V) (sym vf) ∙ sym (length-append (hd ++ z ++ R ++ D) V) ∙ ap (length {A = ℕ}) (sym e) in
    let rep_below = each_rep f slots can in
    let def_below = each_def f.states slots defs numbered in
    let no_reps : A ≡ false → EachBelow 1 reps = λ h. let none = ltb-false 0 f.lists h in below_more reps (f.lists + 1) 1 (omega arith) rep_below in
    let no_defs : B ≡ false → EachBelow 1 defs = λ h. let none = ltb-false 1 (length f.states) h in below_more defs (length f.states) 1 (omega arith) def_below in
    let at_p : p.at ≤ buffer_end small_chunks all p = omega (arith, pe) in
    let at_q : q.at ≤ buffer_end small_chunks all q = omega (arith, qe) in
    let at_v : v.at ≤ buffer_end small_chunks all v = omega (arith, ve) in
    record {
      has = record {
        header = omega (arith, whole);
        count = hs.count;
        reps = record { within = omega (arith, whole); size = hs.first };
        defs = record { within = omega (arith, whole); size = hs.second };
        values = omega (arith, whole);
      };
      reps = ap (level_numbers A n) pb ∙ level_back A n reps (length-map slots (λ (s : PlainSlot). s.rep)) no_reps (below_more reps (f.lists + 1) (2 ^ 16) (omega arith) rep_below);
      defs_are = ap (level_numbers B n) qb ∙ level_back B n defs count no_defs (below_more defs (length f.states) (2 ^ 16) states def_below);
      values = vbs ∙ if_buffer f.values (carried f slots);
      whole = whole;
    }

pub chunk_back : (f : ChunkForm) (slots : List PlainSlot) (all : List ℕ) → f.lists < 2 ^ 16 → length f.states ≤ 2 ^ 16 → All (CanChunk f) slots → length slots ≤ 4096 → stored_size f slots < 2 ^ 16 → IsWrittenChunk small_chunks f slots all → IsChunk small_chunks f all slots
chunk_back f slots all lists states can few small h =
    let n = length slots in
    let defs = h.defs in
    let reps = map (λ (s : PlainSlot). s.rep) slots in
    let vs = carried f slots in
    let vb = stored_values f.values vs in
    let s = said f slots defs all lists states can few small h.numbered h.is in
    let back = values_back f.values vs (each_fits f slots can) small in
    let count = count_back f slots defs h.numbered in
    let same = numbered_count f.states slots defs h.numbered in
    let ri = reps_in small_chunks f n all in
    let di = defs_in small_chunks f n all in
    let vi = values_in small_chunks f all in
    let fit : LevelsFit f reps defs n = λ i lt.
    let rlen = length-map slots (λ (t : PlainSlot). t.rep) in
    let r = below_at reps (f.lists + 1) i (omega arith) (each_rep f slots can) in
    record { rep = omega arith; def = below_at defs (length f.states) i (omega arith) (each_def f.states slots defs h.numbered) } in
    let values : AreStored f.values (value_count f defs) vb = subst (λ (k : ℕ). AreStored f.values k vb) (sym count) back.is in
    let is : IsChunkOf small_chunks f n all = record {
      buffers = s.has;
      levels = subst (λ (rs : List ℕ). LevelsFit f rs di n) (sym s.reps) (subst (λ (ds : List ℕ). LevelsFit f reps ds n) (sym s.defs_are) fit);
      values = subst (λ (bs : List ℕ). AreStored f.values (value_count f di) bs) (sym s.values) (subst (λ (ds : List ℕ). AreStored f.values (value_count f ds) vb) (sym s.defs_are) values);
      whole = s.whole;
    } in
    record {
      is = is;
      are =
          sym (
          ap₂ (λ (rs ds : List ℕ). woven f rs ds (pieces_in f.values (value_count f ds) vi)) s.reps s.defs_are
          ∙ ap (λ (bs : List ℕ). woven f reps defs (pieces_in f.values (value_count f defs) bs)) s.values
          ∙ ap (λ (k : ℕ). woven f reps defs (pieces_in f.values k vb)) count
          ∙ ap (woven f reps defs) back.pieces
          ∙ slots_back f slots defs can h.numbered
          );
    }
