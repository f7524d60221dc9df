-- The runs of a page's rows, in order.
use Rattle.std.proofs.Common.{ℕ, ◌+◌, ◌-◌, ◌*◌, ◌<◌, ◌≤◌, length, arith}
use Rattle.std.proofs.Math.Nat.{mul-le-mul_left}
use Rattle.lan_levels.specs.Stretch.{Stretch, IsRising}
use Rattle.lan_levels.specs.Offsets.{place_at}
use Rattle.lan_levels.specs.Runs.{Runs, empty, even, placed, chunked, is_held, first_chunk, last_chunk, run, IsIndex, IndexedRunsRise}
use Rattle.lan_levels.specs.Chunks.{word_bytes}
use Rattle.lan_index.proofs.Climbs.{climbs}
use Rattle.lan_index.proofs.PastLemmas.{greatest_le}
use Rattle.lan_index.proofs.ChunkLemmas.{so_rises}
use Rattle.lan_index.proofs.ChunkRuns.{first_later, last_later, first_last}

pub rising : (r : Runs) (rows len : ℕ) → IsIndex r rows len → IsRising (run r) rows
rising empty rows len h = record { fronts = λ a b le less. omega arith; ends = λ a b le less. omega arith }
rising (even width) rows len h = record { fronts = λ a b le less. mul-le-mul_left width le; ends = λ a b le less. mul-le-mul_left width (let l : a + 1 ≤ b + 1 = omega arith in l) }
rising (placed places) rows len h = record {
  fronts = λ a b le less. climbs (place_at places) rows a b h.rises le (omega arith);
  ends = λ a b le less. climbs (place_at places) rows (a + 1) (b + 1) h.rises (omega arith) (omega arith);
}
rising (chunked slots words index) rows len h = record {
  fronts = λ a b le less. so_rises word_bytes words (first_chunk words index a) (first_chunk words index b) (first_later words index a b le);
  ends = λ a b le less. so_rises word_bytes words (last_chunk words index a + 1) (last_chunk words index b + 1) (let later = last_later words index a b le in let l : last_chunk words index a + 1 ≤ last_chunk words index b + 1 = omega arith in l);
}

-- a run lies in the content, and its front is not behind its end
pub record IsInside (s : Stretch) (len : ℕ) : Type 0 where
  pub order : s.from ≤ s.past
  pub within : s.past ≤ len

pub inside : (r : Runs) (rows len row : ℕ) → IsIndex r rows len → row < rows → IsInside (run r row) len
inside empty rows len row h less = record { order = omega arith; within = omega arith }
inside (even width) rows len row h less = record { order = mul-le-mul_left width (let l : row ≤ row + 1 = omega arith in l); within = let m : width * (row + 1) ≤ width * rows = mul-le-mul_left width (let l : row + 1 ≤ rows = omega arith in l) in omega arith }
inside (placed places) rows len row h less = record {
  order = h.rises row less;
  within = let c : place_at places (row + 1) ≤ place_at places rows = climbs (place_at places) rows (row + 1) rows h.rises (omega arith) (omega arith) in let e = h.last in omega arith;
}
inside (chunked slots words index) rows len row h less =
    let some = h.0.some in
    let all = h.0.bytes_are.all in
    let order = first_last words index row in
    let few = greatest_le (is_held index row) (length words - 1) in
    let up = so_rises word_bytes words (first_chunk words index row) (last_chunk words index row + 1) (omega arith) in
    let end = so_rises word_bytes words (last_chunk words index row + 1) (length words) (omega arith) in
    record { order = up; within = omega arith }

-- the end of a run lies behind the front of an earlier one
pub end_behind : (r : Runs) (rows len row q : ℕ) → IsIndex r rows len → row ≤ q → q < rows → (run r row).from ≤ (run r q).past
end_behind r rows len row q h le less =
    let i = inside r rows len row h (omega arith) in
    let e = (rising r rows len h).ends row q le less in
    let o = i.order in
    omega arith

-- where rows are indexed, their runs rise and lie in the content
pub runs_rise : IndexedRunsRise
runs_rise r rows bytes h = record {
  rising = rising r rows bytes h;
  order = λ row less. (inside r rows bytes row h less).order;
  within = λ row less. (inside r rows bytes row h less).within;
}
