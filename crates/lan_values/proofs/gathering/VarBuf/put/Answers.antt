use Rattle.std.proofs.Common.{length, arith, ap, List, ℕ}
use Rattle.std.specs.List.{concat}
use Rattle.lan_values.proofs.Cuts.{concat_cut, count_cut}
use Rattle.lan_values.proofs.gathering.VarBuf.put.Goals as goal

pub buffer_of-requires-clause-short : goal.buffer_of-requires-clause-short
buffer_of-requires-clause-short c =
    let b = c.self.inside in
    let count = count_cut b.lengths b.bytes in
    let whole = ap (length {A = ℕ}) (concat_cut b.lengths b.bytes c.self.invariant) in
    let few = c.requires in
    let same = ap (λ (vs : List (List ℕ)). length vs) c.self.view_is in
    let all = ap (λ (vs : List (List ℕ)). length (concat vs)) c.self.view_is in
    omega (arith, ap (length {A = ℕ}) c.as_slice.ensures, ap (length {A = ℕ}) c.as_slice-2.ensures)
