use Rattle.std.proofs.Common.{◌≡◌, ◌+◌, ◌-◌, ap, arith, get_or, sym, ℕ}
use Rattle.std.proofs.lemmas.List.Sums.{sum_by-take-le, sum_by_more}
use Rattle.lan_manifest.specs.Manifests.{plain_manifest}
use Rattle.lan_manifest.specs.declared.manifest.Fragment.{Fragment}
use Rattle.lan_read.specs.Opening.{rows_in}
use Rattle.lan_read.specs.Scanned.{deleted_in}
use Rattle.lan_read.proofs.OpenedVersions.{few_rows}
use Rattle.lan_read.proofs.snapshot.Snapshot.rows.Goals as goal

pub overflow_add-rows : goal.overflow_add-rows
overflow_add-rows c =
    let live : Fragment → ℕ = λ f. f.rows - deleted_in f.deletion in
    let items = c.as_slice-fragment-items.result.now in
    let i = c.loop-fragment.fragment-index in
    let few = few_rows (plain_manifest c.self.inside.manifest) c.self.invariant in
    let same = ap rows_in c.as_slice-fragment-items.ensures in
    let here : live (get_or items i c.fragment-item.result) ≡ live c.fragment-item.result = ap live (sym c.fragment-item.is) in
    let next = sum_by_more live items i c.fragment-item.result c.loop-fragment-test.true in
    let part = sum_by-take-le live items (i + 1) in
    omega (arith, few, same, here, next, part, c.loop-fragment.invariant, c.live_rows-rows.ensures)
