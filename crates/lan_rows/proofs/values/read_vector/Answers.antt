use Rattle.std.proofs.Common.{◌≡◌, Some, Err, inl, inr, sym, ap, ◌∙◌, length}
use Rattle.serde_json.specs.Find.{as_array}
use Rattle.serde_json.specs.View.{view, items_view}
use Rattle.lan_rows.specs.declared.faults.RowFault.TheVariants.{Count}
use Rattle.lan_rows.proofs.ReadingLemmas.{vector_count, vector_err, vector_ok}
use Rattle.lan_rows.proofs.values.read_vector.Goals as goal

pub returns-then-items-from-clause-err : goal.returns-then-items-from-clause-err
returns-then-items-from-clause-err c =
    let vs = c.as_slice-items.result.now in
    let found : Some (items_view vs) ≡ as_array (view c.args.value.now) = rw c.as_slice-items.ensures.value c.in-Some.ensures in
    let other = λ (is : length vs ≡ c.args.count). c.if-items-from.true (is ∙ sym c.from.ensures) in
    inr (vector_count c.args.top.now c.args.prim c.args.count (view c.args.value.now) vs found other ∙ ap (λ k. Err (Count k)) (sym c.in_ok-of-2.ensures))

pub returns-in-Ok-clause-ok : goal.returns-in-Ok-clause-ok
returns-in-Ok-clause-ok c =
    let vs = c.as_slice-items.result.now in
    let found : Some (items_view vs) ≡ as_array (view c.args.value.now) = rw c.as_slice-items.ensures.value c.in-Some.ensures in
    let all : length vs ≡ c.args.count = c.if-items-from.false ∙ c.from.ensures in
    vector_ok c.args.top.now c.args.prim c.args.count (view c.args.value.now) vs c.in-Ok.bytes found all c.in-Ok.ensures.ok

pub returns-in-Err-clause-err : goal.returns-in-Err-clause-err
returns-in-Err-clause-err c =
    let vs = c.as_slice-items.result.now in
    let found : Some (items_view vs) ≡ as_array (view c.args.value.now) = rw c.as_slice-items.ensures.value c.in-Some.ensures in
    let all : length vs ≡ c.args.count = c.if-items-from.false ∙ c.from.ensures in
    elim c.in-Err.ensures.err [
      | inl memory ↦ inl memory
      | inr fails ↦ inr (vector_err c.args.top.now c.args.prim c.args.count (view c.args.value.now) vs c.in-Err.fault found all fails)
    ]
