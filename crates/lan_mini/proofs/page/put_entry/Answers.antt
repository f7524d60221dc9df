use Rattle.std.proofs.Common.{◌≡◌, ◌∙◌, ◌++◌, List, ℕ, IsTrue, ap, ap₂, append_assoc}
use Rattle.std.proofs.lemmas.Result.{on_ok_weaker}
use Rattle.lan_bytes.specs.Numbers.{low_first}
use Rattle.lan_levels.specs.ChunkForm.{has_reps}
use Rattle.lan_mini.specs.Form.{plain_form}
use Rattle.lan_mini.proofs.page.put_entry.Goals as goal

pub returns : goal.returns
returns c =
    let a = c.row_starts.result in
    let b = c.lead.result in
    on_ok_weaker c.num-2.result
    (λ (e : c.num-2.new.self ≡ c.num.new.self ++ low_first 8 b) (t : IsTrue (has_reps (plain_form c.args.form.now))).
    e
    ∙ ap (λ (bs : List ℕ). bs ++ low_first 8 b) c.in_ok-num.ensures.ok
    ∙ append_assoc c.args.index.now (low_first 8 a) (low_first 8 b)
    ∙ ap₂ (λ (x y : ℕ). c.args.index.now ++ (low_first 8 x ++ low_first 8 y)) c.row_starts.ensures c.lead.ensures)
    c.num-2.ensures.ok
