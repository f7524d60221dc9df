use Rattle.std.proofs.Common.{◌≡◌, ◌∷◌, [], List, ℕ, cond, subst, rules}
use Rattle.std.proofs.lemmas.Result.{IfOk-weaker}
use Rattle.lan_model.specs.Leaves.{plain_leaf}
use Rattle.lan_levels.specs.Chunks.{small_chunks}
use Rattle.lan_levels.specs.ChunkForm.{ChunkForm, has_reps, written_chunk_form}
use Rattle.lan_levels.specs.MiniWritten.{IsWrittenMini}
use Rattle.lan_mini.specs.Form.{plain_form}
use Rattle.lan_mini.specs.Building.{range}
use Rattle.lan_mini.proofs.Leaves.{can_chunks}
use Rattle.lan_mini.proofs.PageParts.{mini_is}
use Rattle.lan_mini.proofs.page.build_page.Goals as goal

pub put_all-requires-clause-slots : goal.put_all-requires-clause-slots
put_all-requires-clause-slots c =
    let same : plain_form c.of-form.result ≡ written_chunk_form c.args.leaf.now = search rules in
    can_chunks (plain_leaf c.args.leaf.now) (plain_form c.of-form.result) (range c.args.slots.now c.args.from c.args.to) same c.requires.slots c.requires.short

pub returns : goal.returns
returns c =
    let f = plain_form c.of-form.result in
    let slots = range c.args.slots.now c.args.from c.args.to in
    let page = c.put_all.new.self in
    let same : f ≡ written_chunk_form c.args.leaf.now = search rules in
    IfOk-weaker c.finish.result (λ (buffers : List (List ℕ)). buffers ≡ page.words ∷ page.content ∷ cond (has_reps f) (page.index ∷ []) []) (IsWrittenMini small_chunks (written_chunk_form c.args.leaf.now) slots)
    (λ buffers e. subst (λ (g : ChunkForm). IsWrittenMini small_chunks g slots buffers) same (mini_is f slots page buffers c.in_ok-put_all.ensures e)) c.finish.ensures
