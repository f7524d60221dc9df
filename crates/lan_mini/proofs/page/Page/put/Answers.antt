use Rattle.std.proofs.Common.{◌≡◌, ◌∙◌, ◌+◌, ◌-◌, ◌*◌, ◌/◌, ◌++◌, ℕ, IsTrue, length, ap, arith, length-append}
use Rattle.std.proofs.lemmas.Result.{on_ok_weaker}
use Rattle.lan_bytes.specs.Numbers.{low_first}
use Rattle.lan_levels.specs.ChunkForm.{has_reps}
use Rattle.lan_mini.specs.Form.{plain_form}
use Rattle.lan_mini.specs.Building.{range}
use Rattle.lan_mini.specs.Pages.{PutEntry}
use Rattle.lan_mini.proofs.PageParts.{chunk_len, chunk_some}
use Rattle.lan_mini.proofs.page.Page.put.Goals as goal

pub word-requires-clause-some : goal.word-requires-clause-some
word-requires-clause-some c =
    let f = plain_form c.args.form.now in
    let slots = range c.args.slots.now c.args.at (c.args.at + c.args.cut.count) in
    let chunk = c.in_ok-put_chunk.ensures in
    let len = chunk_len f slots chunk.part c.requires.slots chunk.is in
    let grown = ap (length {A = ℕ}) chunk.grown in
    omega (arith, c.len.ensures, c.len-start.ensures, length-append c.args.self.now.content chunk.part, chunk_some f slots)

pub word-requires-clause-few : goal.word-requires-clause-few
word-requires-clause-few c =
    let f = plain_form c.args.form.now in
    let slots = range c.args.slots.now c.args.at (c.args.at + c.args.cut.count) in
    let chunk = c.in_ok-put_chunk.ensures in
    let len = chunk_len f slots chunk.part c.requires.slots chunk.is in
    let grown = ap (length {A = ℕ}) chunk.grown in
    omega (arith, c.len.ensures, c.len-start.ensures, length-append c.args.self.now.content chunk.part, c.requires.fits)

pub returns : goal.returns
returns c =
    let f = plain_form c.args.form.now in
    let slots = range c.args.slots.now c.args.at (c.args.at + c.args.cut.count) in
    let chunk = c.in_ok-put_chunk.ensures in
    let grown = ap (length {A = ℕ}) chunk.grown in
    let size : c.len.result - c.len-start.result ≡ length chunk.part = omega (arith, c.len.ensures, c.len-start.ensures, length-append c.args.self.now.content chunk.part) in
    let worth = c.word.ensures.value ∙ ap (λ (n : ℕ). 16 * (n / 8 - 1) + c.args.cut.log) size in
    on_ok_weaker c.put_entry.result
    (λ (e : IsTrue (has_reps f) → PutEntry c.args.form.now.lists slots c.args.self.now.index c.put_entry.new.index).
    record { bytes = chunk.part; is = chunk.is; content = chunk.grown; words = c.in_ok-num.ensures.ok ∙ ap (λ (n : ℕ). c.args.self.now.words ++ low_first 2 n) worth; index = e })
    c.put_entry.ensures
