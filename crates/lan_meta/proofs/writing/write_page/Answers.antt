use Rattle.std.proofs.Common.{◌≡◌, ℕ, List, map, ap, subst, ◌∙◌}
use Rattle.std.specs.Prelude.{IfOk}
use Rattle.lan_model.specs.declared.range.Range.{Range}
use Rattle.lan_wire.specs.Written.{spelling_of}
use Rattle.lan_meta.specs.Written.{encoding_text, parts_written}
use Rattle.lan_meta.proofs.writing.write_page.Goals as goal

pub returns : goal.returns
returns c =
    let page = c.args.page.now in
    let offsets : c.as_slice.result.now ≡ map (λ (b : Range). b.at) page.buffers = c.as_slice.ensures.value ∙ c.in_ok-offsets.ensures ∙ ap (map (λ (b : Range). b.at)) c.as_slice-buffers.ensures in
    let sizes : c.as_slice-2.result.now ≡ map (λ (b : Range). b.len) page.buffers = c.as_slice-2.ensures.value ∙ c.in_ok-sizes.ensures ∙ ap (map (λ (b : Range). b.len)) c.as_slice-buffers.ensures in
    let encoding : c.as_slice-3.result.now ≡ encoding_text page.layout = c.as_slice-3.ensures.value ∙ c.in_ok-encoding.ensures in
    subst (λ (text : List ℕ). IfOk c.write_parts.result (λ bytes. bytes.items ≡ text)) (λ i. spelling_of (parts_written (offsets i) (sizes i) page.rows (encoding i) c.args.before)) c.write_parts.ensures
