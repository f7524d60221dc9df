use Rattle.std.proofs.Common.{◌≡◌, ◌∙◌, ap, arith, get_or, length, List}
use Rattle.std.specs.Prelude.{unwrap_or}
use Rattle.std.specs.BTreeMap.{get}
use Rattle.std.specs.Ordering.{int_cmp}
use Rattle.lan_manifest.specs.declared.manifest.DataFile.{DataFile}
use Rattle.lan_read.specs.Grouped.{last_at}
use Rattle.lan_read.proofs.Grouping.{last_or_first, places_at}
use Rattle.lan_read.proofs.used.places_of.Goals as goal

pub loop-file-preserved : goal.loop-file-preserved
loop-file-preserved c = λ id.
    let files = c.args.files.now in
    let i = c.loop-file.file-index in
    let file = c.file-item.result in
    let number : c.unwrap_or-number.result ≡ last_at files file.path =
    c.unwrap_or-number.ensures ∙ ap (λ o. unwrap_or o 0) (c.copied.ensures ∙ c.get.ensures.value ∙ c.in_ok-last.ensures c.as_str.result.now) ∙ last_or_first files c.as_str.result.now ∙ ap (last_at files) c.as_str.ensures.value
    in
    places_at files files i file c.unwrap_or-number.result id (get int_cmp c.loop-file.places id) (get int_cmp c.list_columns.new.places id) _
    (omega (arith, c.loop-file-test.true, ap length c.as_slice-file-items.ensures)) (c.file-item.is ∙ ap (λ (l : List DataFile). get_or l i file) c.as_slice-file-items.ensures) number (c.in_ok-list_columns.ensures id) (c.loop-file.invariant id)
