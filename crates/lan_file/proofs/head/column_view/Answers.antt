use Rattle.std.proofs.Common.{◌≡◌, ◌∙◌, ap, ◌-◌}
use Rattle.lan_bytes.specs.Placed.{Placed, part_of}
use Rattle.lan_file.proofs.TablesRead.{view_there}
use Rattle.lan_file.proofs.head.column_view.Goals as goal

pub returns : goal.returns
returns c = λ bytes is.
    let t = c.args.tables.now in
    let column = c.column-column.result in
    let at = column.at - t.footer.columns_at in
    let metadata : c.new-metadata.result ≡ record { base = t.footer.columns_at; bytes = t.metadata } = c.new-metadata.ensures ∙ ap (λ (l : _). record { base = t.footer.columns_at; bytes = l }) c.as_slice.ensures in
    view_there bytes t c.args.number column c.in-Some.view is c.requires.there c.requires.kept c.column-column.ensures (c.in-Some.ensures.some ∙ ap (λ (p : Placed). part_of p at column.size) metadata)
