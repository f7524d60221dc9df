use Rattle.std.proofs.Common.{◌≡◌, ◌∙◌, ◌+◌, ◌-◌, ◌≤◌, [], length, arith}
use Rattle.std.proofs.lemmas.Result.{err_from_is_err_and}
use Rattle.lan_store.specs.Objects.{object}
use Rattle.lan_file.specs.Opening.{IsOpened}
use Rattle.lan_file.specs.Parts.{part}
use Rattle.lan_file.specs.Tables.{IsTablesOf}
use Rattle.lan_file.proofs.Held.{one, both}
use Rattle.lan_file.proofs.HeadHeld.{piece_breaks}
use Rattle.lan_file.proofs.TablesRead.{held_is, tables_ok, tables_are, tables_within}
use Rattle.lan_file.proofs.tables.read_tables.Goals as goal

pub returns-in_err-opened-clause-answer : goal.returns-in_err-opened-clause-answer
returns-in_err-opened-clause-answer g c = λ all told picks.
    let p = err_from_is_err_and c.from_residual.result c.from_residual.ensures.1 in rw (p.1, p.2) (c.in_err-opened.ensures.answer all told picks)

pub returns-in_err-metadata-clause-answer : goal.returns-in_err-metadata-clause-answer
returns-in_err-metadata-clause-answer g c = λ all told picks.
    let p = err_from_is_err_and c.from_residual-in_err-metadata.result c.from_residual-in_err-metadata.ensures.1 in
    let held = object all c.args.name.now in
    let o = c.in_ok-opened.opened in
    let order = c.in_ok-opened.ensures.tables.1 in
    let within = one held (λ bytes. IsOpened bytes o) (λ bytes. o.footer.columns_at + (o.size - 40 - o.footer.columns_at) ≤ length bytes) (c.in_ok-opened.ensures.answer all told picks)
    (λ bytes opened. omega (arith, opened.size, order.columns, order.column_table, order.globals_table)) in
    rw (p.1, p.2) (piece_breaks picks held o.footer.columns_at (o.size - 40 - o.footer.columns_at) c.in_err-metadata.field-0.0 within (c.in_err-metadata.ensures.answer all (c.read_footer.ensures.looked.kept ∙ told)))

pub returns-clause-answer : goal.returns-clause-answer
returns-clause-answer g c = λ all told picks.
    let o = c.in_ok-opened.opened in
    let metadata = c.in_ok-metadata.metadata in
    both (object all c.args.name.now) (λ bytes. IsOpened bytes o) (λ bytes. (o.footer.columns_at + (o.size - 40 - o.footer.columns_at) ≤ length bytes) × (metadata ≡ part bytes o.footer.columns_at (o.size - 40 - o.footer.columns_at)))
    (λ bytes. IsTablesOf bytes (record { footer = o.footer; metadata = metadata }))
    (c.in_ok-opened.ensures.answer all told picks) (c.in_ok-metadata.ensures.answer all (c.read_footer.ensures.looked.kept ∙ told))
    (λ bytes opened found. tables_ok bytes metadata o opened found.1)

pub returns-clause-tables : goal.returns-clause-tables
returns-clause-tables g c =
    let t = c.in_ok-opened.ensures.tables in
    tables_are c.in_ok-metadata.metadata c.in_ok-opened.opened t.0 t.1 c.in_ok-metadata.ensures.length

pub returns-in_err-opened-clause-looked : goal.returns-in_err-opened-clause-looked
returns-in_err-opened-clause-looked g c =
    let p = err_from_is_err_and c.from_residual.result c.from_residual.ensures.1 in
    rw (p.1, p.2) (c.looks_add_up.ensures.within _ _ _ _ _ (record { ranges = omega arith; bytes = omega arith }) c.in_err-opened.ensures.looked)

pub returns-in_err-metadata-clause-looked : goal.returns-in_err-metadata-clause-looked
returns-in_err-metadata-clause-looked g c =
    let p = err_from_is_err_and c.from_residual-in_err-metadata.result c.from_residual-in_err-metadata.ensures.1 in
    rw (p.1, p.2) (c.looks_add_up.ensures.within _ _ _ _ _ (record { ranges = omega arith; bytes = omega (arith, c.in_ok-opened.ensures.tables.0) }) (c.looks_add_up.ensures.then _ _ _ _ _ _ c.in_ok-opened.ensures.looked c.in_err-metadata.ensures.looked))

pub returns-clause-looked : goal.returns-clause-looked
returns-clause-looked g c =
    c.looks_add_up.ensures.within _ _ _ _ _ (record { ranges = omega arith; bytes = omega (arith, c.in_ok-opened.ensures.tables.0) }) (c.looks_add_up.ensures.then _ _ _ _ _ _ c.in_ok-opened.ensures.looked c.in_ok-metadata.ensures.looked)

pub returns-in_err-opened-clause-asks : goal.returns-in_err-opened-clause-asks
returns-in_err-opened-clause-asks g c = λ all told bytes is.
    (c.looks_add_up.ensures.within _ _ _ _ _ (record { ranges = omega arith; bytes = omega arith }) c.in_err-opened.ensures.looked).asks

pub returns-in_err-metadata-clause-asks : goal.returns-in_err-metadata-clause-asks
returns-in_err-metadata-clause-asks g c = λ all told bytes is.
    let o = c.in_ok-opened.opened in
    let opened = held_is (object all c.args.name.now) (λ b. IsOpened b o) bytes (c.in_ok-opened.ensures.answer all told []) is in
    (c.looks_add_up.ensures.within _ _ _ _ _ (tables_within bytes o opened) (c.looks_add_up.ensures.then _ _ _ _ _ _ c.in_ok-opened.ensures.looked c.in_err-metadata.ensures.looked)).asks

pub returns-clause-asks : goal.returns-clause-asks
returns-clause-asks g c = λ all told bytes is.
    let o = c.in_ok-opened.opened in
    let opened = held_is (object all c.args.name.now) (λ b. IsOpened b o) bytes (c.in_ok-opened.ensures.answer all told []) is in
    (c.looks_add_up.ensures.within _ _ _ _ _ (tables_within bytes o opened) (c.looks_add_up.ensures.then _ _ _ _ _ _ c.in_ok-opened.ensures.looked c.in_ok-metadata.ensures.looked)).asks
