use Rattle.std.proofs.Common.{◌≡◌, ◌∙◌, ◌+◌, ◌≤◌, [], length}
use Rattle.std.specs.Prelude.{None}
use Rattle.std.proofs.lemmas.Result.{err_from_is_err_and}
use Rattle.lan_store.specs.Budget.{ranges}
use Rattle.lan_store.specs.Objects.{object}
use Rattle.lan_file.specs.Heads.{picks_of, IsHeadOf, tables_budget}
use Rattle.lan_file.specs.Parts.{part}
use Rattle.lan_file.specs.Tables.{IsTablesOf}
use Rattle.lan_file.proofs.Held.{one, both}
use Rattle.lan_file.proofs.HeadHeld.{both_head_break, piece_breaks, looked_asks}
use Rattle.lan_file.proofs.Picked.{descriptor_placed}
use Rattle.lan_file.proofs.TablesRead.{held_is, survey_err, descriptor_within, head_within}
use Rattle.lan_file.proofs.head.FileHead.open.Goals as goal

pub returns-in_err-tables-clause-answer : goal.returns-in_err-tables-clause-answer
returns-in_err-tables-clause-answer g c = λ all told.
    let p = err_from_is_err_and c.from_residual.result c.from_residual.ensures.1 in rw (p.1, p.2) (c.in_err-tables.ensures.answer all told (picks_of c.args.picks.now))

pub returns-in_err-descriptor-clause-answer : goal.returns-in_err-descriptor-clause-answer
returns-in_err-descriptor-clause-answer g c = λ all told.
    let p = err_from_is_err_and c.from_residual-in_err-descriptor.result c.from_residual-in_err-descriptor.ensures.1 in
    let t = c.in_ok-tables.tables in
    let picks = c.as_slice.result.now in
    let e = c.in_err-descriptor.field-0.0 in
    let is = c.in_ok-tables.ensures.answer all told (picks_of picks) in
    rw (p.1, p.2, ← c.as_slice.ensures) (both_head_break (picks_of picks) (object all c.args.name.now) e (λ bytes. IsTablesOf bytes t) (λ bytes. IsTablesOf bytes t) is is (λ bytes a b. survey_err bytes t picks e a c.in_err-descriptor.ensures))

pub returns-in_err-message-clause-answer : goal.returns-in_err-message-clause-answer
returns-in_err-message-clause-answer g c = λ all told.
    let p = err_from_is_err_and c.from_residual-in_err-message.result c.from_residual-in_err-message.ensures.1 in
    let t = c.in_ok-tables.tables in
    let d = c.in_ok-descriptor.descriptor in
    let held = object all c.args.name.now in
    let is = c.in_ok-tables.ensures.answer all told (picks_of c.args.picks.now) in
    let within = one held (λ bytes. IsTablesOf bytes t) (λ bytes. d.at + d.size ≤ length bytes) is (λ bytes i. descriptor_within bytes t c.as_slice.result.now d i c.in_ok-descriptor.ensures.0 c.in_ok-descriptor.ensures.1) in
    rw (p.1, p.2) (piece_breaks (picks_of c.args.picks.now) held d.at d.size c.in_err-message.field-0.0 within (c.in_err-message.ensures.answer all (c.read_tables.ensures.looked.kept ∙ told)))

pub returns-in_err-head-clause-answer : goal.returns-in_err-head-clause-answer
returns-in_err-head-clause-answer g c = λ all told.
    let p = err_from_is_err_and c.from_residual-in_err-head.result c.from_residual-in_err-head.ensures.1 in
    let t = c.in_ok-tables.tables in
    let d = c.in_ok-descriptor.descriptor in
    let picks = c.as_slice-3.result.now in
    let e = c.in_err-head.field-0.0 in
    rw (p.1, p.2, ← c.as_slice-3.ensures) (both_head_break (picks_of picks) (object all c.args.name.now) e (λ bytes. IsTablesOf bytes t) (λ bytes. (d.at + d.size ≤ length bytes) × (c.in_ok-message.message ≡ part bytes d.at d.size))
    (c.in_ok-tables.ensures.answer all told (picks_of picks)) (c.in_ok-message.ensures.answer all (c.read_tables.ensures.looked.kept ∙ told))
    (λ bytes is found.
    c.in_err-head.ensures.answer bytes is (descriptor_placed bytes t d c.new-view.result c.as_slice-2.result.now is c.in_ok-descriptor.ensures.0.described c.in_ok-descriptor.ensures.1 c.new-view.ensures (c.as_slice-2.ensures ∙ found.1))))

pub returns-clause-answer : goal.returns-clause-answer
returns-clause-answer g c = λ all told.
    let t = c.in_ok-tables.tables in
    let d = c.in_ok-descriptor.descriptor in
    let picks = c.as_slice-3.result.now in
    rw (← c.as_slice-3.ensures) (both (object all c.args.name.now) (λ bytes. IsTablesOf bytes t) (λ bytes. (d.at + d.size ≤ length bytes) × (c.in_ok-message.message ≡ part bytes d.at d.size)) (λ bytes. IsHeadOf (picks_of picks) bytes c.in_ok-head.head)
    (c.in_ok-tables.ensures.answer all told (picks_of picks)) (c.in_ok-message.ensures.answer all (c.read_tables.ensures.looked.kept ∙ told))
    (λ bytes is found.
    c.in_ok-head.ensures.answer bytes is (descriptor_placed bytes t d c.new-view.result c.as_slice-2.result.now is c.in_ok-descriptor.ensures.0.described c.in_ok-descriptor.ensures.1 c.new-view.ensures (c.as_slice-2.ensures ∙ found.1))))

pub returns-in_err-message-clause-asks : goal.returns-in_err-message-clause-asks
returns-in_err-message-clause-asks g c = λ all told bytes held.
    let t = c.in_ok-tables.tables in
    let is = held_is (object all c.args.name.now) (λ b. IsTablesOf b t) bytes (c.in_ok-tables.ensures.answer all told []) held in
    let first = looked_asks None (ranges 2) (tables_budget bytes) _ _ c.in_ok-tables.ensures.looked (c.in_ok-tables.ensures.asks all told bytes held) in
    let within = head_within bytes t c.as_slice.result.now c.in_ok-descriptor.descriptor is c.in_ok-descriptor.ensures.0 c.in_ok-descriptor.ensures.1 in
    (c.looks_add_up.ensures.within _ _ _ _ _ within (c.looks_add_up.ensures.then _ _ _ _ _ _ first c.in_err-message.ensures.looked)).asks

pub returns-in_err-head-clause-asks : goal.returns-in_err-head-clause-asks
returns-in_err-head-clause-asks g c = λ all told bytes held.
    let t = c.in_ok-tables.tables in
    let is = held_is (object all c.args.name.now) (λ b. IsTablesOf b t) bytes (c.in_ok-tables.ensures.answer all told []) held in
    let first = looked_asks None (ranges 2) (tables_budget bytes) _ _ c.in_ok-tables.ensures.looked (c.in_ok-tables.ensures.asks all told bytes held) in
    let within = head_within bytes t c.as_slice.result.now c.in_ok-descriptor.descriptor is c.in_ok-descriptor.ensures.0 c.in_ok-descriptor.ensures.1 in
    (c.looks_add_up.ensures.within _ _ _ _ _ within (c.looks_add_up.ensures.then _ _ _ _ _ _ first c.in_ok-message.ensures.looked)).asks

pub returns-clause-asks : goal.returns-clause-asks
returns-clause-asks g c = λ all told bytes held.
    let t = c.in_ok-tables.tables in
    let is = held_is (object all c.args.name.now) (λ b. IsTablesOf b t) bytes (c.in_ok-tables.ensures.answer all told []) held in
    let first = looked_asks None (ranges 2) (tables_budget bytes) _ _ c.in_ok-tables.ensures.looked (c.in_ok-tables.ensures.asks all told bytes held) in
    let within = head_within bytes t c.as_slice.result.now c.in_ok-descriptor.descriptor is c.in_ok-descriptor.ensures.0 c.in_ok-descriptor.ensures.1 in
    (c.looks_add_up.ensures.within _ _ _ _ _ within (c.looks_add_up.ensures.then _ _ _ _ _ _ first c.in_ok-message.ensures.looked)).asks
