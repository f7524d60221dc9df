use Rattle.std.proofs.Common.{◌≡◌, [], sym, subst}
use Rattle.lan_file.specs.Heads.{picks_of}
use Rattle.lan_read.specs.Dealt.{RefusesFile}
use Rattle.lan_read.specs.Rows.{data_name}
use Rattle.lan_read.specs.declared.read_fault.ReadFault.{ReadFault}
use Rattle.lan_read.proofs.FileOpened.{columns_held, file_asked, file_refused, low_each, name_is, some_picks}
use Rattle.lan_read.proofs.opened.open_file.Goals as goal

pub open-requires : goal.open-requires
open-requires g c = low_each c.args.picks c.requires

pub returns-then-head-rows-clause-asks : goal.returns-then-head-rows-clause-asks
returns-then-head-rows-clause-asks g c = λ all told.
    let named : c.in_ok-name.name ≡ data_name c.args.path.now = name_is c.in_ok-name.name c.args.path.now c.as_str.result.now c.in_ok-name.ensures c.as_str.ensures.value in
    let some : picks_of c.args.picks ≡ [] → ⊥ = some_picks c.args.picks (λ none. absurd (cc (c.if-is_empty.ensures.1 none))) in
    file_asked all c.args.path.now c.in_ok-name.name (picks_of c.args.picks) _ _ named some (c.in-Ok.ensures.asks all told) c.in-Ok.ensures.looked.asks

pub returns-in_err-cursors_of-in-Ok-clause-asks : goal.returns-in_err-cursors_of-in-Ok-clause-asks
returns-in_err-cursors_of-in-Ok-clause-asks g c = λ all told.
    let named : c.in_ok-name.name ≡ data_name c.args.path.now = name_is c.in_ok-name.name c.args.path.now c.as_str.result.now c.in_ok-name.ensures c.as_str.ensures.value in
    let some : picks_of c.args.picks ≡ [] → ⊥ = some_picks c.args.picks (λ none. absurd (cc (c.if-is_empty.ensures.1 none))) in
    file_asked all c.args.path.now c.in_ok-name.name (picks_of c.args.picks) _ _ named some (c.in-Ok.ensures.asks all told) c.in-Ok.ensures.looked.asks

pub returns-in_ok-cursors_of-in-Ok-clause-columns : goal.returns-in_ok-cursors_of-in-Ok-clause-columns
returns-in_ok-cursors_of-in-Ok-clause-columns g c = λ all told.
    let named : c.in_ok-name.name ≡ data_name c.args.path.now = name_is c.in_ok-name.name c.args.path.now c.as_str.result.now c.in_ok-name.ensures c.as_str.ensures.value in
    columns_held all c.args.path.now c.in_ok-name.name c.in-Ok.head.rows c.args.rows (picks_of c.args.picks) c.in-Ok.head.columns c.in_ok-cursors_of-in-Ok.field-0 named c.if-head-rows.false c.in_ok-cursors_of-in-Ok.ensures.pages (c.in-Ok.ensures.answer all told)

pub returns-in_ok-cursors_of-in-Ok-clause-asks : goal.returns-in_ok-cursors_of-in-Ok-clause-asks
returns-in_ok-cursors_of-in-Ok-clause-asks g c = λ all told.
    let named : c.in_ok-name.name ≡ data_name c.args.path.now = name_is c.in_ok-name.name c.args.path.now c.as_str.result.now c.in_ok-name.ensures c.as_str.ensures.value in
    let some : picks_of c.args.picks ≡ [] → ⊥ = some_picks c.args.picks (λ none. absurd (cc (c.if-is_empty.ensures.1 none))) in
    file_asked all c.args.path.now c.in_ok-name.name (picks_of c.args.picks) _ _ named some (c.in-Ok.ensures.asks all told) c.in-Ok.ensures.looked.asks

pub returns-in-Err-clause-asks : goal.returns-in-Err-clause-asks
returns-in-Err-clause-asks g c = λ all told.
    let named : c.in_ok-name.name ≡ data_name c.args.path.now = name_is c.in_ok-name.name c.args.path.now c.as_str.result.now c.in_ok-name.ensures c.as_str.ensures.value in
    let some : picks_of c.args.picks ≡ [] → ⊥ = some_picks c.args.picks (λ none. absurd (cc (c.if-is_empty.ensures.1 none))) in
    file_asked all c.args.path.now c.in_ok-name.name (picks_of c.args.picks) _ _ named some (c.in-Err.ensures.asks all told) c.in-Err.ensures.looked.asks

pub returns-in-Err-clause-reason : goal.returns-in-Err-clause-reason
returns-in-Err-clause-reason g c = λ all told.
    let named : c.in_ok-name.name ≡ data_name c.args.path.now = name_is c.in_ok-name.name c.args.path.now c.as_str.result.now c.in_ok-name.ensures c.as_str.ensures.value in
    let some : picks_of c.args.picks ≡ [] → ⊥ = some_picks c.args.picks (λ none. absurd (cc (c.if-is_empty.ensures.1 none))) in
    let Refuses : ReadFault → Type 0 = λ fault. RefusesFile all c.args.path.now (picks_of c.args.picks) c.args.rows fault in
    subst Refuses (sym c.fault_of.ensures) (file_refused all c.args.path.now c.in_ok-name.name (picks_of c.args.picks) c.args.rows c.in-Err.fault named some (c.in-Err.ensures.answer all told))
