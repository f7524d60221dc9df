use Rattle.std.proofs.Common.{sym, ◌∙◌, ap, subst, List, ℕ, map}
use Rattle.std.specs.Prelude.{All}
use Rattle.std.proofs.lemmas.Result.{err_from_is_err_and}
use Rattle.lan_model.specs.Plain.{plain_field}
use Rattle.lan_file.specs.Heads.{Pick, picks_of}
use Rattle.lan_read.specs.Dealt.{AreColumns, AreFirst, AreThere, IsFirst, readers_of}
use Rattle.lan_read.specs.Opened.{AreNewReaders, CanReadFrom}
use Rattle.lan_read.specs.Rows.{data_name}
use Rattle.lan_read.proofs.Grouping.{groups_long}
use Rattle.lan_read.proofs.OpenedFields.{dealt_can, dealt_new, new_know, numbers_there}
use Rattle.lan_read.proofs.OpeningCosts.{asks_opening, readable_low, readable_narrow, refuses_opening}
use Rattle.lan_read.proofs.opened.open_readers.Goals as goal

pub used_columns-requires : goal.used_columns-requires
used_columns-requires g c = readable_narrow c.args.fragment.now.files c.args.fragment.now.rows (map plain_field c.args.fields.now) c.requires.readable

pub open_files-requires-clause-long : goal.open_files-requires-clause-long
open_files-requires-clause-long g c = sym (groups_long c.args.fragment.now.files _ c.in_ok-picks.field-0.picks c.in_ok-picks.ensures.picks)

pub open_files-requires-clause-layers : goal.open_files-requires-clause-layers
open_files-requires-clause-layers g c = readable_low c.args.fragment.now.files c.args.fragment.now.rows (map plain_field c.args.fields.now) (map picks_of c.in_ok-picks.field-0.picks) c.requires.readable c.in_ok-picks.ensures.picks

pub readers_of-requires : goal.readers_of-requires
readers_of-requires g c =
    let files = c.args.fragment.now.files in
    let opened = c.in_ok-opened.opened in
    subst (All (λ (numbers : List ℕ). AreThere numbers opened)) (sym c.in_ok-picks.ensures.files)
    (numbers_there (λ path pick x. IsFirst (data_name path) c.args.fragment.now.rows pick x) files (map picks_of c.in_ok-picks.field-0.picks) opened (map plain_field c.args.fields.now) c.in_ok-opened.ensures.first)

pub returns-clause-can : goal.returns-clause-can
returns-clause-can g c =
    let files = c.args.fragment.now.files in
    let rows = c.args.fragment.now.rows in
    let fields = map plain_field c.args.fields.now in
    let opened = c.in_ok-opened.opened in
    subst (CanReadFrom fields 0 rows) (sym (c.in_ok-readers_of.ensures ∙ ap (λ (ns : List (List ℕ)). readers_of ns opened) c.in_ok-picks.ensures.files))
    (dealt_can files rows fields opened c.requires.readable (subst (λ (gs : List (List Pick)). AreFirst rows files gs opened) c.in_ok-picks.ensures.picks c.in_ok-opened.ensures.first))

pub returns-clause-new : goal.returns-clause-new
returns-clause-new g c = λ all told.
    let files = c.args.fragment.now.files in
    let rows = c.args.fragment.now.rows in
    let fields = map plain_field c.args.fields.now in
    let opened = c.in_ok-opened.opened in
    subst (AreNewReaders all files rows fields) (sym (c.in_ok-readers_of.ensures ∙ ap (λ (ns : List (List ℕ)). readers_of ns opened) c.in_ok-picks.ensures.files))
    (dealt_new all files rows fields opened c.requires.readable (subst (λ (gs : List (List Pick)). AreFirst rows files gs opened) c.in_ok-picks.ensures.picks c.in_ok-opened.ensures.first)
    (subst (λ (gs : List (List Pick)). AreColumns all rows files gs opened) c.in_ok-picks.ensures.picks (c.in_ok-opened.ensures.columns all told)))

pub returns-clause-know : goal.returns-clause-know
returns-clause-know g c = λ all told. new_know all c.args.fragment.now.files c.args.fragment.now.rows (map plain_field c.args.fields.now) c.in_ok-readers_of.field-0 (returns-clause-new g c all told)

pub returns-clause-asks : goal.returns-clause-asks
returns-clause-asks g c = λ all told. asks_opening all (map plain_field c.args.fields.now) c.args.fragment.now (map picks_of c.in_ok-picks.field-0.picks) _ _ c.in_ok-picks.ensures.picks (c.in_ok-opened.ensures.asks all told)

pub returns-in_err-opened-clause-asks : goal.returns-in_err-opened-clause-asks
returns-in_err-opened-clause-asks g c = λ all told. asks_opening all (map plain_field c.args.fields.now) c.args.fragment.now (map picks_of c.in_ok-picks.field-0.picks) _ _ c.in_ok-picks.ensures.picks (c.in_err-opened.ensures.asks all told)

pub returns-in_err-opened-clause-reason : goal.returns-in_err-opened-clause-reason
returns-in_err-opened-clause-reason g c = λ all told.
    let p = err_from_is_err_and c.from_residual-in_err-opened.result c.from_residual-in_err-opened.ensures.1 in
    rw (p.1, p.2) (refuses_opening all (map plain_field c.args.fields.now) c.args.fragment.now (map picks_of c.in_ok-picks.field-0.picks) c.in_err-opened.field-0.0 c.in_ok-picks.ensures.picks (c.in_err-opened.ensures.reason all told))

pub returns-in_err-readers_of-clause-asks : goal.returns-in_err-readers_of-clause-asks
returns-in_err-readers_of-clause-asks g c = λ all told. asks_opening all (map plain_field c.args.fields.now) c.args.fragment.now (map picks_of c.in_ok-picks.field-0.picks) _ _ c.in_ok-picks.ensures.picks (c.in_ok-opened.ensures.asks all told)
