use Rattle.std.proofs.Common.{◌≡◌, ◌∙◌, ℕ, List, subst, sym}
use Rattle.std.specs.Prelude.{All, None}
use Rattle.std.proofs.lemmas.Option.{slice_get_within}
use Rattle.std.proofs.lemmas.Result.{err_from_is_err_and}
use Rattle.lan_model.specs.Plain.{PlainField}
use Rattle.lan_store.specs.Budget.{Asks, nothing}
use Rattle.lan_store.proofs.LawTerms.{looked_not}
use Rattle.lan_read.specs.Opened.{AreNewReaders, IsReadable, RefusesOpening, opening_due}
use Rattle.lan_read.specs.Scanning.{HasNext}
use Rattle.lan_read.specs.Scans.{PlainScan, RefusesScan, manifest_scanned}
use Rattle.lan_read.proofs.OpenedReaders.{new_readers_know}
use Rattle.lan_read.proofs.RowReaders.{is_one_of}
use Rattle.lan_read.proofs.ScanOpens.{known_at, none_of, not_opened_due, opens_due, refused_opening}
use Rattle.lan_read.proofs.ScanSteps.{has_hand, readable}
use Rattle.lan_read.proofs.scan.Scan.open.Goals as goal

pub returns-then-is_some-clause-looked : goal.returns-then-is_some-clause-looked
returns-then-is_some-clause-looked g c = (nothing, looked_not nothing (g.S.Store.tells c.args.store.now))

pub at-fragment-requires : goal.at-fragment-requires
at-fragment-requires g c =
    let below = subst HasNext (sym c.self.view_is) c.requires.next in
    let hand = has_hand _ c.self.inside.row below.below in
    slice_get_within c.self.inside.manifest.now.fragments c.self.inside.fragment hand.0 hand.1

pub open_readers-requires : goal.open_readers-requires
open_readers-requires g c =
    let f = c.at-fragment.result.now in
    record { readable = subst (All (IsReadable f.files f.rows)) (sym c.self.invariant.fields_are) (readable _ f c.self.invariant.scan c.at-fragment.ensures) }

pub returns-in_err-readers-clause-reason : goal.returns-in_err-readers-clause-reason
returns-in_err-readers-clause-reason g c = λ all told.
    let f = c.at-fragment.result.now in
    let p = err_from_is_err_and c.from_residual.result c.from_residual.ensures.1 in
    let fault = c.in_err-readers.field-0.0 in
    let Refuses : PlainScan → Type 0 = λ s. RefusesScan all (manifest_scanned s) s.places fault in
    let refuses = subst (λ (fields : List (PlainField ℕ)). RefusesOpening all fields f fault) c.self.invariant.fields_are (c.in_err-readers.ensures.reason all told) in
    rw (p.1, p.2) (subst Refuses c.self.view_is (refused_opening all _ c.self.inside.places f fault (is_one_of c.self.inside.manifest.now.fragments c.self.inside.fragment f c.at-fragment.ensures) refuses))

pub returns-in_err-readers-clause-spends : goal.returns-in_err-readers-clause-spends
returns-in_err-readers-clause-spends g c = λ all told due is.
    let f = c.at-fragment.result.now in
    let p = err_from_is_err_and c.from_residual.result c.from_residual.ensures.1 in
    let none : c.self.inside.readers ≡ None = none_of c.self.inside.readers (sym c.is_some.ensures ∙ c.if-is_some.false) in
    let asks = subst (λ (fields : List (PlainField ℕ)). Asks (opening_due all fields f) (g.S.Store.tells c.args.store.now) (g.S.Store.tells c.open_readers.new.store)) c.self.invariant.fields_are (c.in_err-readers.ensures.asks all told) in
    rw p.1 (not_opened_due all _ c.args.self.now f due _ _ c.self.view_is c.at-fragment.ensures none asks is)

pub returns-clause-knows : goal.returns-clause-knows
returns-clause-knows g c = λ all told.
    let f = c.at-fragment.result.now in
    let opened = c.in_ok-readers.ensures in
    let before = sym opened.looked.kept ∙ told in
    let new = subst (λ (fields : List (PlainField ℕ)). AreNewReaders all f.files f.rows fields c.in_ok-readers.readers) c.self.invariant.fields_are (opened.new all before) in
    known_at all _ _ f c.in_ok-readers.readers c.at-fragment.ensures (new_readers_know all f.files f.rows _ c.in_ok-readers.readers new (opened.know all before))

pub returns-clause-spends : goal.returns-clause-spends
returns-clause-spends g c = λ all told due is.
    let f = c.at-fragment.result.now in
    let opened = c.in_ok-readers.ensures in
    let none : c.self.inside.readers ≡ None = none_of c.self.inside.readers (sym c.is_some.ensures ∙ c.if-is_some.false) in
    let new = subst (λ (fields : List (PlainField ℕ)). AreNewReaders all f.files f.rows fields c.in_ok-readers.readers) c.self.invariant.fields_are (opened.new all told) in
    let asks = subst (λ (fields : List (PlainField ℕ)). Asks (opening_due all fields f) (g.S.Store.tells c.args.store.now) (g.S.Store.tells c.open_readers.new.store)) c.self.invariant.fields_are (opened.asks all told) in
    opens_due all _ c.args.self.now f c.in_ok-readers.readers due _ _ c.self.view_is c.self.invariant.scan c.at-fragment.ensures none new asks is
