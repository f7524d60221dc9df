use Rattle.std.proofs.Common.{◌∙◌, ◌+◌, ℕ, List, subst, sym}
use Rattle.std.specs.Prelude.{All}
use Rattle.lan_model.specs.Plain.{PlainField}
use Rattle.lan_model.specs.PlainTable.{row_of}
use Rattle.lan_model.specs.Table.{FitsRow, IsField}
use Rattle.lan_read.specs.Opened.{CanReadFrom}
use Rattle.lan_read.specs.RowValues.{AreValuesOf, IsShallow, ReadFields, RefusesOneValue}
use Rattle.lan_read.specs.Scanning.{HasNext}
use Rattle.lan_read.specs.Scans.{PlainScan, RefusesScan, fragment_at_hand, manifest_scanned}
use Rattle.lan_read.proofs.RowReaders.{is_one_of}
use Rattle.lan_read.proofs.ScanReads.{all_fields, all_shallow, below_rows, can_next, fewer_left, given_more, is_advanced, known_later, known_now, not_read_due, reads_due, refused_row}
use Rattle.lan_read.proofs.ScanSteps.{has_hand, readable}
use Rattle.lan_read.specs.declared.scan.Scan.TheInside.{Inside}
use Rattle.lan_read.proofs.scan.Scan.read.Goals as goal

-- the scan, by its fields
abbrev seen : Inside → PlainScan
seen s = record { manifest = s.manifest.now; places = s.places; fragment = s.fragment; row = s.row; readers = s.readers; failed = s.failed }

pub row_values-requires-clause-fields : goal.row_values-requires-clause-fields
row_values-requires-clause-fields g c =
    let below = (subst HasNext (sym c.self.view_is) c.requires.next).below in
    let hand = has_hand (fragment_at_hand (seen c.self.inside)) c.self.inside.row below in
    subst (All IsField) (sym c.self.invariant.fields_are) (all_fields hand.0.files hand.0.rows _ (readable (seen c.self.inside) hand.0 c.self.invariant.scan hand.1))

pub row_values-requires-clause-layers : goal.row_values-requires-clause-layers
row_values-requires-clause-layers g c =
    let below = (subst HasNext (sym c.self.view_is) c.requires.next).below in
    let hand = has_hand (fragment_at_hand (seen c.self.inside)) c.self.inside.row below in
    subst (All IsShallow) (sym c.self.invariant.fields_are) (all_shallow hand.0.files hand.0.rows _ (readable (seen c.self.inside) hand.0 c.self.invariant.scan hand.1))

pub row_values-requires-clause-can : goal.row_values-requires-clause-can
row_values-requires-clause-can g c =
    let row = c.self.inside.row in
    let below = (subst HasNext (sym c.self.view_is) c.requires.next).below in
    subst (λ (fields : List (PlainField ℕ)). CanReadFrom fields row (row + 1) c.in-Some.readers) (sym c.self.invariant.fields_are) (can_next (seen c.self.inside) c.in-Some.readers c.self.invariant.scan c.in-Some.is below)

pub row_values-requires-clause-knows : goal.row_values-requires-clause-knows
row_values-requires-clause-knows g c = λ all told.
    let below = (subst HasNext (sym c.self.view_is) c.requires.next).below in
    let hand = has_hand (fragment_at_hand (seen c.self.inside)) c.self.inside.row below in
    (known_now all (seen c.self.inside) c.args.self.now hand.0 c.in-Some.readers c.self.view_is hand.1 c.in-Some.is (c.requires.knows all told)).1

pub invariant_of-self : goal.invariant_of-self
invariant_of-self g c =
    let row = c.self.inside.row in
    let below = (subst HasNext (sym c.self.view_is) c.requires.next).below in
    let Can : ℕ → List (PlainField ℕ) → Type 0 = λ count fields. CanReadFrom fields row count c.in-Some.readers → CanReadFrom fields row count c.row_values.new.readers in
    record {
      scan = is_advanced (seen c.self.inside) c.in-Some.readers c.row_values.new.readers c.self.invariant.scan c.in-Some.is below (subst (Can _) c.self.invariant.fields_are (c.in-Ok.ensures.can _));
      fields_are = c.self.invariant.fields_are;
    }

pub returns-in-Ok-clause-fewer : goal.returns-in-Ok-clause-fewer
returns-in-Ok-clause-fewer g c =
    let below = (subst HasNext (sym c.self.view_is) c.requires.next).below in
    let hand = has_hand (fragment_at_hand (seen c.self.inside)) c.self.inside.row below in
    fewer_left (seen c.self.inside) c.args.self.now hand.0 c.row_values.new.readers c.self.view_is hand.1 (below_rows (seen c.self.inside) hand.0 hand.1 below)

pub returns-in-Ok-clause-knows : goal.returns-in-Ok-clause-knows
returns-in-Ok-clause-knows g c = λ all told.
    let below = (subst HasNext (sym c.self.view_is) c.requires.next).below in
    let hand = has_hand (fragment_at_hand (seen c.self.inside)) c.self.inside.row below in
    let read = c.in-Ok.ensures in
    let known = known_now all (seen c.self.inside) c.args.self.now hand.0 c.in-Some.readers c.self.view_is hand.1 c.in-Some.is (c.requires.knows all (sym read.looked.kept ∙ told)) in
    let Reads : List (PlainField ℕ) → Type 0 = λ fields. ReadFields all hand.0.files hand.0.rows fields c.in-Some.readers → ReadFields all hand.0.files hand.0.rows fields c.row_values.new.readers in
    let reads = subst Reads c.self.invariant.fields_are (read.reads all hand.0.files hand.0.rows) in
    known_later all (seen c.self.inside) hand.0 c.row_values.new.readers hand.1 (reads known.0) (read.knows all told)

pub returns-in-Ok-clause-gives : goal.returns-in-Ok-clause-gives
returns-in-Ok-clause-gives g c = λ all told given has.
    let row = c.self.inside.row in
    let below = (subst HasNext (sym c.self.view_is) c.requires.next).below in
    let hand = has_hand (fragment_at_hand (seen c.self.inside)) row below in
    let inside = below_rows (seen c.self.inside) hand.0 hand.1 below in
    let read = c.in-Ok.ensures in
    let known = known_now all (seen c.self.inside) c.args.self.now hand.0 c.in-Some.readers c.self.view_is hand.1 c.in-Some.is (c.requires.knows all told) in
    let fits = subst (λ (fields : List (PlainField ℕ)). FitsRow fields (row_of c.in-Ok.values)) c.self.invariant.fields_are read.fits in
    let Answers : List (PlainField ℕ) → Type 0 = λ fields. ReadFields all hand.0.files hand.0.rows fields c.in-Some.readers → AreValuesOf all hand.0.files hand.0.rows fields row (row_of c.in-Ok.values) in
    let answers = subst Answers c.self.invariant.fields_are (read.answer all told hand.0.files hand.0.rows inside) in
    given_more all (seen c.self.inside) c.args.self.now hand.0 c.row_values.new.readers (row_of c.in-Ok.values) given c.self.view_is c.self.invariant.scan hand.1 inside fits (answers known.0) has

pub returns-in-Ok-clause-spends : goal.returns-in-Ok-clause-spends
returns-in-Ok-clause-spends g c = λ all told due is.
    let below = (subst HasNext (sym c.self.view_is) c.requires.next).below in
    let read = c.in-Ok.ensures in
    reads_due all (seen c.self.inside) c.args.self.now c.in-Some.readers c.row_values.new.readers due _ _ c.self.view_is c.in-Some.is below is (read.holds all) (read.spends all told _)

pub returns-in-Err-clause-gives : goal.returns-in-Err-clause-gives
returns-in-Err-clause-gives g c = λ all told given has.
    let row = c.self.inside.row in
    let below = (subst HasNext (sym c.self.view_is) c.requires.next).below in
    let hand = has_hand (fragment_at_hand (seen c.self.inside)) row below in
    let inside = below_rows (seen c.self.inside) hand.0 hand.1 below in
    let known = known_now all (seen c.self.inside) c.args.self.now hand.0 c.in-Some.readers c.self.view_is hand.1 c.in-Some.is (c.requires.knows all told) in
    let Answers : List (PlainField ℕ) → Type 0 = λ fields. ReadFields all hand.0.files hand.0.rows fields c.in-Some.readers → RefusesOneValue all hand.0.files hand.0.rows fields row c.in-Err.fault in
    let answers = subst Answers c.self.invariant.fields_are (c.in-Err.ensures.answer all told hand.0.files hand.0.rows inside) in
    let Refuses : PlainScan → Type 0 = λ s. RefusesScan all (manifest_scanned s) s.places c.in-Err.fault in
    subst Refuses c.self.view_is (refused_row all (manifest_scanned (seen c.self.inside)) c.self.inside.places hand.0 row c.in-Err.fault (is_one_of c.self.inside.manifest.now.fragments c.self.inside.fragment hand.0 hand.1) inside (answers known.0))

pub returns-in-Err-clause-spends : goal.returns-in-Err-clause-spends
returns-in-Err-clause-spends g c = λ all told due is.
    let below = (subst HasNext (sym c.self.view_is) c.requires.next).below in
    not_read_due all (seen c.self.inside) c.args.self.now c.in-Some.readers due _ _ c.self.view_is c.in-Some.is below is (c.in-Err.ensures.spends all told _)
