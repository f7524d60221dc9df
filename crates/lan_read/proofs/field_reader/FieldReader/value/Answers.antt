use Rattle.std.proofs.Common.{◌≡◌, ◌∙◌, ◌≤◌, ◌∷◌, ℕ, List, arith, subst, sym}
use Rattle.std.specs.Prelude.{OnOk, Option, Result, Some, None, Ok}
use Rattle.std.proofs.lemmas.Result.{on_ok_weaker}
use Rattle.lan_model.specs.Plain.{plain_field}
use Rattle.lan_model.specs.declared.tree.Val.{Val}
use Rattle.lan_model.specs.declared.tree.Val.TheVariants.{Null}
use Rattle.lan_levels.proofs.FieldViews.{plain_value-Null}
use Rattle.lan_page.specs.ColumnCursors.{PlainCursor}
use Rattle.lan_store.specs.Budget.{Spends, nothing, unless_refused}
use Rattle.lan_store.specs.Telling.{Telling}
use Rattle.lan_store.specs.declared.name.Object.{Object}
use Rattle.lan_read.specs.FieldReaders.{AnswersValue, CanRead, IsValueOf, ReaderHolds, ReaderKnows, ReadsField, values_due}
use Rattle.lan_read.specs.declared.read_fault.ReadFault.{ReadFault}
use Rattle.lan_read.proofs.ReadValues.{absent_read, can_later, holds_later, on_ok, on_ok_both}
use Rattle.lan_read.proofs.ValuesDue.{spends_not}
use Rattle.lan_read.proofs.field_reader.FieldReader.value.Goals as goal
use Rattle.lan_read.proofs.field_reader.FieldReader.value.Goals.{in-None, in-Some}

pub joined-requires-clause-knows : goal.joined-requires-clause-knows
joined-requires-clause-knows g c = λ all told.
    let is : c.args.self.now ≡ Some c.in-Some.cursors = cc in
    subst (ReaderKnows all) is (c.requires.knows all told)

pub returns-clause-can : goal.returns-clause-can
returns-clause-can g c =
    let f = plain_field c.args.field.now in
    let new : Option (List PlainCursor) = c.match-self.self-inside.cursors in
    elim c.match-self.branch [
      | in-None w ↦
          let is : c.args.self.now ≡ None = cc in
          let now : new ≡ None = cc in
          on_ok c.match-self.result (λ later le can. subst (CanRead f later) (is ∙ sym now) can)
      | in-Some w ↦
          let is : c.args.self.now ≡ Some w.in-Some.cursors = cc in
          let now : new ≡ Some w.joined.new.cursors = cc in
          let result : c.match-self.result ≡ w.joined.result = cc in
          let Later : Type 0 = (later : ℕ) → c.args.row ≤ later → CanRead f later c.args.self.now → CanRead f later new in
          subst (λ (r : Result Val ReadFault). OnOk r Later) (sym result) (on_ok_both w.joined.result w.joined.ensures.same w.joined.ensures.at (λ same at later le can.
          subst (CanRead f later) (sym now) (can_later f c.args.row later w.in-Some.cursors w.joined.new.cursors same le at (subst (CanRead f later) is can))))
    ]

pub returns-clause-holds : goal.returns-clause-holds
returns-clause-holds g c =
    let new : Option (List PlainCursor) = c.match-self.self-inside.cursors in
    let Holds : Type 0 = (objects : List Object) → ReaderHolds objects c.args.self.now → ReaderHolds objects new in
    elim c.match-self.branch [
      | in-None w ↦
          let now : new ≡ None = cc in
          on_ok c.match-self.result (λ objects holds. subst (ReaderHolds objects) (sym now) tt)
      | in-Some w ↦
          let is : c.args.self.now ≡ Some w.in-Some.cursors = cc in
          let now : new ≡ Some w.joined.new.cursors = cc in
          let result : c.match-self.result ≡ w.joined.result = cc in
          subst (λ (r : Result Val ReadFault). OnOk r Holds) (sym result) (on_ok_weaker w.joined.result (λ same objects holds.
          subst (ReaderHolds objects) (sym now) (holds_later objects w.in-Some.cursors w.joined.new.cursors same (subst (ReaderHolds objects) is holds))) w.joined.ensures.same)
    ]

pub returns-clause-answer : goal.returns-clause-answer
returns-clause-answer g c = λ all told files count below reads.
    let f = plain_field c.args.field.now in
    elim c.match-self.branch [
      | in-None w ↦
          let is : c.args.self.now ≡ None = cc in
          let result : c.match-self.result ≡ Ok Null = cc in
          subst (AnswersValue all files count f c.args.row) (sym result)
          (subst (IsValueOf all files count f c.args.row) (sym plain_value-Null) (absent_read all files count c.args.row f below (subst (ReadsField all files count f) is reads)))
      | in-Some w ↦
          let is : c.args.self.now ≡ Some w.in-Some.cursors = cc in
          let result : c.match-self.result ≡ w.joined.result = cc in
          subst (AnswersValue all files count f c.args.row) (sym result) (w.joined.ensures.answer all told files count below (subst (ReadsField all files count f) is reads))
    ]

pub returns-clause-spends : goal.returns-clause-spends
returns-clause-spends g c = λ all told later holds.
    let new : Option (List PlainCursor) = c.match-self.self-inside.cursors in
    let Left : Option (List PlainCursor) → Option (List PlainCursor) → Result Val ReadFault → Telling → Type 0 = λ old new result now.
    Spends (values_due all old (c.args.row ∷ later)) (unless_refused result (values_due all new later)) (g.S.Store.tells c.args.store.now) now
    in
    elim c.match-self.branch [
      | in-None w ↦
          let is : c.args.self.now ≡ None = cc in
          let now : new ≡ None = cc in
          let result : c.match-self.result ≡ Ok Null = cc in
          let store : g.S.Store.tells c.match-self.store ≡ g.S.Store.tells c.args.store.now = cc in
          rw (is, now, result, store) (spends_not nothing nothing (g.S.Store.tells c.args.store.now) (record { ranges = omega arith; bytes = omega arith }))
      | in-Some w ↦
          let is : c.args.self.now ≡ Some w.in-Some.cursors = cc in
          let now : new ≡ Some w.joined.new.cursors = cc in
          let result : c.match-self.result ≡ w.joined.result = cc in
          let store : g.S.Store.tells c.match-self.store ≡ g.S.Store.tells w.joined.new.store = cc in
          let spends = w.joined.ensures.spends all told later (subst (ReaderHolds all) is holds) in
          let a : Left (Some w.in-Some.cursors) (Some w.joined.new.cursors) w.joined.result (g.S.Store.tells w.joined.new.store) = spends in
          let b = subst (λ o. Left o (Some w.joined.new.cursors) w.joined.result (g.S.Store.tells w.joined.new.store)) (sym is) a in
          let d = subst (λ o. Left c.args.self.now o w.joined.result (g.S.Store.tells w.joined.new.store)) (sym now) b in
          let e = subst (λ r. Left c.args.self.now new r (g.S.Store.tells w.joined.new.store)) (sym result) d in
          subst (Left c.args.self.now new c.match-self.result) (sym store) e
    ]
