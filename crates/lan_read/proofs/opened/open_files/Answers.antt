use Rattle.std.proofs.Common.{◌≡◌, ◌∙◌, ◌+◌, ◌++◌, [], ◌∷◌, List, ap, arith, length, map, refl, subst, sym}
use Rattle.std.specs.Prelude.{Some, slice_get}
use Rattle.std.specs.Vec.Iter.{into_iter_items}
use Rattle.std.proofs.lemmas.List.{append_assoc, length-append}
use Rattle.std.proofs.lemmas.Result.{err_from_is_err_and}
use Rattle.lan_store.specs.Budget.{Asks}
use Rattle.lan_file.specs.Heads.{picks_of}
use Rattle.lan_file.specs.declared.head.ColumnPick.{ColumnPick}
use Rattle.lan_read.specs.Dealt.{IsColumnOf, IsFirst, files_due}
use Rattle.lan_read.specs.Rows.{data_name}
use Rattle.lan_read.proofs.OpenedFiles.{file_spends, low_first, low_later, opened_step, refuses_files, three_more}
use Rattle.lan_read.proofs.opened.open_files.Goals as goal

pub open_file-requires : goal.open_file-requires
open_file-requires g c = low_first (into_iter_items c.loop-picks.picks-iterator) (into_iter_items c.next.new.self) c.in-Some.picks c.in-Some.ensures.steps.0 c.loop-picks.invariant.layers

pub returns-in_err-open_file-clause-asks : goal.returns-in_err-open_file-clause-asks
returns-in_err-open_file-clause-asks g c = λ all told.
    let l = c.loop-picks in
    let files = c.args.files.now in
    let at : slice_get files (length l.opened) ≡ Some c.at.result.now = ap (slice_get files) (sym c.len.ensures) ∙ c.at.ensures in
    let is : into_iter_items c.into_iter-picks-iterator.result ≡ c.args.picks = c.into_iter-picks-iterator.ensures.into_iter_gives.0 ∙ c.into_vec-picks-items.ensures in
    let Within : List (List ColumnPick) → Type 0 = λ ps. Asks (files_due all files (map picks_of ps)) (g.S.Store.tells c.args.store.now) (g.S.Store.tells c.open_file.new.store) in
    subst Within is (c.allowances_are_taken_off.ensures.whole _ _ _ _ (file_spends all files (length l.opened) (length l.opened + 1) c.at.result.now (into_iter_items l.picks-iterator) (into_iter_items c.next.new.self) c.in-Some.picks _ _ _ _ at c.in-Some.ensures.steps.0 refl
    (l.invariant.spends all told) (c.in_err-open_file.ensures.asks all (l.invariant.looked.kept ∙ told))))

pub returns-in_err-open_file-clause-reason : goal.returns-in_err-open_file-clause-reason
returns-in_err-open_file-clause-reason g c = λ all told.
    let l = c.loop-picks in
    let files = c.args.files.now in
    let at : slice_get files (length l.opened) ≡ Some c.at.result.now = ap (slice_get files) (sym c.len.ensures) ∙ c.at.ensures in
    let is : l.yielded ++ into_iter_items l.picks-iterator ≡ c.args.picks = l.invariant.all ∙ c.into_iter-picks-iterator.ensures.into_iter_gives.0 ∙ c.into_vec-picks-items.ensures in
    let p = err_from_is_err_and c.from_residual.result c.from_residual.ensures.1 in
    rw (p.1, p.2) (refuses_files all files l.yielded (into_iter_items l.picks-iterator) (into_iter_items c.next.new.self) c.args.picks c.at.result.now c.in-Some.picks c.args.rows (length l.opened) c.in_err-open_file.field-0.0 at l.invariant.long
    c.in-Some.ensures.steps.0 is (c.in_err-open_file.ensures.reason all (l.invariant.looked.kept ∙ told)))

pub loop-picks-preserved : goal.loop-picks-preserved
loop-picks-preserved g c =
    let l = c.loop-picks in
    let files = c.args.files.now in
    let rows = c.args.rows in
    let file = c.at.result.now in
    let picks = c.in-Some.picks in
    let items : List (List ColumnPick) = into_iter_items l.picks-iterator in
    let rest : List (List ColumnPick) = into_iter_items c.next.new.self in
    let cursors = c.in_ok-open_file.field-0 in
    let new = c.push.new.self in
    let opens = c.in_ok-open_file.ensures in
    let steps = c.in-Some.ensures.steps in
    let at : slice_get files (length l.opened) ≡ Some file = ap (slice_get files) (sym c.len.ensures) ∙ c.at.ensures in
    let more : new ≡ l.opened ++ cursors ∷ [] = c.in_ok-push.ensures.ok ∙ ap (λ (cs : _). l.opened ++ cs ∷ []) c.of.ensures in
    let long : length new ≡ length l.opened + 1 = ap length more ∙ length-append l.opened (cursors ∷ []) in
    record {
      first = opened_step (λ path pick x. IsFirst (data_name path) rows pick x) files l.yielded l.opened new file picks cursors at more l.invariant.first opens.first;
      columns = λ all told.
          opened_step (λ path pick x. IsColumnOf all (data_name path) rows pick x) files l.yielded l.opened new file picks cursors at more (l.invariant.columns all told) (opens.columns all (l.invariant.looked.kept ∙ told));
      looked = c.looks_add_up.ensures.within _ _ _ _ _ (three_more (length l.opened) (length new) long) (c.looks_add_up.ensures.then _ _ _ _ _ _ l.invariant.looked opens.looked);
      spends = λ all told. file_spends all files (length l.opened) (length new) file items rest picks _ _ _ _ at steps.0 long (l.invariant.spends all told) (opens.asks all (l.invariant.looked.kept ∙ told));
      layers = low_later items rest picks steps.0 l.invariant.layers;
      long = omega (arith, long, l.invariant.long, length-append l.yielded (picks ∷ []));
      same = l.invariant.same;
      all = append_assoc l.yielded (picks ∷ []) rest ∙ ap (λ (ps : List (List ColumnPick)). l.yielded ++ ps) (sym steps.0) ∙ l.invariant.all;
      left = omega (arith, l.invariant.left, steps.1, ap (length {A = List ColumnPick}) steps.0);
    }

pub returns-in_err-push-clause-asks : goal.returns-in_err-push-clause-asks
returns-in_err-push-clause-asks g c = λ all told.
    let l = c.loop-picks in
    let files = c.args.files.now in
    let at : slice_get files (length l.opened) ≡ Some c.at.result.now = ap (slice_get files) (sym c.len.ensures) ∙ c.at.ensures in
    let is : into_iter_items c.into_iter-picks-iterator.result ≡ c.args.picks = c.into_iter-picks-iterator.ensures.into_iter_gives.0 ∙ c.into_vec-picks-items.ensures in
    let Within : List (List ColumnPick) → Type 0 = λ ps. Asks (files_due all files (map picks_of ps)) (g.S.Store.tells c.args.store.now) (g.S.Store.tells c.open_file.new.store) in
    subst Within is (c.allowances_are_taken_off.ensures.whole _ _ _ _ (file_spends all files (length l.opened) (length l.opened + 1) c.at.result.now (into_iter_items l.picks-iterator) (into_iter_items c.next.new.self) c.in-Some.picks _ _ _ _ at c.in-Some.ensures.steps.0 refl
    (l.invariant.spends all told) (c.in_ok-open_file.ensures.asks all (l.invariant.looked.kept ∙ told))))
