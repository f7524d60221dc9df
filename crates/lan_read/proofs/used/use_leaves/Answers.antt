use Rattle.std.proofs.Common.{◌≡◌, sym, ◌∙◌, ap, ◌++◌, [], ◌∷◌, List, append_assoc, rules, w32}
use Rattle.std.specs.Prelude.{Some, None}
use Rattle.std.specs.BTreeMap.{get}
use Rattle.std.specs.Ordering.{int_cmp}
use Rattle.std.specs.Vec.Iter.{into_iter_items}
use Rattle.lan_model.specs.declared.tree.Leaf.{Leaf}
use Rattle.std.proofs.lemmas.Int.{to_z-of_z}
use Rattle.std.proofs.lemmas.List.{length-set}
use Rattle.lan_schema.specs.FieldTree.{signed}
use Rattle.lan_read.specs.Grouped.{grouped, numbers_of}
use Rattle.lan_read.specs.Opened.{Use}
use Rattle.lan_read.proofs.Grouping.{none_step, numbers_step, picks_step, some_step}
use Rattle.lan_read.proofs.used.use_leaves.Goals as goal

pub loop-leaf-preserved-in_default : goal.loop-leaf-preserved-in_default
loop-leaf-preserved-in_default c =
    let l = c.loop-leaf in
    let none : get int_cmp c.args.places.now (signed c.in-Some.leaf.id) ≡ None = ap (get int_cmp c.args.places.now) (sym (to_z-of_z w32 c.cast_signed.result (search rules) ∙ c.cast_signed.ensures)) ∙ sym c.get.ensures.value ∙ sym c.copied.ensures ∙ c.in_default.is in
    record {
      numbers = λ files are. l.invariant.numbers files are ∙ ap (numbers_of files) (sym (none_step files c.args.places.now l.yielded c.in-Some.leaf are none));
      picks = λ files uses are was. l.invariant.picks files uses are was ∙ ap (λ (us : List Use). grouped files (uses ++ us)) (sym (none_step files c.args.places.now l.yielded c.in-Some.leaf are none));
      long = l.invariant.long;
      all = append_assoc l.yielded (c.in-Some.leaf ∷ []) (into_iter_items c.next.new.self) ∙ ap (λ (rest : List Leaf). l.yielded ++ rest) (sym c.in-Some.ensures.steps.0) ∙ l.invariant.all;
      left = search rules;
    }

pub loop-leaf-preserved : goal.loop-leaf-preserved
loop-leaf-preserved c =
    let l = c.loop-leaf in
    let place = c.in-Some-copied.place in
    let some : get int_cmp c.args.places.now (signed c.in-Some.leaf.id) ≡ Some place = ap (get int_cmp c.args.places.now) (sym (to_z-of_z w32 c.cast_signed.result (search rules) ∙ c.cast_signed.ensures)) ∙ sym c.get.ensures.value ∙ sym c.copied.ensures ∙ c.in-Some-copied.is in
    record {
      numbers = λ files are. numbers_step files l.yielded c.in-Some.leaf place l.numbers c.push.new.self (some_step files c.args.places.now l.yielded c.in-Some.leaf place are some) (l.invariant.numbers files are) c.in_ok-push.ensures.ok;
      picks = λ files uses are was.
          picks_step files uses l.yielded c.in-Some.leaf place l.picks c.at_mut.result.now c.push-in-loop-leaf.new.self (some_step files c.args.places.now l.yielded c.in-Some.leaf place are some)
          (l.invariant.picks files uses are was) c.at_mut.ensures.value c.in_ok-push-2.ensures.ok;
      long = length-set l.picks place.file c.push-in-loop-leaf.new.self ∙ l.invariant.long;
      all = append_assoc l.yielded (c.in-Some.leaf ∷ []) (into_iter_items c.next.new.self) ∙ ap (λ (rest : List Leaf). l.yielded ++ rest) (sym c.in-Some.ensures.steps.0) ∙ l.invariant.all;
      left = search rules;
    }
