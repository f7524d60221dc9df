use Rattle.std.proofs.Common.{◌≡◌, ◌++◌, ◌∷◌, [], refl, append_assoc, List, Bor, ℕ, false, sym, ap, ◌∙◌, rules, lit<}
use Rattle.std.proofs.lemmas.Iterator.Splits.{YieldsList-from_str_split}
use Rattle.std.specs.Ordering.{nat_cmp}
use Rattle.std.specs.Cmp.Lexicographic.{slice_cmp}
use Rattle.std.specs.BTreeSet as tree
use Rattle.lan_schema.proofs.Steps.{empty_is, was_there, was_not}
use Rattle.lance_cli.specs.Options.{between_commas, are_names, is_among}
use Rattle.lance_cli.proofs.OptionWords.{empty_fails, twice_fails, named_more, names_fail, names_all, seen_more, none_ahead, one_ahead}
use Rattle.lance_cli.proofs.options.names_of.Goals as goal

pub loop-name-init : goal.loop-name-init
loop-name-init c =
    let split = c.split-name-items.ensures in
    let none : (q : Bor (List ℕ)) → tree.contains (λ x y. slice_cmp nat_cmp x.now y.now) c.new-seen.result q ≡ false = λ q. search rules in
    record {
      next = tt;
      finite = tt;
      ahead = between_commas c.args.text.now;
      gives = rw c.into_iter-name-iterator.ensures.into_iter_gives (YieldsList-from_str_split 44 c.args.text.now (lit< tt) split.text split.has_more split.pattern).runs;
      parts = sym (ap (λ l. l ++ between_commas c.args.text.now) c.new-names.ensures);
      distinct = ap are_names c.new-names.ensures;
      seen = λ q. none q ∙ sym (ap (λ l. is_among l q.now) c.new-names.ensures);
    }

pub returns-then-is_empty : goal.returns-then-is_empty
returns-then-is_empty c =
    let names = c.loop-name.names in
    let name = c.in-Some.name.now in
    let ahead = one_ahead c.loop-name.name-iterator c.loop-name.invariant.ahead c.in-Some.name c.next.new.self c.loop-name.invariant.gives c.in-Some.ensures.steps in
    let empty = sym (empty_is name c.is_empty.result c.is_empty.ensures) ∙ c.if-is_empty.true in
    names_fail c.args.text.now names name ahead.0 (c.loop-name.invariant.parts ∙ ap (λ l. names ++ l) ahead.1) (empty_fails names name ahead.0 empty)

pub returns-then-not-added : goal.returns-then-not-added
returns-then-not-added c =
    let names = c.loop-name.names in
    let name = c.in-Some.name.now in
    let ahead = one_ahead c.loop-name.name-iterator c.loop-name.invariant.ahead c.in-Some.name c.next.new.self c.loop-name.invariant.gives c.in-Some.ensures.steps in
    let there = was_there c.in_ok-added.added _ c.in_ok-added.ensures.added c.if-not-added.true in
    names_fail c.args.text.now names name ahead.0 (c.loop-name.invariant.parts ∙ ap (λ l. names ++ l) ahead.1) (twice_fails names name ahead.0 (sym (c.loop-name.invariant.seen c.in-Some.name) ∙ there))

pub loop-name-preserved : goal.loop-name-preserved
loop-name-preserved c =
    let names = c.loop-name.names in
    let name = c.in-Some.name.now in
    let ahead = one_ahead c.loop-name.name-iterator c.loop-name.invariant.ahead c.in-Some.name c.next.new.self c.loop-name.invariant.gives c.in-Some.ensures.steps in
    let some = sym (empty_is name c.is_empty.result c.is_empty.ensures) ∙ c.if-is_empty.false in
    let fresh = was_not c.in_ok-added.added _ c.in_ok-added.ensures.added c.if-not-added.false in
    let pushed = c.in_ok-push_word.ensures.ok in
    record {
      next = tt;
      finite = tt;
      ahead = ahead.0;
      gives = ahead.2;
      parts = c.loop-name.invariant.parts ∙ ap (λ l. names ++ l) ahead.1 ∙ sym (append_assoc names (name ∷ []) ahead.0) ∙ ap (λ l. l ++ ahead.0) (sym pushed);
      distinct = ap are_names pushed ∙ named_more names name c.loop-name.invariant.distinct some (sym (c.loop-name.invariant.seen c.in-Some.name) ∙ fresh);
      seen = λ q.
          seen_more (tree.contains (λ x y. slice_cmp nat_cmp x.now y.now) c.loop-name.seen) (tree.contains (λ x y. slice_cmp nat_cmp x.now y.now) c.insert.new.self) names name c.in-Some.name refl c.loop-name.invariant.seen c.in_ok-added.ensures.updates.0 q
          ∙ sym (ap (λ l. is_among l q.now) pushed);
    }

pub returns : goal.returns
returns c = names_all c.args.text.now c.loop-name.names c.loop-name.invariant.ahead c.loop-name.invariant.parts (none_ahead c.loop-name.name-iterator c.loop-name.invariant.ahead c.next.new.self c.loop-name.invariant.gives c.in-None.ensures.steps) c.loop-name.invariant.distinct
