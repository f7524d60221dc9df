use Rattle.std.proofs.Common.{◌≡◌, refl, sym, ◌∙◌, ap, false}
use Rattle.std.specs.Prelude.{◌==◌}
use Rattle.std.specs.List.{list_any}
use Rattle.lan_store.specs.Calls.{next_call}
use Rattle.lan_store.proofs.blind.BlindStoreStore.put_if_absent.Goals as goal

pub returns-in-Ok-Exists-clause-stated : goal.returns-in-Ok-Exists-clause-stated
returns-in-Ok-Exists-clause-stated c = record {
  counted = c.saturating_add-self.ensures;
  exists = refl;
  stated = λ is. let not : list_any (λ put. put == next_call c.args.self.now.puts) c.args.self.now.exists ≡ false = ap (λ n. list_any (λ put. put == n) c.args.self.now.exists) (sym c.saturating_add-self.ensures) ∙ ap (list_any (λ put. put == c.saturating_add-self.result)) (sym c.as_slice.ensures) ∙ sym c.contains.ensures.value ∙ c.if-contains.false in absurd (cc (is, not));
  others = λ _. c.put_if_absent-answer.ensures.answer;
}

pub returns-else-contains-clause-stated : goal.returns-else-contains-clause-stated
returns-else-contains-clause-stated c = record {
  counted = c.saturating_add-self.ensures;
  exists = refl;
  stated = λ is. let not : list_any (λ put. put == next_call c.args.self.now.puts) c.args.self.now.exists ≡ false = ap (λ n. list_any (λ put. put == n) c.args.self.now.exists) (sym c.saturating_add-self.ensures) ∙ ap (list_any (λ put. put == c.saturating_add-self.result)) (sym c.as_slice.ensures) ∙ sym c.contains.ensures.value ∙ c.if-contains.false in absurd (cc (is, not));
  others = λ _. c.put_if_absent-answer.ensures.answer;
}

pub returns-else-contains-2-clause-stated : goal.returns-else-contains-2-clause-stated
returns-else-contains-2-clause-stated c = record {
  counted = c.saturating_add-self.ensures;
  exists = refl;
  stated = λ is. let not : list_any (λ put. put == next_call c.args.self.now.puts) c.args.self.now.exists ≡ false = ap (λ n. list_any (λ put. put == n) c.args.self.now.exists) (sym c.saturating_add-self.ensures) ∙ ap (list_any (λ put. put == c.saturating_add-self.result)) (sym c.as_slice.ensures) ∙ sym c.contains.ensures.value ∙ c.if-contains.false in absurd (cc (is, not));
  others = λ _. c.put_if_absent-answer.ensures.answer;
}
