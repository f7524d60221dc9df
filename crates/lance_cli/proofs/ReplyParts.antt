-- The replies of two lists are those of the parts.
use Rattle.std.proofs.Common.{◌≡◌, inl, inr, refl, sym, ◌∙◌, ap, subst, ℕ, List, [], ◌∷◌, ◌++◌, append_assoc, append-nil, true, false}
use Rattle.std.specs.Prelude.{Bool, MatchBool, cond, Option, Some, None, option_map, option_and_then, Result, Ok, Err, is_ok}
use Rattle.std.proofs.lemmas.Bool.{cases_Bool}
use Rattle.std.proofs.lemmas.Option.{same_Some}
use Rattle.lan_model.specs.Dataset.{Dataset}
use Rattle.lance_cli.specs.Laws.{replied_as}
use Rattle.lance_cli.specs.Replies.{Told, Outcome, refused, done, reply, Mode, batch, said_by, goes_on, left_by, left_after, outcomes, answer_to, text_by, texts, Replied, replied, replies, closing}
use Rattle.lan_store.specs.declared.name.Object.{Object}
use Rattle.lance_cli.specs.Chain.{Link, Chain, outcomes_of}
use Rattle.lance_cli.specs.declared.fault.Fault.{Fault}

-- an outcome, and what comes behind it
pub record First (mode : Mode) (d : Dataset) (told : Told) (more : List Told) (os : List Outcome) : Type 0 where
  pub outcome : Outcome
  pub rest : List Outcome
  pub reply : reply d told ≡ Some outcome
  pub behind : cond (goes_on mode (said_by outcome)) (outcomes mode more (left_by d outcome)) (Some []) ≡ Some rest
  pub whole : os ≡ outcome ∷ rest

some_behind : (o : Outcome) (tail : Option (List Outcome)) (os : List Outcome) → option_map (λ rest. o ∷ rest) tail ≡ Some os → (rest : List Outcome) × (tail ≡ Some rest) × (os ≡ o ∷ rest)
some_behind o None os is = absurd (cc is)
some_behind o (Some rest) os is = (rest, refl, same_Some os (o ∷ rest) (sym is))

pub first_of : (mode : Mode) (d : Dataset) (told : Told) (more : List Told) (os : List Outcome) → outcomes mode (told ∷ more) d ≡ Some os → First mode d told more os
first_of mode d told more os is = go (reply d told) refl is where
  go : (o : Option Outcome) → reply d told ≡ o → option_and_then (λ o. option_map (λ rest. o ∷ rest) (cond (goes_on mode (said_by o)) (outcomes mode more (left_by d o)) (Some []))) o ≡ Some os → First mode d told more os
  go None none given = absurd (cc given)
  go (Some o) at given =
      let (rest, behind, whole) = some_behind o (cond (goes_on mode (said_by o)) (outcomes mode more (left_by d o)) (Some [])) os given in
      record { outcome = o; rest = rest; reply = at; behind = behind; whole = whole }

pub joined : (mode : Mode) (d : Dataset) (told : Told) (more : List Told) (o : Outcome) (rest : List Outcome) → reply d told ≡ Some o → cond (goes_on mode (said_by o)) (outcomes mode more (left_by d o)) (Some []) ≡ Some rest → outcomes mode (told ∷ more) d ≡ Some (o ∷ rest)
joined mode d told more o rest at behind = ap (option_and_then (λ o. option_map (λ rest. o ∷ rest) (cond (goes_on mode (said_by o)) (outcomes mode more (left_by d o)) (Some [])))) at ∙ ap (option_map (λ rest. o ∷ rest)) behind

-- where an outcome goes on, the answer is that to what is behind it
pub answer_behind : (mode : Mode) (o : Outcome) (os : List Outcome) → goes_on mode (said_by o) ≡ true → answer_to mode (o ∷ os) ≡ answer_to mode os
answer_behind mode (refused f) os on = ap (λ b. cond b (answer_to mode os) (Err f)) on
answer_behind mode (done text later) os on = refl

-- where it doesn't, it is a refusal, which is the answer
pub answer_ends : (mode : Mode) (o : Outcome) (os : List Outcome) → goes_on mode (said_by o) ≡ false → (f : Fault) × (o ≡ refused f) × (answer_to mode (o ∷ os) ≡ Err f)
answer_ends mode (refused f) os off = (f, refl, ap (λ b. cond b (answer_to mode os) (Err f)) off)
answer_ends mode (done text later) os off = absurd (cc off)

-- a list that doesn't end is followed by the next
pub outcomes_append : (mode : Mode) (xs ys : List Told) (d : Dataset) (os ps : List Outcome) → outcomes mode xs d ≡ Some os → answer_to mode os ≡ Ok tt → outcomes mode ys (left_after d os) ≡ Some ps → outcomes mode (xs ++ ys) d ≡ Some (os ++ ps)
outcomes_append mode [] ys d os ps is ok next =
    let none : os ≡ [] = same_Some os [] (sym is) in
    rw none (subst (λ l. outcomes mode ys (left_after d l) ≡ Some ps) none next)
outcomes_append mode (told ∷ more) ys d os ps is ok next =
    let f = first_of mode d told more os is in
    let ok_all : answer_to mode (f.outcome ∷ f.rest) ≡ Ok tt = ap (answer_to mode) (sym f.whole) ∙ ok in
    elim (cases_Bool (goes_on mode (said_by f.outcome))) [
      | inl on ↦
          let rest : outcomes mode more (left_by d f.outcome) ≡ Some f.rest = ap (λ b. cond b (outcomes mode more (left_by d f.outcome)) (Some [])) (sym on) ∙ f.behind in
          let ok_rest : answer_to mode f.rest ≡ Ok tt = sym (answer_behind mode f.outcome f.rest on) ∙ ok_all in
          let tail = outcomes_append mode more ys (left_by d f.outcome) f.rest ps rest ok_rest (subst (λ l. outcomes mode ys (left_after d l) ≡ Some ps) f.whole next) in
          joined mode d told (more ++ ys) f.outcome (f.rest ++ ps) f.reply (ap (λ b. cond b (outcomes mode (more ++ ys) (left_by d f.outcome)) (Some [])) on ∙ tail) ∙ ap (λ (l : List Outcome). Some (l ++ ps)) (sym f.whole)
      | inr off ↦
          let (g, is_refused, answer) = answer_ends mode f.outcome f.rest off in
          absurd (cc (sym answer ∙ ok_all))
    ]

-- a list that ends takes no more
pub outcomes_ended : (mode : Mode) (xs ys : List Told) (d : Dataset) (os : List Outcome) (g : Fault) → outcomes mode xs d ≡ Some os → answer_to mode os ≡ Err g → outcomes mode (xs ++ ys) d ≡ Some os
outcomes_ended mode [] ys d os g is ended =
    let none : os ≡ [] = same_Some os [] (sym is) in
    absurd (cc (sym (ap (answer_to mode) none) ∙ ended))
outcomes_ended mode (told ∷ more) ys d os g is ended =
    let f = first_of mode d told more os is in
    let ended_all : answer_to mode (f.outcome ∷ f.rest) ≡ Err g = ap (answer_to mode) (sym f.whole) ∙ ended in
    elim (cases_Bool (goes_on mode (said_by f.outcome))) [
      | inl on ↦
          let rest : outcomes mode more (left_by d f.outcome) ≡ Some f.rest = ap (λ b. cond b (outcomes mode more (left_by d f.outcome)) (Some [])) (sym on) ∙ f.behind in
          let tail = outcomes_ended mode more ys (left_by d f.outcome) f.rest g rest (sym (answer_behind mode f.outcome f.rest on) ∙ ended_all) in
          joined mode d told (more ++ ys) f.outcome f.rest f.reply (ap (λ b. cond b (outcomes mode (more ++ ys) (left_by d f.outcome)) (Some [])) on ∙ tail) ∙ ap (λ (l : List Outcome). Some l) (sym f.whole)
      | inr off ↦
          let alone : [] ≡ f.rest = same_Some [] f.rest (ap (λ b. cond b (outcomes mode more (left_by d f.outcome)) (Some [])) (sym off) ∙ f.behind) in
          joined mode d told (more ++ ys) f.outcome f.rest f.reply (ap (λ b. cond b (outcomes mode (more ++ ys) (left_by d f.outcome)) (Some [])) off ∙ ap (λ (l : List Outcome). Some l) alone) ∙ ap (λ (l : List Outcome). Some l) (sym f.whole)
    ]

pub left_append : (d : Dataset) (os ps : List Outcome) → left_after d (os ++ ps) ≡ left_after (left_after d os) ps
left_append d [] ps = refl
left_append d (o ∷ os) ps = left_append (left_by d o) os ps

pub texts_append : (mode : Mode) (os ps : List Outcome) → texts mode (os ++ ps) ≡ texts mode os ++ texts mode ps
texts_append mode [] ps = refl
texts_append mode (o ∷ os) ps = ap (λ l. text_by mode (said_by o) ++ l) (texts_append mode os ps) ∙ sym (append_assoc (text_by mode (said_by o)) (texts mode os) (texts mode ps))

pub answer_append : (mode : Mode) (os ps : List Outcome) → answer_to mode os ≡ Ok tt → answer_to mode (os ++ ps) ≡ answer_to mode ps
answer_append mode [] ps ok = refl
answer_append mode (done text later ∷ os) ps ok = answer_append mode os ps ok
answer_append mode (refused f ∷ os) ps ok = elim (cases_Bool (goes_on mode (Err f))) [
  | inl on ↦ answer_behind mode (refused f) (os ++ ps) on ∙ answer_append mode os ps (sym (answer_behind mode (refused f) os on) ∙ ok)
  | inr off ↦ let (g, is_refused, answer) = answer_ends mode (refused f) os off in absurd (cc (sym answer ∙ ok))
]

-- ---- the law

same_outcomes : (o : Option (List Outcome)) (mode : Mode) (d : Dataset) (r : Replied) → option_map (replied mode d) o ≡ Some r → (os : List Outcome) × (o ≡ Some os) × (r ≡ replied mode d os)
same_outcomes None mode d r is = absurd (cc is)
same_outcomes (Some os) mode d r is = (os, refl, same_Some r (replied mode d os) (sym is))

-- a batch closes with nothing
pub batch_text : (d : Dataset) (os : List Outcome) → (replied batch d os).text ≡ texts batch os
batch_text d os = elim (is_ok (answer_to batch os)) as (λ b. texts batch os ++ cond b (closing batch (left_after d os)) [] ≡ texts batch os) [ true ↦ append-nil (texts batch os) | false ↦ append-nil (texts batch os) ]

same_replied : (text text' : List ℕ) (later later' : Dataset) (answer answer' : Result Unit Fault) → text ≡ text' → later ≡ later' → answer ≡ answer' → replied_as text later answer ≡ replied_as text' later' answer'
same_replied text text' later later' answer answer' a b c = λ i. replied_as (a i) (b i) (c i)

-- a batch in two parts: the texts one behind the other, and the dataset and the answer of the second
pub replies_append : (xs ys : List Told) (d : Dataset) (first second : Replied) → replies batch xs d ≡ Some first → first.answer ≡ Ok tt → replies batch ys first.later ≡ Some second
    → replies batch (xs ++ ys) d ≡ Some (replied_as (first.text ++ second.text) second.later second.answer)
replies_append xs ys d first second one ok two =
    let (os, os_are, first_is) = same_outcomes (outcomes batch xs d) batch d first one in
    let ok_os : answer_to batch os ≡ Ok tt = ap (λ r. r.answer) (sym first_is) ∙ ok in
    let two_os : replies batch ys (left_after d os) ≡ Some second = subst (λ r. replies batch ys r.later ≡ Some second) first_is two in
    let (ps, ps_are, second_is) = same_outcomes (outcomes batch ys (left_after d os)) batch (left_after d os) second two_os in
    let whole = outcomes_append batch xs ys d os ps os_are ok_os ps_are in
    ap (option_map (replied batch d)) whole ∙ ap (λ (r : Replied). Some r) (same_replied (replied batch d (os ++ ps)).text (first.text ++ second.text) (left_after d (os ++ ps)) second.later (answer_to batch (os ++ ps)) second.answer
    (batch_text d (os ++ ps) ∙ texts_append batch os ps ∙ ap (λ l. l ++ texts batch ps) (sym (ap (λ r. r.text) first_is ∙ batch_text d os)) ∙ ap (λ l. first.text ++ l) (sym (ap (λ r. r.text) second_is ∙ batch_text (left_after d os) ps)))
    (left_append d os ps ∙ ap (λ r. r.later) (sym second_is))
    (answer_append batch os ps ok_os ∙ ap (λ r. r.answer) (sym second_is)))

-- a batch that ends in its first part is that part
pub replies_ended : (xs ys : List Told) (d : Dataset) (first : Replied) (f : Fault) → replies batch xs d ≡ Some first → first.answer ≡ Err f → replies batch (xs ++ ys) d ≡ Some first
replies_ended xs ys d first f one ended =
    let (os, os_are, first_is) = same_outcomes (outcomes batch xs d) batch d first one in
    ap (option_map (replied batch d)) (outcomes_ended batch xs ys d os f os_are (ap (λ r. r.answer) (sym first_is) ∙ ended)) ∙ ap (λ (r : Replied). Some r) (sym first_is)

-- ---- a chain's outcomes are those of the replies

chain_ends : (mode : Mode) (on : Bool) (more : List Told) (d : Dataset) (outcome : Outcome) (links : List Link) (Behind : Type 0) → (Behind → outcomes mode more (left_by d outcome) ≡ Some (outcomes_of links)) → MatchBool on Behind (links ≡ [])
    → cond on (outcomes mode more (left_by d outcome)) (Some []) ≡ Some (outcomes_of links)
chain_ends mode true more d outcome links Behind go behind = go behind
chain_ends mode false more d outcome links Behind go none = ap (λ (l : List Link). Some (outcomes_of l)) (sym none)

pub chain_replies : (mode : Mode) (objects : List Object) (d : Dataset) (told : List Told) (links : List Link) → Chain mode objects d told links → outcomes mode told d ≡ Some (outcomes_of links)
chain_replies mode objects d [] links none = ap (λ (l : List Link). Some (outcomes_of l)) (sym none)
chain_replies mode objects d (told ∷ more) [] chain = absurd chain
chain_replies mode objects d (told ∷ more) (link ∷ links) (same, is, behind) =
    joined mode d told more link.outcome (outcomes_of links) (ap (reply d) (sym same) ∙ is.replied)
    (chain_ends mode (goes_on mode (said_by link.outcome)) more d link.outcome links (Chain mode (objects ++ link.puts) (left_by d link.outcome) more links) (λ chain. chain_replies mode (objects ++ link.puts) (left_by d link.outcome) more links chain) behind)
