-- Members one after another: what is shown of those that are left holds of all.
use Rattle.std.proofs.Common.{◌≡◌, ℕ, ◌+◌, ◌<◌, ◌≤◌, inr, Bool, List, [], ◌∷◌, ◌++◌, length, drop, get_or, refl, ap, sym, subst, ◌∙◌, arith}
use Rattle.std.proofs.lemmas.List.{drop_more, drop_all}
use Rattle.lan_model.specs.declared.tree.Field.{Field}
use Rattle.lan_model.specs.declared.tree.Val.{Val}
use Rattle.lan_model.specs.Plain.{PlainField, PlainFields, no_fields, one_field, PlainValue, PlainValues, no_values, one_value, plain_field, plain_fields, plain_value, plain_values}
use Rattle.lan_model.specs.Table.{AreFields}
use Rattle.lan_levels.specs.declared.join.Join.{Join}
use Rattle.lan_levels.specs.PlainSlots.{PlainSlot}
use Rattle.lan_levels.specs.EachLeaf.{leaf_count, leaf_count_of}
use Rattle.lan_levels.specs.Taken.{TookBare, TookEachBare, SomeIsNotBare, AreShallow, Took, TookEach, EachRefused}
use Rattle.lan_levels.proofs.TakenItems.{push}

pub next_member : (ms : List Field) (i : ℕ) (m : Field) → i < length ms → m ≡ get_or ms i m → plain_fields (drop i ms) ≡ one_field (plain_field m) (plain_fields (drop (i + 1) ms))
next_member ms i m lt e = ap plain_fields (drop_more ms i m lt ∙ ap (λ (x : Field). x ∷ drop (i + 1) ms) (sym e))

pub no_member : (ms : List Field) (i : ℕ) → length ms ≤ i → plain_fields (drop i ms) ≡ no_fields
no_member ms i h = ap plain_fields (drop_all i ms h)

-- null or empty slots of members
pub record BareWalk (all rest : PlainFields ℕ) (empty : Bool) (below lists leaf next : ℕ) (first now : ℕ → List PlainSlot) : Type 0 where
  pub past : next + leaf_count_of rest ≡ leaf + leaf_count_of all
  pub shallow : AreShallow rest below
  pub took : (last : ℕ → List PlainSlot) → TookEachBare rest empty below lists next now last → TookEachBare all empty below lists leaf first last
  pub refused : (id : ℕ) → SomeIsNotBare rest empty below lists next now id → SomeIsNotBare all empty below lists leaf first id

pub bare-start : (all : PlainFields ℕ) (empty : Bool) (below lists leaf : ℕ) (first : ℕ → List PlainSlot) → AreShallow all below → BareWalk all all empty below lists leaf leaf first first
bare-start all empty below lists leaf first h = record { past = refl; shallow = h; took = λ last t. t; refused = λ id r. r }

pub bare-step : (all : PlainFields ℕ) (f : PlainField ℕ) (rest : PlainFields ℕ) (empty : Bool) (below lists leaf next : ℕ) (first now new : ℕ → List PlainSlot)
    → BareWalk all (one_field f rest) empty below lists leaf next first now → TookBare f empty below lists next now new
    → BareWalk all rest empty below lists leaf (next + leaf_count f) first new
bare-step all f rest empty below lists leaf next first now new h t = record {
  past = let e = h.past in omega arith;
  shallow = h.shallow.1;
  took = λ last more. h.took last (new, t, more);
  refused = λ id more. h.refused id (inr (new, t, more));
}

-- the values and those after them
abbrev pub joined : PlainValues → PlainValues → PlainValues
joined no_values us = us
joined (one_value v vs) us = one_value v (joined vs us)

-- values of members
pub record MembersWalk (all rest : PlainFields ℕ) (lists leaf next : ℕ) (slots first now : ℕ → List PlainSlot) (vs : PlainValues) : Type 0 where
  pub past : next + leaf_count_of rest ≡ leaf + leaf_count_of all
  pub fields : AreFields rest
  pub shallow : AreShallow rest lists
  pub took : (last : ℕ → List PlainSlot) (us : PlainValues) → TookEach rest lists next now last us → TookEach all lists leaf first last (joined vs us)
  pub refused : (e : Join) → EachRefused rest lists next slots now e → EachRefused all lists leaf slots first e

pub joined-push : (vs : PlainValues) (v : PlainValue) (us : PlainValues) → joined (push vs v) us ≡ joined vs (one_value v us)
joined-push no_values v us = refl
joined-push (one_value w ws) v us = ap (λ (x : PlainValues). one_value w x) (joined-push ws v us)

pub joined-none : (vs : PlainValues) → joined vs no_values ≡ vs
joined-none no_values = refl
joined-none (one_value w ws) = ap (λ (x : PlainValues). one_value w x) (joined-none ws)

pub plain_values-push : (vals : List Val) (v : Val) → plain_values (vals ++ v ∷ []) ≡ push (plain_values vals) (plain_value v)
plain_values-push [] v = refl
plain_values-push (w ∷ vals) v = ap (λ (x : PlainValues). one_value (plain_value w) x) (plain_values-push vals v)

pub members-start : (all : PlainFields ℕ) (lists leaf : ℕ) (slots first : ℕ → List PlainSlot) → AreFields all → AreShallow all lists
    → MembersWalk all all lists leaf leaf slots first first no_values
members-start all lists leaf slots first k h = record { past = refl; fields = k; shallow = h; took = λ last us t. t; refused = λ e r. r }

pub members-step : (all : PlainFields ℕ) (f : PlainField ℕ) (rest : PlainFields ℕ) (lists leaf next : ℕ) (slots first now new : ℕ → List PlainSlot) (vs : PlainValues) (v : PlainValue)
    → MembersWalk all (one_field f rest) lists leaf next slots first now vs → Took f lists next now new v
    → MembersWalk all rest lists leaf (next + leaf_count f) slots first new (push vs v)
members-step all f rest lists leaf next slots first now new vs v h t = record {
  past = let e = h.past in omega arith;
  fields = h.fields.1;
  shallow = h.shallow.1;
  took = λ last us more. subst (λ (x : PlainValues). TookEach all lists leaf first last x) (sym (joined-push vs v us)) (h.took last (one_value v us) (new, t, more));
  refused = λ e more. h.refused e (inr (new, v, t, more));
}
