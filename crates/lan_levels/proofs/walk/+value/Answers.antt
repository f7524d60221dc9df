use Rattle.std.proofs.Common.{rules, arith, ◌≡◌, ◌∙◌, ◌+◌, ◌<◌, ◌++◌, ◌∷◌, [], ℕ, inl, inr, List, drop, length, get_or, refl, ap, sym, subst}
use Rattle.std.proofs.lemmas.Result.{err_from_is_err_and}
use Rattle.lan_model.specs.declared.tree.Field.{Field}
use Rattle.lan_model.specs.declared.tree.Val.{Val}
use Rattle.lan_model.specs.Plain.{PlainFields, PlainValue, PlainValues, list, struct, one_field, no_fields, no_values, plain_field, plain_fields, plain_value, plain_values}
use Rattle.lan_levels.specs.declared.bare.Mark.{Mark}
use Rattle.lan_levels.specs.declared.bare.Mark.TheVariants as mark
use Rattle.lan_levels.specs.PlainSlots.{PlainSlot}
use Rattle.lan_levels.specs.EachLeaf.{leaf_count, first_depth}
use Rattle.lan_levels.specs.BadSlots.{slots_at}
use Rattle.lan_levels.specs.Taken.{left_at, MarkIs, IsShallow, AreShallow, TookAs, TookItems, TookEach, EachRefused}
use Rattle.lan_levels.proofs.Shallow.{shallow-outer, all_shallow-outer}
use Rattle.lan_levels.proofs.TakenItems.{items_push, took_list, push}
use Rattle.lan_levels.proofs.TakenMembers.{NotNullMark, took_struct}
use Rattle.lan_levels.proofs.TakenNull.{first_member}
use Rattle.lan_levels.proofs.TakenField.{took_less, list_refused, struct_refused_or, not_null_mark}
use Rattle.lan_levels.proofs.MembersWalk.{MembersWalk, next_member, no_member, members-step, joined-none, plain_values-push}
use Rattle.lan_levels.proofs.walk.+value.Goals as goal

pub items_at-value_at-requires-in-loop-alloc : goal.items_at-value_at-requires-in-loop-alloc
items_at-value_at-requires-in-loop-alloc t c =
    let shallow : IsShallow (plain_field c.args.item.now) 0 = shallow-outer (plain_field c.args.item.now) (c.args.lists + 1) 0 (omega arith) c.requires.shallow in
    search rules

pub items_at-loop-alloc-smaller : goal.items_at-loop-alloc-smaller
items_at-loop-alloc-smaller t c =
    let a = c.args in
    took_less (plain_field a.item.now) 0 a.leaf (left_at a.runs.now c.loop-alloc.places) (left_at a.runs.now c.value_at-in-loop-alloc.new.places) (plain_value c.in_ok-val.val)
    c.requires.field c.in_ok-val.ensures.ok

pub items_at-loop-alloc-preserved : goal.items_at-loop-alloc-preserved
items_at-loop-alloc-preserved t c =
    let a = c.args in
    let l = c.loop-alloc in
    let item = plain_field a.item.now in
    let old = left_at a.runs.now a.places.now in
    let now = left_at a.runs.now l.places in
    let new = left_at a.runs.now c.value_at-in-loop-alloc.new.places in
    let pushed : c.push-in-loop-alloc.new.self ≡ l.vals ++ c.in_ok-val.val ∷ [] = search rules in
    let vals : push (plain_values l.vals) (plain_value c.in_ok-val.val) ≡ plain_values c.push-in-loop-alloc.new.self =
    sym (plain_values-push l.vals c.in_ok-val.val) ∙ ap (λ (x : List Val). plain_values x) (sym pushed) in
    record {
      took = subst (λ (x : PlainValues). TookItems item a.lists a.leaf old new x) vals
          (items_push item a.lists a.leaf old now new (plain_values l.vals) (plain_value c.in_ok-val.val) l.invariant.took (c.goes_on.ensures.0 c.loop-alloc-test.true) c.in_ok-val.ensures.ok);
      past = l.invariant.past;
      places = search rules;
    }

pub list_at-returns-in_err-vals-in-Inside-clause-err : goal.list_at-returns-in_err-vals-in-Inside-clause-err
list_at-returns-in_err-vals-in-Inside-clause-err t c =
    let a = c.args in
    let p = err_from_is_err_and c.from_residual.result c.from_residual.ensures.1 in
    rw (p.1, p.2)
    (λ name. list_refused a.id name a.nullable (plain_field a.item.now) a.lists a.leaf (slots_at a.runs.now) (left_at a.runs.now a.places.now) c.in_err-vals-in-Inside.field-0.0
    c.requires.field c.in-Inside.ensures c.in_err-vals-in-Inside.ensures.err)

pub list_at-returns-in_ok-vals-in-Inside-clause-ok : goal.list_at-returns-in_ok-vals-in-Inside-clause-ok
list_at-returns-in_ok-vals-in-Inside-clause-ok t c =
    let a = c.args in
    let old = left_at a.runs.now a.places.now in
    let new = left_at a.runs.now c.items_at.new.places in
    let e = c.in_ok-vals-in-Inside.ensures in
    subst (λ (v : PlainValue). TookAs a.id a.nullable (list (plain_field a.item.now)) a.lists a.leaf old new v) (sym c.items_value.ensures)
    (λ name. took_list a.id name a.nullable (plain_field a.item.now) a.lists a.leaf old new (plain_values c.in_ok-vals-in-Inside.vals) c.requires.field c.in-Inside.ensures e.ok e.stop)

pub members_at-returns-in_err-val-clause-err : goal.members_at-returns-in_err-val-clause-err
members_at-returns-in_err-val-clause-err t c =
    let a = c.args in
    let l = c.loop-member in
    let member = c.member-item.result in
    let slots = slots_at a.runs.now in
    let now = left_at a.runs.now l.places in
    let error = c.in_err-val.field-0.0 in
    let next : plain_fields (drop l.member-index a.members.now) ≡ one_field (plain_field member) (plain_fields (drop (l.member-index + 1) a.members.now)) =
    next_member a.members.now l.member-index member (omega arith) c.member-item.is in
    let p = err_from_is_err_and c.from_residual.result c.from_residual.ensures.1 in
    rw (p.1, p.2)
    (inr (l.invariant.walk.refused error (subst (λ (fs : PlainFields ℕ). EachRefused fs a.lists l.next slots now error) (sym next) (inl c.in_err-val.ensures.err))))

pub members_at-loop-member-preserved : goal.members_at-loop-member-preserved
members_at-loop-member-preserved t c =
    let a = c.args in
    let l = c.loop-member in
    let member = c.member-item.result in
    let all = plain_fields a.members.now in
    let rest = plain_fields (drop (l.member-index + 1) a.members.now) in
    let slots = slots_at a.runs.now in
    let first = left_at a.runs.now a.places.now in
    let now = left_at a.runs.now l.places in
    let new = left_at a.runs.now c.value_at.new.places in
    let val = c.in_ok-val.val in
    let next : plain_fields (drop l.member-index a.members.now) ≡ one_field (plain_field member) rest =
    next_member a.members.now l.member-index member (omega arith) c.member-item.is in
    let walk : MembersWalk all (one_field (plain_field member) rest) a.lists a.leaf l.next slots first now (plain_values l.vals) =
    subst (λ (fs : PlainFields ℕ). MembersWalk all fs a.lists a.leaf l.next slots first now (plain_values l.vals)) next l.invariant.walk in
    let step = members-step all (plain_field member) rest a.lists a.leaf l.next slots first now new (plain_values l.vals) (plain_value val) walk c.in_ok-val.ensures.ok in
    let pushed : c.push.new.self ≡ l.vals ++ val ∷ [] = search rules in
    let vals : push (plain_values l.vals) (plain_value val) ≡ plain_values c.push.new.self = sym (plain_values-push l.vals val) ∙ ap (λ (x : List Val). plain_values x) (sym pushed) in
    let past : l.next + leaf_count (plain_field member) ≡ c.in_ok-val.past = sym c.in_ok-val.ensures.past in
    record {
      walk = subst (λ (x : PlainValues). MembersWalk all rest a.lists a.leaf c.in_ok-val.past slots first new x) vals
          (subst (λ (x : ℕ). MembersWalk all rest a.lists a.leaf x slots first new (push (plain_values l.vals) (plain_value val))) past step);
      places = search rules;
    }

pub members_at-returns-clause-ok : goal.members_at-returns-clause-ok
members_at-returns-clause-ok t c =
    let a = c.args in
    let l = c.loop-member in
    let all = plain_fields a.members.now in
    let first = left_at a.runs.now a.places.now in
    let now = left_at a.runs.now l.places in
    let none : plain_fields (drop l.member-index a.members.now) ≡ no_fields = no_member a.members.now l.member-index (omega arith) in
    let rest : TookEach (plain_fields (drop l.member-index a.members.now)) a.lists l.next now now no_values =
    subst (λ (fs : PlainFields ℕ). TookEach fs a.lists l.next now now no_values) (sym none) refl in
    subst (λ (x : PlainValues). TookEach all a.lists a.leaf first now x) (joined-none (plain_values l.vals)) (l.invariant.walk.took now no_values rest)

pub struct_at-members_at-requires : goal.struct_at-members_at-requires
struct_at-members_at-requires t c =
    let shallow : AreShallow (plain_fields c.args.members.now) c.args.lists =
    all_shallow-outer (plain_fields c.args.members.now) (c.args.lists + 1) c.args.lists (omega arith) c.requires.shallow in
    search rules

-- the first leaf doesn't say that the struct is null
first_mark : (ms : List Field) (m : Field) (left : List PlainSlot) (found : Mark) → 0 < length ms → m ≡ get_or ms 0 m → MarkIs (first_depth (plain_field m) + 1) left found → (found ≡ mark.Null → ⊥)
    → NotNullMark (plain_fields ms) left
first_mark ms m left found lt e h ne = not_null_mark (plain_fields ms) left found (subst (λ (x : ℕ). MarkIs x left found) (sym (first_member ms m lt e)) h) ne

pub struct_at-returns-in_err-vals-in_default : goal.struct_at-returns-in_err-vals-in_default
struct_at-returns-in_err-vals-in_default t c =
    let a = c.args in
    let p = err_from_is_err_and c.from_residual.result c.from_residual.ensures.1 in
    let left = left_at a.runs.now a.places.now a.leaf in
    let mark = first_mark a.members.now c.index-members-0.result left c.mark_at.result c.requires.some c.index-members-0.is c.mark_at.ensures c.in_default.not-Null in
    record {
      ok = search rules;
      past = search rules;
      err = rw (p.1, p.2)
          (λ name. struct_refused_or a.id name a.nullable (plain_fields a.members.now) a.lists a.leaf (slots_at a.runs.now) (left_at a.runs.now a.places.now) c.in_err-vals-in_default.field-0.0
          (c.requires.named, c.requires.fields) mark c.in_err-vals-in_default.ensures.err);
    }

pub struct_at-returns-in_ok-vals-in_default : goal.struct_at-returns-in_ok-vals-in_default
struct_at-returns-in_ok-vals-in_default t c =
    let a = c.args in
    let old = left_at a.runs.now a.places.now in
    let new = left_at a.runs.now c.members_at.new.places in
    let mark = first_mark a.members.now c.index-members-0.result (old a.leaf) c.mark_at.result c.requires.some c.index-members-0.is c.mark_at.ensures c.in_default.not-Null in
    let e = c.in_ok-vals-in_default.ensures in
    record {
      ok = subst (λ (v : PlainValue). TookAs a.id a.nullable (struct (plain_fields a.members.now)) a.lists a.leaf old new v) (sym c.group_value.ensures)
          (λ name. took_struct a.id name a.nullable (plain_fields a.members.now) a.lists a.leaf old new (plain_values c.in_ok-vals-in_default.vals) (c.requires.named, c.requires.fields) mark e.ok);
      past = e.past;
      err = tt;
    }
