use Rattle.std.proofs.Common.{◌≡◌, ◌+◌, ◌-◌, ◌<◌, ℕ, List, [], length, ap, sym, subst, ◌∙◌, arith, rules}
use Rattle.std.specs.Prelude.{ℤ, negsuc, Some, IsSome}
use Rattle.std.specs.Int.{cast_signed, cast_unsigned}
use Rattle.std.proofs.Common.{w32}
use Rattle.std.proofs.lemmas.Int.{to_z-of_z}
use Rattle.lan_model.specs.Plain.{PlainFields, one_field, plain_field, plain_fields}
use Rattle.lan_schema.specs.Building.{siblings}
use Rattle.lan_schema.specs.FieldMessage.{Flat}
use Rattle.lan_schema.specs.FieldsOf.{type_of, with_others}
use Rattle.lan_schema.specs.Forest.{label_of}
use Rattle.lan_schema.specs.Listed.{has_bad_id}
use Rattle.lan_schema.proofs.Gathering.{Gathers, gathers_none, gathers_more, unlisted_at, typed_at, top_apart}
use Rattle.lan_schema.proofs.Walking.{after, after_none, after_more, lacks_at}
use Rattle.lan_schema.proofs.building.build.Goals as goal

pub loop-i-init : goal.loop-i-init
loop-i-init c = record { within = omega arith; gathers = gathers_none c.args.nodes.now (siblings c.new-built.result) (λ q. search rules) }

pub field_of-requires-clause-typed : goal.field_of-requires-clause-typed
field_of-requires-clause-typed c =
    let i = c.loop-i.i - 1 in
    let es = c.args.nodes.now in
    let e : Flat = c.index-nodes-i.result in
    let now = siblings c.loop-i.built in
    let back : i + 1 ≡ c.loop-i.i = omega arith in
    let lt : i < length es = omega arith in
    let gathers : Gathers (after (i + 1) es) now = subst (λ (n : ℕ). Gathers (after n es) now) (sym back) c.loop-i.invariant.gathers in
    let members : plain_fields c.taken-members.result ≡ now e.id = c.taken-members.ensures.value ∙ ap now (to_z-of_z w32 c.id-id.result (search rules) ∙ c.id-id.ensures) in
    subst (λ (ms : PlainFields ℕ). IsSome (type_of e.logical ms)) (sym members) (typed_at i es e now lt c.index-nodes-i.is c.requires.linked c.requires.typed gathers)

pub field_of-requires-clause-natural : goal.field_of-requires-clause-natural
field_of-requires-clause-natural c = lacks_at has_bad_id (c.loop-i.i - 1) c.args.nodes.now c.index-nodes-i.result (omega arith) c.index-nodes-i.is c.requires.linked.ids

pub loop-i-preserved : goal.loop-i-preserved
loop-i-preserved c =
    let i = c.loop-i.i - 1 in
    let es = c.args.nodes.now in
    let e : Flat = c.index-nodes-i.result in
    let old = siblings c.loop-i.built in
    let left = siblings c.taken-members.new.built in
    let new = siblings c.put.new.built in
    let f = plain_field c.in_ok-field.field in
    let back : i + 1 ≡ c.loop-i.i = omega arith in
    let lt : i < length es = omega arith in
    let gathers : Gathers (after (i + 1) es) old = subst (λ (n : ℕ). Gathers (after n es) old) (sym back) c.loop-i.invariant.gathers in
    let id : cast_signed w32 (cast_unsigned w32 c.id-id.result) ≡ e.id = to_z-of_z w32 c.id-id.result (search rules) ∙ c.id-id.ensures in
    let parent : cast_signed w32 (cast_unsigned w32 c.parent-parent.result) ≡ e.parent = to_z-of_z w32 c.parent-parent.result (search rules) ∙ c.parent-parent.ensures in
    let members : plain_fields c.taken-members.result ≡ old e.id = c.taken-members.ensures.value ∙ ap old id in
    let put : new e.parent ≡ one_field f (left e.parent) = subst (λ (p : ℤ). new p ≡ one_field f (left p)) parent c.in_ok-put.ensures.here in
    record {
      within = omega arith;
      gathers = subst (λ (t : List Flat). Gathers t new) (sym (after_more i es e lt c.index-nodes-i.is)) (gathers_more (after (i + 1) es) e old left new f gathers
          (unlisted_at i es e lt c.index-nodes-i.is c.requires.linked.once)
          (λ q apart. c.taken-members.ensures.others q (λ p. apart (p ∙ id)))
          (λ others. subst (λ (ms : PlainFields ℕ). with_others (label_of e) ms (Some others) ≡ Some (one_field f others)) members (c.in_ok-field.ensures others))
          put
          (λ q apart. c.in_ok-put.ensures.others q (λ p. apart (p ∙ parent))));
    }

pub returns : goal.returns
returns c =
    let es = c.args.nodes.now in
    let now = siblings c.loop-i.built in
    let none : c.loop-i.i ≡ 0 = omega arith in
    let all : Gathers es now = subst (λ (t : List Flat). Gathers t now) (ap (λ (n : ℕ). after n es) none ∙ after_none es) c.loop-i.invariant.gathers in
    all.stands (negsuc 0) (top_apart [] es c.requires.linked.ids) ∙ ap (λ (ms : PlainFields ℕ). Some ms) (sym c.taken.ensures.value)
