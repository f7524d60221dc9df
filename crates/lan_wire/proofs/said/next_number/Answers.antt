use Rattle.std.proofs.Common.{◌≡◌, ◌++◌, ℕ, List, [], ◌∷◌, refl, ap, sym, ◌∙◌}
use Rattle.lan_wire.specs.declared.item.Item.{Item}
use Rattle.lan_bytes.specs.Placed.{Placed}
use Rattle.lan_wire.specs.declared.item.Body.{Body}
use Rattle.lan_wire.specs.declared.item.Body.TheVariants.{Num, Eight, Four, Part}
use Rattle.lan_wire.specs.Values.{items_of, of_number, numbers_of, numbers_in, all_numbers, nums_under}
use Rattle.lan_wire.proofs.NumberLists.{one_number, no_number, no_bytes_no_numbers}
use Rattle.lan_wire.proofs.said.next_number.Goals as goal

pub returns-in-Ok-clause-some : goal.returns-in-Ok-clause-some
returns-in-Ok-clause-some c =
    c.loop-value.invariant.1
    ∙ ap (λ (ns : List ℕ). ns ++ nums_under c.args.number (items_of c.loop-value.fields)) (one_number c.loop-value.packed.now c.in-Ok.value c.in-Ok.rest.now c.in-Ok.ensures.read)

no_numbers_in : (body : Body) → ((n : ℕ) → body ≡ Num n → ⊥) → ((part : Placed) → body ≡ Part part → ⊥) → numbers_in body ≡ []
no_numbers_in (Num n) num part = absurd (num n refl)
no_numbers_in (Eight n) num part = refl
no_numbers_in (Four n) num part = refl
no_numbers_in (Part p) num part = absurd (part p refl)

-- behind packed numbers that are all read come those of the next item
further : (packed start : List ℕ) (item : Item) (old new : List Item) → numbers_of packed ≡ [] → start ≡ numbers_of packed ++ all_numbers old → old ≡ item ∷ new → start ≡ numbers_in item.body ++ all_numbers new
further packed start item old new none is first =
    is ∙ ap (λ (ns : List ℕ). ns ++ all_numbers old) none ∙ ap all_numbers first

pub returns-in_default-next_under-clause-none : goal.returns-in_default-next_under-clause-none
returns-in_default-next_under-clause-none c =
    c.loop-value.invariant.1
    ∙ ap (λ (ns : List ℕ). ns ++ nums_under c.args.number (items_of c.loop-value.fields)) (no_number c.loop-value.packed.now c.in_default.field-0 c.in_default.ensures.read)
    ∙ ap all_numbers c.in_default-next_under.ensures.none

pub loop-value-preserved : goal.loop-value-preserved
loop-value-preserved c =
    let here = further c.loop-value.packed.now (numbers_of c.args.packed.now ++ nums_under c.args.number (items_of c.args.fields.now)) c.in-Some.item (of_number c.args.number (items_of c.loop-value.fields)) (of_number c.args.number (items_of c.next_under.new.fields))
    (no_number c.loop-value.packed.now c.in_default.field-0 c.in_default.ensures.read) c.loop-value.invariant.1 c.in-Some.ensures.some in
    (c.next_under.ensures.items, here ∙ ap (λ (ns : List ℕ). ns ++ nums_under c.args.number (items_of c.next_under.new.fields)) (no_numbers_in c.in-Some.item.body c.in_default-body.not-Num c.in_default-body.not-Part ∙ sym no_bytes_no_numbers))

pub returns-in-Num-clause-some : goal.returns-in-Num-clause-some
returns-in-Num-clause-some c =
    let here = further c.loop-value.packed.now (numbers_of c.args.packed.now ++ nums_under c.args.number (items_of c.args.fields.now)) c.in-Some.item (of_number c.args.number (items_of c.loop-value.fields)) (of_number c.args.number (items_of c.next_under.new.fields))
    (no_number c.loop-value.packed.now c.in_default.field-0 c.in_default.ensures.read) c.loop-value.invariant.1 c.in-Some.ensures.some in
    here ∙ ap (λ (body : Body). numbers_in body ++ nums_under c.args.number (items_of c.next_under.new.fields)) c.in-Num.is
    ∙ ap (λ (ns : List ℕ). c.in-Num.value ∷ (ns ++ nums_under c.args.number (items_of c.next_under.new.fields))) (sym no_bytes_no_numbers)

pub loop-value-preserved-in-Part : goal.loop-value-preserved-in-Part
loop-value-preserved-in-Part c =
    let here = further c.loop-value.packed.now (numbers_of c.args.packed.now ++ nums_under c.args.number (items_of c.args.fields.now)) c.in-Some.item (of_number c.args.number (items_of c.loop-value.fields)) (of_number c.args.number (items_of c.next_under.new.fields))
    (no_number c.loop-value.packed.now c.in_default.field-0 c.in_default.ensures.read) c.loop-value.invariant.1 c.in-Some.ensures.some in
    let bytes : c.in-Part.part.bytes ≡ c.bytes-packed.result.now = cc in (
      c.next_under.ensures.items,
      here ∙ ap (λ (body : Body). numbers_in body ++ nums_under c.args.number (items_of c.next_under.new.fields)) c.in-Part.is
          ∙ ap (λ (bytes : List ℕ). numbers_of bytes ++ nums_under c.args.number (items_of c.next_under.new.fields)) bytes,
    )
