-- A message that keeps to its rules is read once, and has no fault.
use Rattle.std.proofs.Common.{◌≡◌, ℕ, Bool, true, false, List, [], ◌∷◌, ◌++◌, Result, Ok, Err, sym, ap, subst, ◌∙◌, append_assoc, inl, inr}
use Rattle.std.specs.Prelude.{IsOk, IsTrue}
use Rattle.std.proofs.lemmas.List.{append-nil}
use Rattle.std.specs.List.{list_all}
use Rattle.lan_bytes.specs.Placed.{Placed}
use Rattle.lan_wire.specs.declared.item.Item.{Item}
use Rattle.lan_wire.specs.declared.item.WireFault.{WireFault}
use Rattle.lan_wire.specs.declared.item.Body.{Body}
use Rattle.lan_wire.specs.declared.item.Body.TheVariants.{Num, Eight, Four, Part}
use Rattle.lan_wire.specs.declared.rules.Kind.{Kind}
use Rattle.lan_wire.specs.declared.rules.Kind.TheVariants.{Number, Small, Signed, Flag, Text, Bytes, Message, OneOf, Numbers, SignedNumbers, Messages, Past, Refused}
use Rattle.lan_wire.specs.Rules.{Rules}
use Rattle.lan_wire.specs.Readers.{HasNumbers, LacksNumbers}
use Rattle.lan_wire.specs.Messages.{is_int32, IsOfKind, HasFault, MayFollow, MayNotFollow, Obey, ReadsItems, FailsToRead}
use Rattle.lan_wire.proofs.FaultsHold.{no_items}
use Rattle.lan_wire.proofs.MessageLaws.{items_unique, given_rest, begins_first}
use Rattle.lan_wire.proofs.NumberLaws.{numbers_unique, no_numbers}

abbrev bad : {A : Type 0} → WireFault → Result A WireFault
bad fault = Err fault

ok_or_not : {A : Type 0} (r : Result A WireFault) (fault : WireFault) → IsOk r → r ≡ bad fault → ⊥
ok_or_not (Ok x) fault h e = absurd cc
ok_or_not (Err d) fault h e = absurd cc

pub numbers_or_not : (item : Item) (fault : WireFault) (body : Body) (ns : List ℕ) → HasNumbers body ns → LacksNumbers item fault.kind body → ⊥
numbers_or_not item fault (Num n) ns h l = l
numbers_or_not item fault (Eight n) ns h l = h
numbers_or_not item fault (Four n) ns h l = h
numbers_or_not item fault (Part part) ns h l = no_numbers part.bytes fault.kind ns l h

one_list : (body : Body) (ms ns : List ℕ) → HasNumbers body ms → HasNumbers body ns → ms ≡ ns
one_list (Num n) ms ns p q = p ∙ sym q
one_list (Eight n) ms ns p q = absurd p
one_list (Four n) ms ns p q = absurd p
one_list (Part part) ms ns p q = numbers_unique part.bytes ms ns p q

true_or_false : (b : Bool) → IsTrue b → b ≡ false → ⊥
true_or_false true h e = absurd cc
true_or_false false h e = absurd cc

pub read_or_fault : (kind : Kind) (item : Item) (fault : WireFault) → IsOfKind kind item → HasFault kind item fault → ⊥
read_or_fault Number item fault h f = ok_or_not _ fault h f
read_or_fault Small item fault h f = ok_or_not _ fault h f
read_or_fault Signed item fault h f = ok_or_not _ fault h f
read_or_fault Flag item fault h f = ok_or_not _ fault h f
read_or_fault Text item fault h f = ok_or_not _ fault h f
read_or_fault Bytes item fault h f = ok_or_not _ fault h f
read_or_fault Message item fault h f = ok_or_not _ fault h f
read_or_fault OneOf item fault h f = ok_or_not _ fault h f
read_or_fault Messages item fault h f = ok_or_not _ fault h f
read_or_fault Numbers item fault h f = numbers_or_not item fault item.body h.0 h.1 f.1
read_or_fault SignedNumbers item fault h f = elim f [
  | inl w ↦ numbers_or_not item fault item.body h.0 h.1 w.1
  | inr w ↦ true_or_false (list_all is_int32 w.0) (subst (λ (ns : List ℕ). IsTrue (list_all is_int32 ns)) (one_list item.body h.0 w.0 h.1 w.1) h.2) w.2
]
read_or_fault Past item fault h f = f
read_or_fault Refused item fault h f = h

not_both : (b : Bool) → b ≡ false → b ≡ true → ⊥
not_both true p q = absurd cc
not_both false p q = absurd cc

pub follows_or_not : (rules : Rules) (before : List Item) (item : Item) (fault : WireFault) → MayFollow rules before item → MayNotFollow rules before item fault → ⊥
follows_or_not rules before item fault m n = elim n [
  | inl w ↦ read_or_fault _ item fault m.read w
  | inr w ↦ not_both _ m.room w.1
]

pub obey_at : (rules : Rules) (start before : List Item) (item : Item) (others : List Item) → Obey rules start (before ++ item ∷ others) → MayFollow rules (start ++ before) item
obey_at rules start [] item others o = subst (λ (xs : List Item). MayFollow rules xs item) (sym (append-nil start)) o.0
obey_at rules start (x ∷ xs) item others o =
    subst (λ (ys : List Item). MayFollow rules ys item) (append_assoc start (x ∷ []) xs) (obey_at rules (start ++ x ∷ []) xs item others o.1)

pub one_reading : (rules : Rules) (message : Placed) (xs ys : List Item) → ReadsItems rules message xs → ReadsItems rules message ys → xs ≡ ys
one_reading rules message xs ys p q = items_unique message.base message.bytes xs ys p.spelled q.spelled

pub no_reading : (rules : Rules) (message : Placed) (items : List Item) (fault : WireFault) → ReadsItems rules message items → FailsToRead rules message fault → ⊥
no_reading rules message items fault r f =
    let rest = given_rest message f.before f.left items f.given r.spelled in
    elim f.breaks [
      | inl w ↦ no_items f.left.base f.left.bytes fault.kind rest.0 w.0 rest.2
      | inr w ↦
          let first = begins_first f.left w.0 w.1 rest.0 w.2 rest.2 in
          let all : items ≡ f.before ++ w.0 ∷ first.0 = rest.1 ∙ ap (λ (xs : List Item). f.before ++ xs) first.1 in
          follows_or_not rules f.before w.0 fault (obey_at rules [] f.before w.0 first.0 (subst (Obey rules []) all r.obeyed)) w.3
    ]
