-- Items that keep to a rules.
use Rattle.std.proofs.Common.{◌≡◌, ℕ, ◌-◌, false, List, [], ◌∷◌, ◌++◌, length, take, refl, sym, ap, subst, ◌∙◌, append_assoc, arith}
use Rattle.std.proofs.lemmas.List.{append-nil}
use Rattle.std.proofs.Math.Seq.{take-append_seam}
use Rattle.std.specs.List.{list_any}
use Rattle.lan_bytes.specs.Placed.{Placed}
use Rattle.lan_wire.specs.declared.item.Item.{Item}
use Rattle.lan_wire.specs.Rules.{Rules}
use Rattle.lan_wire.specs.Spells.{Items, Given}
use Rattle.lan_wire.specs.declared.rules.Kind.{Kind}
use Rattle.lan_wire.specs.declared.rules.Kind.TheVariants.{Message, OneOf}
use Rattle.lan_wire.specs.Messages.{clashes_as, MayFollow, Obey, ReadsItems}
use Rattle.lan_wire.specs.Values.{AreItems, items_of}
use Rattle.lan_wire.proofs.ItemLists.{items_of_is, are_items}
use Rattle.lan_wire.proofs.MessageLaws.{given_all}

pub obey_push : (rules : Rules) (before xs : List Item) (item : Item) → Obey rules before xs → MayFollow rules (before ++ xs) item → Obey rules before (xs ++ item ∷ [])
obey_push rules before [] item p q = (subst (λ (ys : List Item). MayFollow rules ys item) (append-nil before) q, tt)
obey_push rules before (x ∷ xs) item p q =
    (p.0, obey_push rules (before ++ x ∷ []) xs item p.1 (subst (λ (ys : List Item). MayFollow rules ys item) (sym (append_assoc before (x ∷ []) xs)) q))

never : (xs : List Item) → list_any (λ (x : Item). false) xs ≡ false
never [] = refl
never (x ∷ xs) = never xs

pub never_as : (kind : Kind) (rules : Rules) (xs : List Item) (number : ℕ) → (kind ≡ Message → ⊥) → (kind ≡ OneOf → ⊥) → list_any (λ (x : Item). clashes_as kind rules x.number number) xs ≡ false
never_as Message rules xs number p q = absurd (p refl)
never_as OneOf rules xs number p q = absurd (q refl)
never_as _ rules xs number p q = never xs

-- the bytes of a message before a place, where its items so far end there
pub front_is : (message : Placed) (before : List Item) (left : Placed) (n : ℕ) (front : Placed) → Given message before left → n ≡ left.base - message.base → front ≡ record { base = message.base; bytes = take n message.bytes } → (items_of front ≡ before) × AreItems front
front_is message before left n front g size is =
    let len : n ≡ length g.front = omega (arith, size, g.place) in
    let bytes : take n message.bytes ≡ g.front = ap (λ (k : ℕ). take k message.bytes) len ∙ ap (take (length g.front)) g.parts ∙ take-append_seam g.front left.bytes in
    let whole : front ≡ record { base = message.base; bytes = g.front } = is ∙ ap (λ (b : List ℕ). record { base = message.base; bytes = b }) bytes in
    let items : Items front.base front.bytes before = subst (λ (p : Placed). Items p.base p.bytes before) (sym whole) g.items in
    (items_of_is front before items, are_items front before items)

pub reads_all : (rules : Rules) (message : Placed) (items : List Item) (left : Placed) → Given message items left → left.bytes ≡ [] → Obey rules [] items → ReadsItems rules message (items_of message)
reads_all rules message items left g none obeyed =
    let all : Items message.base message.bytes items = given_all message items left g none in
    let is : items ≡ items_of message = sym (items_of_is message items all) in
    record { spelled = are_items message items all; obeyed = subst (Obey rules []) is obeyed }
