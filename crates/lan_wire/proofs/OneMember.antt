-- A oneof has one member.
use Rattle.std.proofs.Common.{◌≡◌, ℕ, Bool, true, false, List, [], ◌∷◌, ◌++◌, Some, None, refl, sym, ap, subst, ◌∙◌}
use Rattle.std.specs.Prelude.{nat_eq, ◌||◌}
use Rattle.std.specs.List.{list_any}
use Rattle.std.proofs.lemmas.Bool.{eqb-true}
use Rattle.lan_bytes.specs.Placed.{Placed}
use Rattle.lan_wire.specs.declared.item.Item.{Item}
use Rattle.lan_wire.specs.declared.rules.Kind.{Kind}
use Rattle.lan_wire.specs.declared.rules.Kind.TheVariants.{OneOf, Refused}
use Rattle.lan_wire.specs.Rules.{Rules, kind_at}
use Rattle.lan_wire.specs.Messages.{IsOfKind, is_one_of, is_taken, Obey, ReadsItems}
use Rattle.lan_wire.specs.Values.{of_number, last_from, part_of_item, part_under}

-- some item has the number
abbrev has : ℕ → List Item → Bool
has number items = list_any (λ item. nat_eq item.number number) items

none_of : (number : ℕ) (items : List Item) → has number items ≡ false → of_number number items ≡ []
none_of number [] e = refl
none_of number (x ∷ xs) e = by (nat_eq x.number number) refl e (none_of number xs) where
  by : (b : Bool) → nat_eq x.number number ≡ b → (b || has number xs) ≡ false → (has number xs ≡ false → of_number number xs ≡ []) → of_number number (x ∷ xs) ≡ []
  by true t h later = absurd cc
  by false t h later = rw t (later h)

said_is_there : (b : Bool) (number : ℕ) (items : List Item) (part : Placed) → has number items ≡ b → part_under number items ≡ Some part → has number items ≡ true
said_is_there true number items part e said = e
said_is_there false number items part e said =
    let none : part_under number items ≡ None = ap (λ (xs : List Item). part_of_item (last_from None xs)) (none_of number items e) in
    absurd cc

any_later : (p : Item → Bool) (before : List Item) (x : Item) → p x ≡ true → list_any p (before ++ x ∷ []) ≡ true
any_later p [] x e = rw e refl
any_later p (y ∷ ys) x e = by (p y) (any_later p ys x e) where
  by : (b : Bool) → list_any p (ys ++ x ∷ []) ≡ true → (b || list_any p (ys ++ x ∷ [])) ≡ true
  by true h = refl
  by false h = h

any_push : (p : Item → Bool) (before : List Item) (x : Item) → list_any p before ≡ true → list_any p (before ++ x ∷ []) ≡ true
any_push p [] x e = absurd cc
any_push p (y ∷ ys) x e = by (p y) e (any_push p ys x) where
  by : (b : Bool) → (b || list_any p ys) ≡ true → (list_any p ys ≡ true → list_any p (ys ++ x ∷ []) ≡ true) → (b || list_any p (ys ++ x ∷ [])) ≡ true
  by true h later = refl
  by false h later = later h

-- a member before these items
abbrev member : Rules → Item → Bool
member rules item = is_one_of (kind_at rules item.number)

no_room : (rules : Rules) (before : List Item) (number : ℕ) → kind_at rules number ≡ OneOf → list_any (member rules) before ≡ true → is_taken rules before number ≡ true
no_room rules before number is e = rw is e

behind : (rules : Rules) (before items : List Item) (number : ℕ) → kind_at rules number ≡ OneOf → list_any (member rules) before ≡ true → Obey rules before items → has number items ≡ true → ⊥
behind rules before [] number is e obey h = absurd cc
behind rules before (x ∷ xs) number is e obey h = by (nat_eq x.number number) refl h (behind rules (before ++ x ∷ []) xs number is (any_push (member rules) before x e) obey.1) where
  by : (b : Bool) → nat_eq x.number number ≡ b → (b || has number xs) ≡ true → (has number xs ≡ true → ⊥) → ⊥
  by true t any later =
      let same : x.number ≡ number = eqb-true x.number number t in
      let room : is_taken rules before number ≡ false = subst (λ (n : ℕ). is_taken rules before n ≡ false) same obey.0.room in
      let full : is_taken rules before number ≡ true = no_room rules before number is e in
      absurd cc
  by false t any later = later any

abbrev apart : ℕ → ℕ → Type 0
apart a b = nat_eq a b ≡ false

both : (rules : Rules) (before items : List Item) (a b : ℕ) → (a ≡ b → ⊥) → kind_at rules a ≡ OneOf → kind_at rules b ≡ OneOf → Obey rules before items → has a items ≡ true → has b items ≡ true → ⊥
both rules before [] a b ne p q obey h k = absurd cc
both rules before (x ∷ xs) a b ne p q obey h k =
    by (nat_eq x.number a) (nat_eq x.number b) refl refl h k (both rules (before ++ x ∷ []) xs a b ne p q obey.1)
    (λ e. behind rules (before ++ x ∷ []) xs b q (any_later (member rules) before x (is_member a p e)) obey.1)
    (λ e. behind rules (before ++ x ∷ []) xs a p (any_later (member rules) before x (is_member b q e)) obey.1) where
      is_member : (n : ℕ) → kind_at rules n ≡ OneOf → nat_eq x.number n ≡ true → member rules x ≡ true
      is_member n is e = ap (λ (m : ℕ). is_one_of (kind_at rules m)) (eqb-true x.number n e) ∙ ap is_one_of is

      by : (c d : Bool) → nat_eq x.number a ≡ c → nat_eq x.number b ≡ d → (c || has a xs) ≡ true → (d || has b xs) ≡ true → (has a xs ≡ true → has b xs ≡ true → ⊥)
          → (nat_eq x.number a ≡ true → has b xs ≡ true → ⊥) → (nat_eq x.number b ≡ true → has a xs ≡ true → ⊥) → ⊥
      by true true s t h k later f g = ne (sym (eqb-true x.number a s) ∙ eqb-true x.number b t)
      by true false s t h k later f g = f s k
      by false true s t h k later f g = g t h
      by false false s t h k later f g = later h k

-- of the members of a oneof one at most is said
pub one_member : (rules : Rules) (message : Placed) (items : List Item) (a b : ℕ) (p q : Placed) → (a ≡ b → ⊥) → kind_at rules a ≡ OneOf → kind_at rules b ≡ OneOf → ReadsItems rules message items
    → part_under a items ≡ Some p → part_under b items ≡ Some q → ⊥
one_member rules message items a b p q ne is_a is_b reads said_a said_b =
    both rules [] items a b ne is_a is_b reads.obeyed (said_is_there (has a items) a items p refl said_a) (said_is_there (has b items) b items q refl said_b)

-- a number that isn't accepted isn't said
pub refused_absent : (rules : Rules) (before items : List Item) (number : ℕ) → kind_at rules number ≡ Refused → Obey rules before items → of_number number items ≡ []
refused_absent rules before [] number is obey = refl
refused_absent rules before (x ∷ xs) number is obey = by (nat_eq x.number number) refl (refused_absent rules (before ++ x ∷ []) xs number is obey.1) where
  by : (b : Bool) → nat_eq x.number number ≡ b → of_number number xs ≡ [] → of_number number (x ∷ xs) ≡ []
  by true t others =
      let kind : kind_at rules x.number ≡ Refused = ap (kind_at rules) (eqb-true x.number number t) ∙ is in
      absurd (subst (λ (k : Kind). IsOfKind k x) kind obey.0.read)
  by false t others = rw t others

pub refused_part : (rules : Rules) (message : Placed) (items : List Item) (number : ℕ) → kind_at rules number ≡ Refused → ReadsItems rules message items → part_under number items ≡ None
refused_part rules message items number is r = ap (λ (xs : List Item). part_of_item (last_from None xs)) (refused_absent rules [] items number is r.obeyed)
