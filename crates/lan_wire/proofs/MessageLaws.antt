-- The items of a message are unique, and those that were given of it are the first of them.
use Rattle.std.proofs.Common.{◌≡◌, ℕ, ◌+◌, ◌*◌, List, [], ◌∷◌, ◌++◌, length, refl, sym, ap, subst, ◌∙◌, append_assoc, length-append, arith}
use Rattle.std.proofs.lemmas.List.{append_cancel_right, append-nil}
use Rattle.lan_bytes.specs.Placed.{Placed}
use Rattle.lan_wire.specs.declared.item.Item.{Item}
use Rattle.lan_wire.specs.Spells.{IsGroups, wire_of, Spells, Items, Begins, Given}
use Rattle.lan_wire.proofs.SpellingLaws.{same_read}

-- ---- lists of items

same_cons : (x y : Item) (xs ys : List Item) → x ≡ y → xs ≡ ys → x ∷ xs ≡ y ∷ ys
same_cons x y xs ys p q = ap (λ (z : Item). z ∷ xs) p ∙ ap (λ (zs : List Item). y ∷ zs) q

pub front_not_nil : (front rest : List ℕ) (item : Item) → Spells front item → [] ≡ front ++ rest → ⊥
front_not_nil front rest item s e = nothing s.key s.body rest (item.number * 8 + wire_of item.body) s.is_key.groups (e ∙ ap (λ (t : List ℕ). t ++ rest) s.parts) where
  nothing : (key body rest : List ℕ) (n : ℕ) → IsGroups key n → [] ≡ (key ++ body) ++ rest → ⊥
  nothing [] body rest n g e = g
  nothing (b ∷ bs) body rest n g e = absurd cc

pub items_unique : (at : ℕ) (bytes : List ℕ) (xs ys : List Item) → Items at bytes xs → Items at bytes ys → xs ≡ ys
items_unique at bytes [] [] p q = refl
items_unique at bytes [] (y ∷ ys) p q = absurd (front_not_nil q.0 q.1 y q.3 (sym p ∙ q.2))
items_unique at bytes (x ∷ xs) [] p q = absurd (front_not_nil p.0 p.1 x p.3 (sym q ∙ p.2))
items_unique at bytes (x ∷ xs) (y ∷ ys) p q =
    let same = same_read p.0 q.0 p.1 q.1 x y p.3 q.3 (p.4 ∙ sym q.4) (sym p.2 ∙ q.2) in
    let fronts : p.0 ≡ q.0 = append_cancel_right p.0 q.0 p.1 (sym p.2 ∙ q.2 ∙ ap (λ (t : List ℕ). q.0 ++ t) (sym same.1)) in
    let others : Items (at + length q.0) q.1 xs = subst (λ (n : ℕ). Items n q.1 xs) (ap (λ (f : List ℕ). at + length f) fronts) (subst (λ (t : List ℕ). Items (at + length p.0) t xs) same.1 p.5) in
    same_cons x y xs ys same.0 (items_unique (at + length q.0) q.1 xs ys others q.5)

items_push : (at : ℕ) (front more : List ℕ) (xs : List Item) (x : Item) → Items at front xs → Spells more x → x.at ≡ at + length front → Items at (front ++ more) (xs ++ x ∷ [])
items_push at front more [] x p s place =
    let none : front ≡ [] = p in
    let here : x.at ≡ at = omega (arith, place, ap length none) in
    (more, [], ap (λ (f : List ℕ). f ++ more) none ∙ sym (append-nil more), s, here, refl)
items_push at front more (y ∷ ys) x p s place =
    let size : length front ≡ length p.0 + length p.1 = ap length p.2 ∙ length-append p.0 p.1 in
    (p.0, p.1 ++ more, ap (λ (f : List ℕ). f ++ more) p.2 ∙ append_assoc p.0 p.1 more, p.3, p.4, items_push (at + length p.0) p.1 more ys x p.5 s (omega (arith, place, size)))

pub given_more : (whole : Placed) (given : List Item) (left : Placed) (item : Item) (after : Placed) → Given whole given left → Begins left item after → Given whole (given ++ item ∷ []) after
given_more whole given left item after g b = record {
  front = g.front ++ b.front;
  parts = g.parts ∙ ap (λ (t : List ℕ). g.front ++ t) b.parts ∙ sym (append_assoc g.front b.front after.bytes);
  items = items_push whole.base g.front b.front given item g.items b.spelled (b.place ∙ g.place);
  place = omega (arith, b.next, g.place, length-append g.front b.front);
}

pub given_none : (whole : Placed) → Given whole [] whole
given_none whole = record { front = []; parts = refl; items = refl; place = omega arith }

pub given_all : (whole : Placed) (given : List Item) (left : Placed) → Given whole given left → left.bytes ≡ [] → Items whole.base whole.bytes given
given_all whole given left g none = subst (λ (t : List ℕ). Items whole.base t given) (sym (g.parts ∙ ap (λ (t : List ℕ). g.front ++ t) none ∙ append-nil g.front)) g.items

-- ---- parts of a message

pub items_append : (at : ℕ) (a b : List ℕ) (xs ys : List Item) → Items at a xs → Items (at + length a) b ys → Items at (a ++ b) (xs ++ ys)
items_append at a b [] ys p q =
    let here : at + length a ≡ at = omega (arith, ap length p) in
    subst (λ (t : List ℕ). Items at (t ++ b) ys) (sym p) (subst (λ (n : ℕ). Items n b ys) here q)
items_append at a b (x ∷ xs) ys p q =
    let size : length a ≡ length p.0 + length p.1 = ap length p.2 ∙ length-append p.0 p.1 in
    let place : at + length a ≡ at + length p.0 + length p.1 = omega (arith, size) in
    (p.0, p.1 ++ b, ap (λ (t : List ℕ). t ++ b) p.2 ∙ append_assoc p.0 p.1 b, p.3, p.4, items_append (at + length p.0) p.1 b xs ys p.5 (subst (λ (n : ℕ). Items n b ys) place q))

-- what follows some items of a message
pub items_after : (at : ℕ) (front rest : List ℕ) (before items : List Item) → Items at front before → Items at (front ++ rest) items → (more : List Item) × (items ≡ before ++ more) × Items (at + length front) rest more
items_after at front rest [] items p q =
    let here : at ≡ at + length front = omega (arith, ap length p) in
    (items, refl, subst (λ (n : ℕ). Items n rest items) here (subst (λ (t : List ℕ). Items at (t ++ rest) items) p q))
items_after at front rest (x ∷ xs) [] p q =
    absurd (front_not_nil p.0 (p.1 ++ rest) x p.3 (sym q ∙ ap (λ (t : List ℕ). t ++ rest) p.2 ∙ append_assoc p.0 p.1 rest))
items_after at front rest (x ∷ xs) (y ∷ ys) p q =
    let parts : p.0 ++ (p.1 ++ rest) ≡ q.0 ++ q.1 = sym (append_assoc p.0 p.1 rest) ∙ ap (λ (t : List ℕ). t ++ rest) (sym p.2) ∙ q.2 in
    let same = same_read p.0 q.0 (p.1 ++ rest) q.1 x y p.3 q.3 (p.4 ∙ sym q.4) parts in
    let fronts : p.0 ≡ q.0 = append_cancel_right p.0 q.0 (p.1 ++ rest) (parts ∙ ap (λ (t : List ℕ). q.0 ++ t) (sym same.1)) in
    let others : Items (at + length p.0) (p.1 ++ rest) ys = subst (λ (t : List ℕ). Items (at + length p.0) t ys) (sym same.1) (subst (λ (f : List ℕ). Items (at + length f) q.1 ys) (sym fronts) q.5) in
    let later = items_after (at + length p.0) p.1 rest xs ys p.5 others in
    let size : length front ≡ length p.0 + length p.1 = ap length p.2 ∙ length-append p.0 p.1 in
    let place : at + length p.0 + length p.1 ≡ at + length front = omega (arith, size) in
    (later.0, same_cons y x ys (xs ++ later.0) (sym same.0) later.1, subst (λ (n : ℕ). Items n rest later.0) place later.2)

pub given_rest : (whole : Placed) (before : List Item) (left : Placed) (items : List Item) → Given whole before left → Items whole.base whole.bytes items → (more : List Item) × (items ≡ before ++ more) × Items left.base left.bytes more
given_rest whole before left items g p =
    let r = items_after whole.base g.front left.bytes before items g.items (subst (λ (t : List ℕ). Items whole.base t items) g.parts p) in
    (r.0, r.1, subst (λ (n : ℕ). Items n left.bytes r.0) (sym g.place) r.2)

-- the item that begins what is left is the first of its items
pub begins_first : (left : Placed) (item : Item) (after : Placed) (more : List Item) → Begins left item after → Items left.base left.bytes more → (others : List Item) × (more ≡ item ∷ others)
begins_first left item after [] b p = absurd (front_not_nil b.front after.bytes item b.spelled (sym p ∙ b.parts))
begins_first left item after (y ∷ ys) b p =
    let same = same_read p.0 b.front p.1 after.bytes y item p.3 b.spelled (p.4 ∙ sym b.place) (sym p.2 ∙ b.parts) in
    (ys, ap (λ (z : Item). z ∷ ys) same.0)
