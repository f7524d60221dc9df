-- Spellings are prefix-free, and one spelling stands for one item.
use Rattle.std.proofs.Common.{◌≡◌, ℕ, ◌+◌, ◌*◌, ◌-◌, List, [], ◌++◌, length, Ok, refl, sym, ap, subst, ◌∙◌, arith}
use Rattle.std.proofs.lemmas.List.{append_cancel_right}
use Rattle.lan_wire.specs.declared.item.Body.{Body}
use Rattle.lan_wire.specs.declared.item.Body.TheVariants.{Num, Eight, Four, Part}
use Rattle.lan_wire.specs.declared.item.Item.{Item}
use Rattle.lan_wire.specs.Reading.{item_at}
use Rattle.lan_wire.specs.Spells.{IsVarint, wire_of, SpellsBody, Spells}
use Rattle.lan_wire.proofs.FrontVarint.{ok_is}
use Rattle.lan_wire.proofs.FrontItem.{item_again}

-- ---- one item at a place

pub same_read : (a b r s : List ℕ) (x y : Item) → Spells a x → Spells b y → x.at ≡ y.at → a ++ r ≡ b ++ s → (x ≡ y) × (r ≡ s)
same_read a b r s x y p q place e =
    let left : item_at x.at (a ++ r) ≡ Ok (x, r) = item_again a r x p in
    let right : item_at y.at (b ++ s) ≡ Ok (y, s) = item_again b s y q in
    let tied : item_at x.at (a ++ r) ≡ item_at y.at (b ++ s) = ap (λ (n : ℕ). item_at n (a ++ r)) place ∙ ap (item_at y.at) e in
    let both : (x, r) ≡ (y, s) = ok_is (x, r) (y, s) (sym left ∙ tied ∙ right) in
    (ap (λ (p : Item × List ℕ). p.0) both, ap (λ (p : Item × List ℕ). p.1) both)

pub one_item : (a : List ℕ) (x y : Item) → Spells a x → Spells a y → x.at ≡ y.at → x ≡ y
one_item a x y p q place = (same_read a a [] [] x y p q place refl).0

-- the same item, its key at another place
abbrev pub moved_body : ℕ → ℕ → Body → Body
moved_body from to (Num n) = Num n
moved_body from to (Eight n) = Eight n
moved_body from to (Four n) = Four n
moved_body from to (Part part) = Part (record { base = to + (part.base - from); bytes = part.bytes })

abbrev moved : ℕ → Item → Item
moved to item = record { number = item.number; at = to; body = moved_body item.at to item.body }

pub wire_moved : (from to : ℕ) (body : Body) → wire_of (moved_body from to body) ≡ wire_of body
wire_moved from to (Num n) = refl
wire_moved from to (Eight n) = refl
wire_moved from to (Four n) = refl
wire_moved from to (Part part) = refl

pub body_moved : (from to more : ℕ) (bytes : List ℕ) (body : Body) → SpellsBody (from + more) bytes body → SpellsBody (to + more) bytes (moved_body from to body)
body_moved from to more bytes (Num n) h = h
body_moved from to more bytes (Eight n) h = h
body_moved from to more bytes (Four n) h = h
body_moved from to more bytes (Part part) h = (h.0, h.1, omega (arith, h.2), h.3)

spelled_moved : (to : ℕ) (a : List ℕ) (x : Item) → Spells a x → Spells a (moved to x)
spelled_moved to a x s = record {
  key = s.key;
  body = s.body;
  parts = s.parts;
  is_key = subst (λ (w : ℕ). IsVarint s.key (x.number * 8 + w)) (sym (wire_moved x.at to x.body)) s.is_key;
  is_body = body_moved x.at to (length s.key) s.body x.body s.is_body;
  least = s.least;
  greatest = s.greatest;
}

pub prefix_free : (a b r s : List ℕ) (x y : Item) → Spells a x → Spells b y → a ++ r ≡ b ++ s → a ≡ b
prefix_free a b r s x y p q e =
    let rests : r ≡ s = (same_read a b r s x (moved x.at y) p (spelled_moved x.at b y q) refl e).1 in
    append_cancel_right a b r (e ∙ ap (λ (t : List ℕ). b ++ t) (sym rests))
