-- How many items bytes can have.
use Rattle.std.proofs.Common.{◌≡◌, ℕ, ◌+◌, ◌*◌, ◌≤◌, Bool, true, false, cond, List, [], ◌∷◌, length, length-append, refl, ap, ◌∙◌, arith}
use Rattle.std.specs.Prelude.{nat_eq}
use Rattle.lan_wire.specs.declared.item.Body.{Body}
use Rattle.lan_wire.specs.declared.item.Body.TheVariants.{Num, Eight, Four, Part}
use Rattle.lan_wire.specs.declared.item.Item.{Item}
use Rattle.lan_wire.specs.Spells.{IsGroups, SpellsBody, Spells, Items}
use Rattle.lan_wire.specs.Values.{of_number, part_before, parts_of, parts_under}

some_groups : (bytes : List ℕ) (n : ℕ) → IsGroups bytes n → 1 ≤ length bytes
some_groups [] n g = absurd g
some_groups (b ∷ bs) n g = omega arith

-- how many parts a body is
abbrev part_count : Body → ℕ
part_count body = length (part_before body [])

body_long : (at : ℕ) (bytes : List ℕ) (body : Body) → SpellsBody at bytes body → part_count body ≤ length bytes
body_long at bytes (Num n) s = omega arith
body_long at bytes (Eight n) s = omega arith
body_long at bytes (Four n) s = omega arith
body_long at bytes (Part part) s = omega (arith, some_groups s.0 (length part.bytes) s.1.groups, ap length s.3, length-append s.0 part.bytes)

-- a part has a key and a length
item_long : (front : List ℕ) (item : Item) → Spells front item → 2 * part_count item.body ≤ length front
item_long front item s = at_most item.body (body_long _ s.body item.body s.is_body) where
  key : 1 ≤ length s.key
  key = some_groups s.key _ s.is_key.groups

  size : length front ≡ length s.key + length s.body
  size = ap length s.parts ∙ length-append s.key s.body

  at_most : (body : Body) → part_count body ≤ length s.body → 2 * part_count body ≤ length front
  at_most (Num n) h = omega arith
  at_most (Eight n) h = omega arith
  at_most (Four n) h = omega arith
  at_most (Part part) h = omega (arith, h, key, size)

more_parts : (body : Body) (items : List Item) → length (part_before body (parts_of items)) ≡ part_count body + length (parts_of items)
more_parts (Num n) items = omega arith
more_parts (Eight n) items = omega arith
more_parts (Four n) items = omega arith
more_parts (Part part) items = omega arith

pub few_parts : (at : ℕ) (bytes : List ℕ) (items : List Item) (number : ℕ) → Items at bytes items → 2 * length (parts_under number items) ≤ length bytes
few_parts at bytes [] number p = omega arith
few_parts at bytes (x ∷ xs) number p = by (nat_eq x.number number) (few_parts (at + length p.0) p.1 xs number p.5) where
  size : length bytes ≡ length p.0 + length p.1
  size = ap length p.2 ∙ length-append p.0 p.1

  here : 2 * part_count x.body ≤ length p.0
  here = item_long p.0 x p.3

  by : (b : Bool) → 2 * length (parts_under number xs) ≤ length p.1 → 2 * length (parts_of (cond b (x ∷ of_number number xs) (of_number number xs))) ≤ length bytes
  by true rest = omega (arith, here, rest, size, more_parts x.body (of_number number xs))
  by false rest = omega (arith, rest, size)
