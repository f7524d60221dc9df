-- Fields that lie flat, each with its parent's number, and the trees that they stand for.
use Rattle.std.specs.Prelude.{◌≡◌, ℕ, Bool, false, cond, nat_eq, List, [], ◌∷◌, ◌++◌, ℤ, pos, negsuc}
use Rattle.lan_schema.specs.FieldMessage.{Flat}

-- what a field says of itself
pub record Label : Type 0 where
  pub name : List ℕ
  pub id : ℤ
  pub logical : List ℕ
  pub nullable : Bool

-- fields side by side, each with those inside it
pub data Trees : Type 0 where
  none : Trees
  tree : Label → Trees → Trees → Trees

-- whether two numbers are one
abbrev pub same : ℤ → ℤ → Bool
same (pos m) (pos n) = nat_eq m n
same (pos m) (negsuc n) = false
same (negsuc m) (pos n) = false
same (negsuc m) (negsuc n) = nat_eq m n

-- what a field says of itself, without its parent
abbrev pub label_of : Flat → Label
label_of f = record { name = f.name; id = f.id; logical = f.logical; nullable = f.nullable }

-- a field inside a parent
abbrev pub under : ℤ → Label → Flat
under parent l = record { name = l.name; id = l.id; parent = parent; logical = l.logical; nullable = l.nullable }

-- the trees of the fields of a parent; a field stands before those inside it
abbrev pub forest : ℤ → List Flat → Trees
forest p [] = none
forest p (f ∷ fs) = cond (same f.parent p) (tree (label_of f) (forest f.id fs) (forest p fs)) (forest p fs)

-- all fields of the trees, depth first
abbrev pub laid : ℤ → Trees → List Flat
laid p none = []
laid p (tree l inside others) = under p l ∷ (laid l.id inside ++ laid p others)

-- no field of the trees has this number
abbrev pub Absent : ℤ → Trees → Type 0
Absent z none = Unit {0}
Absent z (tree l inside others) = (l.id ≡ z → ⊥) × Absent z inside × Absent z others

-- no number of the first trees is one of the second
abbrev pub Apart : Trees → Trees → Type 0
Apart none more = Unit {0}
Apart (tree l inside others) more = Absent l.id more × Apart inside more × Apart others more

-- no number stands twice
abbrev pub AreDistinct : Trees → Type 0
AreDistinct none = Unit {0}
AreDistinct (tree l inside others) = Absent l.id inside × Absent l.id others × Apart inside others × AreDistinct inside × AreDistinct others
