-- The types that a logical type names by itself.
use Rattle.std.specs.Prelude.{◌≢◌, ℕ, ◌<◌, ◌≤◌, ⊤, List, [], ◌∷◌, cond, ◌&&◌, nat_lt, nat_le, nat_eq, bytes_eq, codes, decimal, Option, Some, None, option_map, option_and_then}
use Rattle.std.specs.Option.{option_or}
use Rattle.std.specs.Str.Parse.{digits_value}
use Rattle.lan_model.specs.declared.tree.Primitive.{Primitive}
use Rattle.lan_model.specs.declared.tree.Primitive.TheVariants as p
use Rattle.lan_model.specs.Plain.{PlainType, primitive, vector, text, bytes, list, struct}
use Rattle.lan_schema.specs.FieldTree.{name_of}

-- the first of these primitives that has this name
abbrev pub named : List ℕ → List Primitive → Option Primitive
named s [] = None
named s (q ∷ qs) = cond (bytes_eq s (name_of q)) (Some q) (named s qs)

-- the primitives of which a vector may be
abbrev pub items_of_vectors : List Primitive
items_of_vectors = p.Int8 ∷ p.Int16 ∷ p.Int32 ∷ p.Int64 ∷ p.Uint8 ∷ p.Uint16 ∷ p.Uint32 ∷ p.Uint64 ∷ p.Half ∷ p.Float ∷ p.Double ∷ p.Date ∷ []

-- what stands behind this front of a text
abbrev pub behind : List ℕ → List ℕ → Option (List ℕ)
behind [] s = Some s
behind (c ∷ front) [] = None
behind (c ∷ front) (d ∷ s) = cond (nat_eq c d) (behind front s) None

-- what stands before and behind the last byte that is this one
unfoldable pub cut_last : ℕ → List ℕ → Option (List ℕ × List ℕ)
cut_last c [] = None
cut_last c (b ∷ s) = option_or (option_map (λ cut. (b ∷ cut.0, cut.1)) (cut_last c s)) (cond (nat_eq b c) (Some ([], s)) None)

-- the number from 1 to 65,536 that a text writes in plain decimal
unfoldable pub count_in : List ℕ → Option ℕ
count_in s = let n = digits_value 10 s in cond (bytes_eq s (decimal n) && (nat_lt 0 n && nat_le n 65536)) (Some n) None

-- the vector of a name and a count
abbrev pub counted : List ℕ × List ℕ → Option (PlainType ℕ)
counted (name, count) = option_and_then (λ q. option_map (vector q) (count_in count)) (named name items_of_vectors)

-- behind the front stand a primitive's name, a colon, and the count; a name may hold colons too
unfoldable pub vector_of : List ℕ → Option (PlainType ℕ)
vector_of s = option_and_then (λ r. option_and_then counted (cut_last 58 r)) (behind (codes "fixed_size_list:") s)

-- a type of fixed width, a text, bytes, or a vector; none for a type with fields in it
abbrev pub leaf_type : List ℕ → Option (PlainType ℕ)
leaf_type s =
    cond (bytes_eq s (codes "string")) (Some text)
    (cond (bytes_eq s (codes "binary")) (Some bytes)
    (option_or (option_map primitive (named s (p.Bool ∷ items_of_vectors))) (vector_of s)))

-- a type without fields in it that a field of a table may have
abbrev pub IsLeafType : PlainType ℕ → Type 0
IsLeafType (primitive q) = ⊤
IsLeafType (vector q n) = (q ≢ p.Bool) × (0 < n) × (n ≤ 65536)
IsLeafType text = ⊤
IsLeafType bytes = ⊤
IsLeafType (list item) = ⊥
IsLeafType (struct members) = ⊥

-- a type of which each value has as many bits
abbrev pub IsFixedType : PlainType ℕ → Type 0
IsFixedType (primitive q) = ⊤
IsFixedType (vector q n) = (q ≢ p.Bool) × (0 < n) × (n ≤ 65536)
IsFixedType ty = ⊥
