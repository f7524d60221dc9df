-- What a logical type says of the fields inside a field.
use Rattle.std.specs.Prelude.{ℕ, Bool, ◌||◌, if◌then◌else◌, nat_eq, nat_lt, List, codes}
use Rattle.std.specs.Str.{bytes_eq}
use Rattle.lan_schema.specs.declared.shape.Shape.{Shape}
use Rattle.lan_schema.specs.declared.shape.Shape.TheVariants as shape

-- both texts of a list are read alike
unfoldable pub shape_of : List ℕ → Shape
shape_of logical =
    if bytes_eq logical (codes "struct") then shape.Struct
    else (if bytes_eq logical (codes "list") || bytes_eq logical (codes "list.struct") then shape.List else shape.Leaf)

-- how many fields lie in a field
abbrev pub takes : Shape → ℕ → Bool
takes shape.Struct n = nat_lt 0 n
takes shape.List n = nat_eq n 1
takes shape.Leaf n = nat_eq n 0
