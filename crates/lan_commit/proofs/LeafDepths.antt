-- The leaves of fields that a table may have: how many layers they have, and of which types they are.
use Rattle.std.proofs.Common.{◌≡◌, ℕ, ◌+◌, ◌≤◌, refl, sym, ◌∙◌, ap, ap₂, subst, Bool, List, [], ◌∷◌, ◌++◌, length, map, arith}
use Rattle.std.specs.Prelude.{All}
use Rattle.std.proofs.lemmas.List.{get_or-map, length-append, length-map, map-append}
use Rattle.std.proofs.lemmas.List.Elements.{All-nil, All-cons, All-append}
use Rattle.lan_model.specs.declared.tree.Layer.{Layer}
use Rattle.lan_model.specs.declared.tree.Layer.TheVariants as layer
use Rattle.lan_model.specs.Leaves.{PlainLeaf, leaves_of, leaves_of_members, leaves_from}
use Rattle.lan_model.specs.Plain.{primitive, vector, text, bytes, list, struct, PlainField, field, PlainFields, no_fields, one_field}
use Rattle.lan_model.specs.Table.{IsField, AreFields, depths_of, all_depths}
use Rattle.lan_levels.specs.EachLeaf.{leaf_count, leaf_count_of}
use Rattle.lan_file.specs.SlotsWritten.{TakesBytes}

abbrev depths_in : List PlainLeaf → List ℕ
depths_in = map (λ (leaf : PlainLeaf). length leaf.layers)

both : (xs ys : List PlainLeaf) (ms ns : List ℕ) → depths_in xs ≡ ms → depths_in ys ≡ ns → depths_in (xs ++ ys) ≡ ms ++ ns
both xs ys ms ns a b = map-append (λ (leaf : PlainLeaf). length leaf.layers) xs ys ∙ ap₂ (λ (m n : List ℕ). m ++ n) a b

mutual
  field_depths : (f : PlainField ℕ) (top n : ℕ) (outer : List Layer) → length outer ≡ n → depths_in (leaves_of f top outer) ≡ depths_of f n
  field_depths (field id name nullable (list item)) top n outer long = field_depths item top (n + 1) (layer.List nullable ∷ outer) (omega (arith, long))
  field_depths (field id name nullable (struct members)) top n outer long = member_depths members nullable 0 top n outer long
  field_depths (field id name nullable (primitive p)) top n outer long = ap (λ (k : ℕ). k ∷ []) (omega (arith, long))
  field_depths (field id name nullable (vector p k)) top n outer long = ap (λ (k : ℕ). k ∷ []) (omega (arith, long))
  field_depths (field id name nullable text) top n outer long = ap (λ (k : ℕ). k ∷ []) (omega (arith, long))
  field_depths (field id name nullable bytes) top n outer long = ap (λ (k : ℕ). k ∷ []) (omega (arith, long))

  member_depths : (fs : PlainFields ℕ) (nullable : Bool) (member top n : ℕ) (outer : List Layer) → length outer ≡ n → depths_in (leaves_of_members fs nullable member top outer) ≡ all_depths fs (n + 1)
  member_depths no_fields nullable member top n outer long = refl
  member_depths (one_field f fs) nullable member top n outer long =
      both (leaves_of f top (layer.Struct nullable member ∷ outer)) (leaves_of_members fs nullable (member + 1) top outer) (depths_of f (n + 1)) (all_depths fs (n + 1))
      (field_depths f top (n + 1) (layer.Struct nullable member ∷ outer) (omega (arith, long))) (member_depths fs nullable (member + 1) top n outer long)

-- the depths of a table's fields are those of their leaves
pub leaf_depths : (fs : PlainFields ℕ) (top : ℕ) → depths_in (leaves_from fs top) ≡ all_depths fs 0
leaf_depths no_fields top = refl
leaf_depths (one_field f fs) top = both (leaves_of f top []) (leaves_from fs (top + 1)) (depths_of f 0) (all_depths fs 0) (field_depths f top 0 [] refl) (leaf_depths fs (top + 1))

-- so there are as many
pub leaves_long : (fs : PlainFields ℕ) (top : ℕ) → length (leaves_from fs top) ≡ length (all_depths fs 0)
leaves_long fs top = sym (length-map (leaves_from fs top) (λ (leaf : PlainLeaf). length leaf.layers)) ∙ ap length (leaf_depths fs top)

mutual
  depths_counted : (f : PlainField ℕ) (n : ℕ) → length (depths_of f n) ≡ leaf_count f
  depths_counted (field id name nullable (list item)) n = depths_counted item (n + 1)
  depths_counted (field id name nullable (struct members)) n = all_counted members (n + 1)
  depths_counted (field id name nullable (primitive p)) n = refl
  depths_counted (field id name nullable (vector p k)) n = refl
  depths_counted (field id name nullable text) n = refl
  depths_counted (field id name nullable bytes) n = refl

  pub all_counted : (fs : PlainFields ℕ) (n : ℕ) → length (all_depths fs n) ≡ leaf_count_of fs
  all_counted no_fields n = refl
  all_counted (one_field f fs) n = omega (arith, length-append (depths_of f n) (all_depths fs n), depths_counted f n, all_counted fs n)

-- and each is as shallow
pub leaves_shallow : (fs : PlainFields ℕ) (top : ℕ) → All (λ depth. depth ≤ 16) (all_depths fs 0) → All (λ (leaf : PlainLeaf). length leaf.layers ≤ 16) (leaves_from fs top)
leaves_shallow fs top each k d below =
    let leaves = leaves_from fs top in
    let depth : PlainLeaf → ℕ = λ (leaf : PlainLeaf). length leaf.layers in
    let all : All (λ depth. depth ≤ 16) (depths_in leaves) = subst (All (λ depth. depth ≤ 16)) (sym (leaf_depths fs top)) each in
    subst (λ (n : ℕ). n ≤ 16) (get_or-map depth leaves k d (depth d) below) (all k (depth d) (omega (arith, below, length-map leaves depth)))

abbrev Takes : PlainLeaf → Type 0
Takes leaf = TakesBytes leaf.ty

mutual
  field_takes : (f : PlainField ℕ) (top : ℕ) (outer : List Layer) → IsField f → All Takes (leaves_of f top outer)
  field_takes (field id name nullable (list item)) top outer is = field_takes item top (layer.List nullable ∷ outer) is
  field_takes (field id name nullable (struct members)) top outer is = members_take members nullable 0 top outer is.1
  field_takes (field id name nullable (primitive p)) top outer is = All-cons Takes _ [] tt (All-nil Takes)
  field_takes (field id name nullable (vector p k)) top outer is = All-cons Takes _ [] (is.0, is.2) (All-nil Takes)
  field_takes (field id name nullable text) top outer is = All-cons Takes _ [] tt (All-nil Takes)
  field_takes (field id name nullable bytes) top outer is = All-cons Takes _ [] tt (All-nil Takes)

  members_take : (fs : PlainFields ℕ) (nullable : Bool) (member top : ℕ) (outer : List Layer) → AreFields fs → All Takes (leaves_of_members fs nullable member top outer)
  members_take no_fields nullable member top outer are = All-nil Takes
  members_take (one_field f fs) nullable member top outer are =
      All-append Takes (leaves_of f top (layer.Struct nullable member ∷ outer)) (leaves_of_members fs nullable (member + 1) top outer)
      (field_takes f top (layer.Struct nullable member ∷ outer) are.0) (members_take fs nullable (member + 1) top outer are.1)

-- and of a type whose values a page takes
pub leaves_take : (fs : PlainFields ℕ) (top : ℕ) → AreFields fs → All Takes (leaves_from fs top)
leaves_take no_fields top are = All-nil Takes
leaves_take (one_field f fs) top are = All-append Takes (leaves_of f top []) (leaves_from fs (top + 1)) (field_takes f top [] are.0) (leaves_take fs (top + 1) are.1)
