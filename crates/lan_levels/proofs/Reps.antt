-- Repetition numbers and layers counted along a path.
use Rattle.std.proofs.Common.{◌≡◌, ℕ, suc, ◌+◌, Bool, List, [], ◌∷◌, length, arith}
use Rattle.lan_model.specs.declared.tree.Layer.{Layer}
use Rattle.lan_model.specs.declared.tree.Layer.TheVariants as layer
use Rattle.lan_model.specs.Plain.{primitive, vector, text, bytes, list, struct, PlainField, field, PlainFields, no_fields, one_field}
use Rattle.lan_levels.specs.SlotsOf.{lists_in}
use Rattle.lan_levels.specs.EachLeaf.{leaf_count, EachLeaf, EachLeafOf}
use Rattle.lan_levels.specs.Taken.{first_rep, layers_below}
use Rattle.lan_levels.proofs.EachLeaf.{EachLeaf-map}

pub first_rep-is : (k : ℕ) (path : List Layer) → first_rep k path ≡ lists_in path + k
first_rep-is k [] = omega arith
first_rep-is k (layer.Item n ∷ path) = first_rep-is k path
first_rep-is k (layer.Struct n m ∷ path) = first_rep-is k path
first_rep-is k (layer.List n ∷ path) = omega (arith, first_rep-is (k + 1) path)

-- with no list layer entered since
pub same_rep : (path : List Layer) → first_rep 0 path ≡ lists_in path
same_rep path = omega (arith, first_rep-is 0 path)

mutual
  pub layers_below-is : (f : PlainField ℕ) (i below : ℕ) → EachLeaf f i (λ d j ty path. layers_below below path + 1 ≡ length path + below)
  layers_below-is (field id name n (list item)) i below =
      EachLeaf-map item i (λ d j ty path. layers_below (below + 1) path + 1 ≡ length path + (below + 1))
      (λ d j ty path. layers_below below (layer.List n ∷ path) + 1 ≡ length (layer.List n ∷ path) + below) (λ d j ty path a b e h. omega arith) (layers_below-is item i (below + 1))
  layers_below-is (field id name n (struct members)) i below = layers_below-of members n 0 i below
  layers_below-is (field id name n (primitive p)) i below = omega arith
  layers_below-is (field id name n (vector p k)) i below = omega arith
  layers_below-is (field id name n text) i below = omega arith
  layers_below-is (field id name n bytes) i below = omega arith

  layers_below-of : (fs : PlainFields ℕ) (n : Bool) (m i below : ℕ) → EachLeafOf fs n m i (λ d j ty path. layers_below below path + 1 ≡ length path + below)
  layers_below-of no_fields n m i below = tt
  layers_below-of (one_field f fs) n m i below = (
    EachLeaf-map f i (λ d j ty path. layers_below (below + 1) path + 1 ≡ length path + (below + 1))
        (λ d j ty path. layers_below below (layer.Struct n m ∷ path) + 1 ≡ length (layer.Struct n m ∷ path) + below) (λ d j ty path a b e h. omega arith)
        (layers_below-is f i (below + 1)),
    layers_below-of fs n (suc m) (i + leaf_count f) below,
  )
