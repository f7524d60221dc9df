-- How the slots of a full-zip page are laid out.
use Rattle.std.specs.Prelude.{ℕ, ◌+◌, ◌-◌, ◌*◌, ◌/◌, cond, List, length, map}
use lib.Dec.{ltb}
use Rattle.lan_model.specs.declared.tree.Layer.{Layer}
use Rattle.lan_model.specs.declared.tree.Leaf.{Leaf}
use Rattle.lan_model.specs.declared.tree.Primitive.TheVariants as kind
use Rattle.lan_model.specs.Plain.{PlainType, primitive, vector, plain_type}
use Rattle.lan_model.specs.Fits.{width}
use Rattle.lan_model.specs.Leaves.{PlainLeaf, plain_leaf}
use Rattle.lan_levels.specs.declared.shape.Shape.{Shape}
use Rattle.lan_levels.specs.declared.shape.ValueKind.{ValueKind}
use Rattle.lan_levels.specs.declared.shape.ValueKind.TheVariants as stored
use Rattle.lan_levels.specs.declared.shape.ValueForm.{ValueForm}
use Rattle.lan_levels.specs.declared.shape.ValueForm.TheVariants as value
use Rattle.lan_levels.specs.declared.slot.State.{State}
use Rattle.lan_levels.specs.Codes.{layer_code, states_of}
use Rattle.lan_levels.specs.SlotsOf.{lists_in}

-- the states of the definition numbers from 0 on, the layers from the leaf outward, how many of
-- them are lists, how many bits a definition number has, how many bytes a control word has
pub record PlainForm : Type 0 where
  pub states : List State
  pub layers : List Layer
  pub lists : ℕ
  pub bits : ℕ
  pub word : ℕ
  pub value : ValueForm

-- how many binary digits a number below 64 has, none for 0
abbrev pub digits : ℕ → ℕ
digits n = cond (ltb n 1) 0 (cond (ltb n 2) 1 (cond (ltb n 4) 2 (cond (ltb n 8) 3 (cond (ltb n 16) 4 (cond (ltb n 32) 5 6)))))

-- how many bytes a control word has, whose two numbers have so many bits together
abbrev pub word_size : ℕ → ℕ
word_size bits = cond (ltb bits 1) 0 (cond (ltb bits 9) 1 2)

-- how a value stands in a slot: a bool in one byte, else fixed bytes, or a length and bytes
abbrev pub value_form : PlainType ℕ → ValueKind → ValueForm
value_form (primitive kind.Bool) stored = value.Bool
value_form ty (stored.Flat bits) = value.Fixed (bits / 8)
value_form ty _ = value.Variable

abbrev pub form_for : List ℕ → List Layer → ValueForm → PlainForm
form_for codes layers v =
    let lists = lists_in layers in
    let bits = digits (length (states_of codes) - 1) in
    record { states = states_of codes; layers = layers; lists = lists; bits = bits; word = word_size (digits lists + bits); value = v }

abbrev pub form_of : Shape → PlainForm
form_of s = form_for s.codes.now s.leaf.now.layers (value_form (plain_type s.leaf.now.ty) s.values.now)

-- how the values of a leaf of that type are stored
abbrev pub kind_of : PlainType ℕ → ValueKind
kind_of (primitive p) = stored.Flat (width p)
kind_of (vector p n) = stored.Flat (n * width p)
kind_of _ = stored.Variable

-- the form of a leaf's slots, with the writer's codes
abbrev pub leaf_form : PlainLeaf → PlainForm
leaf_form l = form_for (map layer_code l.layers) l.layers (value_form l.ty (kind_of l.ty))

abbrev pub written_form : Leaf → PlainForm
written_form l = leaf_form (plain_leaf l)
