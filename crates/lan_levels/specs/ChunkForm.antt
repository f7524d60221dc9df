-- How the slots of a chunk of a mini-block page are stored.
use Rattle.std.specs.Prelude.{ℕ, ◌/◌, Bool, true, false, List, length, map}
use lib.Dec.{ltb}
use Rattle.lan_model.specs.declared.tree.Layer.{Layer}
use Rattle.lan_model.specs.declared.tree.Leaf.{Leaf}
use Rattle.lan_model.specs.declared.tree.Primitive.TheVariants as kind
use Rattle.lan_model.specs.Plain.{PlainType, primitive, plain_type}
use Rattle.lan_model.specs.Leaves.{PlainLeaf, plain_leaf}
use Rattle.lan_levels.specs.declared.shape.Shape.{Shape}
use Rattle.lan_levels.specs.declared.shape.ValueKind.{ValueKind}
use Rattle.lan_levels.specs.declared.shape.ValueKind.TheVariants as stored
use Rattle.lan_levels.specs.declared.slot.State.{State}
use Rattle.lan_levels.specs.Codes.{layer_code, states_of}
use Rattle.lan_levels.specs.ConstantSlots.{own_piece}
use Rattle.lan_levels.specs.SlotsOf.{lists_in}
use Rattle.lan_levels.specs.PlainSlots.{PlainPiece}
use Rattle.lan_levels.specs.Values.{Encoding, flat, bools, variable}
use Rattle.lan_levels.specs.ZipForm.{kind_of}

-- where values stand: in a buffer of that encoding, or in none, since each is the same piece
pub data Storing : Type 0 where
  buffered : Encoding → Storing
  always : PlainPiece → Storing

-- the states of the definition numbers from 0 on, the layers from the leaf outward, how many of
-- them are lists, and where values stand
pub record ChunkForm : Type 0 where
  pub states : List State
  pub layers : List Layer
  pub lists : ℕ
  pub values : Storing

-- a level is stored where not all its numbers are 0
abbrev pub has_reps : ChunkForm → Bool
has_reps f = ltb 0 f.lists

abbrev pub has_defs : ChunkForm → Bool
has_defs f = ltb 1 (length f.states)

abbrev pub has_buffer : Storing → Bool
has_buffer (buffered e) = true
has_buffer (always p) = false

abbrev pub has_values : ChunkForm → Bool
has_values f = has_buffer f.values

-- how values in a buffer are encoded
abbrev pub flat_encoding : PlainType ℕ → ℕ → Encoding
flat_encoding (primitive kind.Bool) bits = bools
flat_encoding ty bits = flat (bits / 8)

abbrev pub storing : PlainType ℕ → ValueKind → Storing
storing ty (stored.Flat bits) = buffered (flat_encoding ty bits)
storing ty stored.Variable = buffered variable
storing ty (stored.Constant b) = always (own_piece ty b)

abbrev pub chunk_form_for : List ℕ → List Layer → Storing → ChunkForm
chunk_form_for codes layers s = record { states = states_of codes; layers = layers; lists = lists_in layers; values = s }

abbrev pub chunk_form_of : Shape → ChunkForm
chunk_form_of s = chunk_form_for s.codes.now s.leaf.now.layers (storing (plain_type s.leaf.now.ty) s.values.now)

-- the form of a leaf's chunks, with the writer's codes
abbrev pub leaf_chunk_form : PlainLeaf → ChunkForm
leaf_chunk_form l = chunk_form_for (map layer_code l.layers) l.layers (storing l.ty (kind_of l.ty))

abbrev pub written_chunk_form : Leaf → ChunkForm
written_chunk_form l = leaf_chunk_form (plain_leaf l)
