-- Slots of a leaf that can be slots of a chunk.
use Rattle.std.proofs.Common.{◌≡◌, ℕ, ◌*◌, ◌/◌, List, All, get_or, sym, subst}
use Rattle.lan_model.specs.declared.tree.Primitive.TheVariants as kind
use Rattle.lan_model.specs.Plain.{PlainType, primitive, vector, text, bytes, list, struct}
use Rattle.lan_model.specs.Fits.{width}
use Rattle.lan_model.specs.Leaves.{PlainLeaf}
use Rattle.lan_levels.specs.declared.shape.ValueForm.TheVariants as value
use Rattle.lan_levels.specs.declared.slot.State.{State}
use Rattle.lan_levels.specs.declared.slot.State.TheVariants as state
use Rattle.lan_levels.specs.PlainSlots as plain
use Rattle.lan_levels.specs.PlainSlots.{PlainPiece, PlainSlot}
use Rattle.lan_levels.specs.Values.{flat, bools, variable}
use Rattle.lan_levels.specs.ZipForm.{kind_of, value_form, leaf_form}
use Rattle.lan_levels.specs.ZipWritten.{FitsForm, CanStand}
use Rattle.lan_levels.specs.ChunkForm.{ChunkForm, buffered, storing, leaf_chunk_form}
use Rattle.lan_levels.specs.MiniWritten.{IsShort}
use Rattle.lan_mini.specs.Building.{CanChunk, FitsStoring}

fits_bool : (s : State) (v : PlainPiece) → FitsForm value.Bool s v → FitsStoring (buffered bools) s v
fits_bool state.Here plain.nothing h = absurd h
fits_bool state.Here (plain.bit b) h = h
fits_bool state.Here (plain.bytes bs) h = absurd h
fits_bool (state.Null k) plain.nothing h = h
fits_bool (state.Null k) (plain.bit b) h = absurd h
fits_bool (state.Null k) (plain.bytes bs) h = absurd h
fits_bool (state.Empty k) plain.nothing h = h
fits_bool (state.Empty k) (plain.bit b) h = absurd h
fits_bool (state.Empty k) (plain.bytes bs) h = absurd h

fits_fixed : (n : ℕ) (s : State) (v : PlainPiece) → FitsForm (value.Fixed n) s v → FitsStoring (buffered (flat n)) s v
fits_fixed n state.Here plain.nothing h = absurd h
fits_fixed n state.Here (plain.bit b) h = absurd h
fits_fixed n state.Here (plain.bytes bs) h = h
fits_fixed n (state.Null k) plain.nothing h = h
fits_fixed n (state.Null k) (plain.bit b) h = absurd h
fits_fixed n (state.Null k) (plain.bytes bs) h = absurd h
fits_fixed n (state.Empty k) plain.nothing h = h
fits_fixed n (state.Empty k) (plain.bit b) h = absurd h
fits_fixed n (state.Empty k) (plain.bytes bs) h = absurd h

fits_variable : (s : State) (v : PlainPiece) → FitsForm value.Variable s v → FitsStoring (buffered variable) s v
fits_variable state.Here plain.nothing h = absurd h
fits_variable state.Here (plain.bit b) h = absurd h
fits_variable state.Here (plain.bytes bs) h = tt
fits_variable (state.Null k) plain.nothing h = h
fits_variable (state.Null k) (plain.bit b) h = absurd h
fits_variable (state.Null k) (plain.bytes bs) h = absurd h
fits_variable (state.Empty k) plain.nothing h = h
fits_variable (state.Empty k) (plain.bit b) h = absurd h
fits_variable (state.Empty k) (plain.bytes bs) h = absurd h

fits_storing : (ty : PlainType ℕ) (s : State) (v : PlainPiece) → FitsForm (value_form ty (kind_of ty)) s v → FitsStoring (storing ty (kind_of ty)) s v
fits_storing (primitive kind.Bool) s v h = fits_bool s v h
fits_storing (primitive p) s v h = fits_fixed (width p / 8) s v h
fits_storing (vector p n) s v h = fits_fixed (n * width p / 8) s v h
fits_storing text s v h = fits_variable s v h
fits_storing bytes s v h = fits_variable s v h
fits_storing (list f) s v h = fits_variable s v h
fits_storing (struct fs) s v h = fits_variable s v h

can_chunk : (l : PlainLeaf) (s : PlainSlot) → CanStand (leaf_form l) s → IsShort (leaf_chunk_form l) 4096 s → CanChunk (leaf_chunk_form l) s
can_chunk l s h short = record { rep = h.rep; number = h.number; numbered = h.numbered; value = fits_storing l.ty s.state s.value h.value; short = short }

all_chunk : (l : PlainLeaf) (slots : List PlainSlot) → All (CanStand (leaf_form l)) slots → All (IsShort (leaf_chunk_form l) 4096) slots → All (CanChunk (leaf_chunk_form l)) slots
all_chunk l slots h short = λ k d less. can_chunk l (get_or slots k d) (h k d less) (short k d less)

pub can_chunks : (l : PlainLeaf) (f : ChunkForm) (slots : List PlainSlot) → f ≡ leaf_chunk_form l → All (CanStand (leaf_form l)) slots → All (IsShort (leaf_chunk_form l) 4096) slots → All (CanChunk f) slots
can_chunks l f slots e h short = subst (λ (g : ChunkForm). All (CanChunk g) slots) (sym e) (all_chunk l slots h short)
