-- How the writer cuts slots into pages, and which page has one value for all of its slots.
use Rattle.std.specs.Prelude.{ℕ, zero, ◌^◌, ◌==◌, ◌&&◌, ◌||◌, nat_le, cond, Bool, true, false, List, [], ◌∷◌, ◌++◌, length, sum_by, Option, Some, None}
use Rattle.std.specs.List.{list_all}
use Rattle.std.specs.Str.{bytes_eq}
use Rattle.lan_levels.specs.declared.shape.ValueForm.{ValueForm}
use Rattle.lan_levels.specs.declared.shape.ValueForm.TheVariants as value
use Rattle.lan_levels.specs.declared.slot.State.{State}
use Rattle.lan_levels.specs.declared.slot.State.TheVariants as state
use Rattle.lan_levels.specs.BuiltValues.{digit_of}
use Rattle.lan_levels.specs.PlainSlots.{PlainPiece, nothing, bit, bytes, PlainSlot}
use Rattle.lan_levels.specs.ZipForm.{PlainForm}
use Rattle.lan_levels.specs.ZipSlots.{is_bare}
use Rattle.lan_levels.specs.ZipWritten.{begins}
use Rattle.lan_levels.specs.ZipBuffers.{same_state}

-- ---- where pages end

-- how many bytes a value counts: a bool has one, and where there is no text it has none
abbrev pub value_size : ValueForm → PlainPiece → ℕ
value_size value.Bool piece = 1
value_size (value.Fixed n) piece = n
value_size value.Variable (bytes bs) = length bs
value_size value.Variable piece = 0

-- a bare slot has no value
abbrev pub slot_size : PlainForm → PlainSlot → ℕ
slot_size f s = cond (is_bare f.layers s.state) 0 (value_size f.value s.value)

-- a page of these slots is long enough
unfoldable pub is_full : PlainForm → List PlainSlot → Bool
is_full f page = nat_le 32768 (length page) || nat_le (2 ^ 20) (sum_by (slot_size f) page)

-- the pages of slots, where the first page has some before them: it ends where it is full and a row begins, or with the last slot
unfoldable pub pages_from : PlainForm → List PlainSlot → List PlainSlot → List (List PlainSlot)
pages_from f page [] = page ∷ []
pages_from f page (s ∷ slots) = cond (begins f.lists s && is_full f page) (page ∷ pages_from f (s ∷ []) slots) (pages_from f (page ++ s ∷ []) slots)

-- the slots of each page
abbrev pub cut_pages : PlainForm → List PlainSlot → List (List PlainSlot)
cut_pages f [] = []
cut_pages f (s ∷ slots) = pages_from f (s ∷ []) slots

-- ---- one value for all

-- the bytes of a value by itself: a bool has one, which is 0 for false
abbrev pub own_bytes : PlainPiece → List ℕ
own_bytes nothing = []
own_bytes (bit b) = digit_of b ∷ []
own_bytes (bytes bs) = bs

-- all slots of a page may be such a one: the leaf's null, or a present value of at most 256 bytes
abbrev pub may_be_all : State → PlainPiece → Bool
may_be_all state.Here piece = nat_le (length (own_bytes piece)) 256
may_be_all (state.Null zero) piece = true
may_be_all s piece = false

abbrev pub same_slot : PlainSlot → PlainSlot → Bool
same_slot s t = same_state s.state t.state && bytes_eq (own_bytes s.value) (own_bytes t.value)

-- the value that all slots have, none where each is null
abbrev pub value_of_all : State → PlainPiece → Option (List ℕ)
value_of_all state.Here piece = Some (own_bytes piece)
value_of_all s piece = None

-- what a page of slots without list layers has for all of them, where they are all the same
unfoldable pub constant_of : PlainForm → List PlainSlot → Option (Option (List ℕ))
constant_of f [] = None
constant_of f (s ∷ slots) = cond (f.lists == 0 && may_be_all s.state s.value && list_all (same_slot s) slots) (Some (value_of_all s.state s.value)) None
