-- What the items of a message say under a number.
use Rattle.std.specs.Prelude.{◌≡◌, ℕ, zero, suc, ◌-◌, ◌^◌, Bool, false, cond, nat_eq, nat_lt, filter, map, List, [], ◌∷◌, ◌++◌, length, ℤ, pos, negsuc, Option, Some, None, Result, Ok, Err}
use Rattle.std.specs.Result.{result_unwrap_or, result_ok}
use Rattle.lan_bytes.specs.Placed.{Placed}
use Rattle.lan_wire.specs.declared.item.WireKind.{WireKind}
use Rattle.lan_wire.specs.declared.item.WireFault.{WireFault}
use Rattle.lan_wire.specs.declared.item.Body.{Body}
use Rattle.lan_wire.specs.declared.item.Body.TheVariants.{Num, Eight, Four, Part}
use Rattle.lan_wire.specs.declared.item.Item.{Item}
use Rattle.lan_wire.specs.Readers.{num_of, small_of, signed_of, flag_of, text_of}
use Rattle.lan_wire.specs.Reading.{varint_at, item_at, place_of}
use Rattle.lan_wire.specs.Spells.{Items}

abbrev pub front_numbers : (List ℕ → List ℕ) → Result (ℕ × List ℕ) WireKind → List ℕ
front_numbers others (Ok x) = x.0 ∷ others x.1
front_numbers others (Err kind) = []

-- the varints at the front of bytes, at most so many
unfoldable pub numbers_within : ℕ → List ℕ → List ℕ
numbers_within zero bytes = []
numbers_within (suc more) bytes = front_numbers (numbers_within more) (varint_at bytes)

-- the varints at the front of bytes, as far as they can be read
unfoldable pub numbers_of : List ℕ → List ℕ
numbers_of bytes = numbers_within (length bytes) bytes

abbrev pub front_items : (Placed → List Item) → Placed → Result (Item × List ℕ) WireKind → List Item
front_items others message (Ok x) = x.0 ∷ others (record { base = place_of message.base message.bytes x.1; bytes = x.1 })
front_items others message (Err kind) = []

-- the items at the front of bytes, at most so many
unfoldable pub items_within : ℕ → Placed → List Item
items_within zero message = []
items_within (suc more) message = front_items (items_within more) message (item_at message.base message.bytes)

-- the items at the front of bytes, as far as they can be read
unfoldable pub items_of : Placed → List Item
items_of message = items_within (length message.bytes) message

-- the bytes are items, one after the other
abbrev pub AreItems : Placed → Type 0
AreItems message = Items message.base message.bytes (items_of message)

-- the items of a number, in order
abbrev pub of_number : ℕ → List Item → List Item
of_number number items = filter (λ item. nat_eq item.number number) items

-- the last of the items, or else this one
abbrev pub last_from : Option Item → List Item → Option Item
last_from last [] = last
last_from last (item ∷ items) = last_from (Some item) items

-- the last item of a number
abbrev pub last_under : ℕ → List Item → Option Item
last_under number items = last_from None (of_number number items)

-- what a reader reads, or this where there is nothing to be read
abbrev pub read_or : {A : Type 0} → A → (Item → Result A WireFault) → Option Item → A
read_or default read None = default
read_or default read (Some item) = result_unwrap_or (read item) default

-- the number of 64 bits that is said, or 0
abbrev pub num_under : ℕ → List Item → ℕ
num_under number items = read_or 0 num_of (last_under number items)

-- the number of 32 bits that is said, or 0
abbrev pub small_under : ℕ → List Item → ℕ
small_under number items = read_or 0 small_of (last_under number items)

abbrev pub small_if : Option Item → Option ℕ
small_if None = None
small_if (Some item) = result_ok (small_of item)

-- the number of 32 bits that is said, zero too, if any is
abbrev pub maybe_small_under : ℕ → List Item → Option ℕ
maybe_small_under number items = small_if (last_under number items)

-- the number of 32 bits with a sign that is said, or 0
abbrev pub signed_under : ℕ → List Item → ℤ
signed_under number items = read_or (pos 0) signed_of (last_under number items)

-- the flag that is said, or false
abbrev pub flag_under : ℕ → List Item → Bool
flag_under number items = read_or false flag_of (last_under number items)

-- the text that is said, or the empty one
abbrev pub text_under : ℕ → List Item → List ℕ
text_under number items = read_or [] text_of (last_under number items)

abbrev pub part_of_body : Body → Option Placed
part_of_body (Part part) = Some part
part_of_body (Num n) = None
part_of_body (Eight n) = None
part_of_body (Four n) = None

abbrev pub part_of_item : Option Item → Option Placed
part_of_item None = None
part_of_item (Some item) = part_of_body item.body

-- the bytes or the message that is said, if any is
abbrev pub part_under : ℕ → List Item → Option Placed
part_under number items = part_of_item (last_under number items)

-- under the number stands a message, or bytes, of which this holds
pub record Under {M : Type 0} (number : ℕ) (Holds : Placed → M → Type 0) (items : List Item) (m : M) : Type 0 where
  pub part : Placed
  pub said : part_under number items ≡ Some part
  pub holds : Holds part m

abbrev pub part_before : Body → List Placed → List Placed
part_before (Part part) parts = part ∷ parts
part_before (Num n) parts = parts
part_before (Eight n) parts = parts
part_before (Four n) parts = parts

abbrev pub parts_of : List Item → List Placed
parts_of [] = []
parts_of (item ∷ items) = part_before item.body (parts_of items)

-- the messages that are said, in order
abbrev pub parts_under : ℕ → List Item → List Placed
parts_under number items = parts_of (of_number number items)

abbrev pub numbers_in : Body → List ℕ
numbers_in (Num n) = n ∷ []
numbers_in (Part part) = numbers_of part.bytes
numbers_in (Eight n) = []
numbers_in (Four n) = []

abbrev pub all_numbers : List Item → List ℕ
all_numbers [] = []
all_numbers (item ∷ items) = numbers_in item.body ++ all_numbers items

-- the numbers that are said, in order
abbrev pub nums_under : ℕ → List Item → List ℕ
nums_under number items = all_numbers (of_number number items)

-- the number with a sign that 64 bits stand for, 0 where they stand for none
abbrev pub signed_from : ℕ → ℤ
signed_from n = cond (nat_lt n (2 ^ 31)) (pos n) (cond (nat_lt n (2 ^ 64 - 2 ^ 31)) (pos 0) (negsuc (2 ^ 64 - 1 - n)))

-- the numbers with a sign that are said, in order
abbrev pub signeds_under : ℕ → List Item → List ℤ
signeds_under number items = map signed_from (nums_under number items)
