-- How the writer spells an item of a message.
use Rattle.std.specs.Prelude.{ℕ, zero, suc, ◌+◌, ◌*◌, ◌-◌, ◌/◌, ◌%◌, ◌^◌, List, [], ◌∷◌, ◌++◌, length, cond, nat_lt, flat_map, ℤ, pos, negsuc}

-- 7 bits per byte, the lowest group first, in at most so many bytes and one
unfoldable pub varint_within : ℕ → ℕ → List ℕ
varint_within zero n = n ∷ []
varint_within (suc more) n = cond (nat_lt n 128) (n ∷ []) ((n % 128 + 128) ∷ varint_within more (n / 128))

-- the varint of a number below 2^64
unfoldable pub varint : ℕ → List ℕ
varint n = varint_within 9 n

-- a field's number and its wire type as one varint
abbrev pub key : ℕ → ℕ → List ℕ
key number wire = varint (number * 8 + wire)

-- a number under its key
abbrev pub num_item : ℕ → ℕ → List ℕ
num_item number value = key number 0 ++ varint value

-- bytes under their key, behind their length
abbrev pub part_item : ℕ → List ℕ → List ℕ
part_item number bytes = key number 2 ++ (varint (length bytes) ++ bytes)

-- a number that is left out where it is zero
abbrev pub num_field : ℕ → ℕ → List ℕ
num_field number zero = []
num_field number (suc n) = num_item number (suc n)

-- bytes that are left out where there are none
abbrev pub part_field : ℕ → List ℕ → List ℕ
part_field number [] = []
part_field number (b ∷ bs) = part_item number (b ∷ bs)

-- a signed number as the 64 bits of its two's complement
abbrev pub two_complement : ℤ → ℕ
two_complement (pos n) = n
two_complement (negsuc n) = 2 ^ 64 - 1 - n

-- numbers in one part, which is left out where there are none
abbrev pub packed_field : ℕ → List ℕ → List ℕ
packed_field number [] = []
packed_field number (v ∷ vs) = part_item number (flat_map varint (v ∷ vs))
