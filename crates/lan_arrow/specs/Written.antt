-- The Arrow file that is written for deleted rows: constant bytes, and between them the numbers of the rows and of their
-- bytes. The constants are given as hexadecimal text.
use Rattle.std.specs.Prelude.{ℕ, ◌+◌, ◌-◌, ◌*◌, List, [], ◌∷◌, ◌++◌, length, replicate, drop, codes, nat_lt, if◌then◌else◌}
use Rattle.std.specs.List.{flat_map}
use Rattle.lan_bytes.specs.Numbers.{low_first}
use Rattle.lan_bytes.specs.Padding.{padded}

-- the value of a hexadecimal digit
abbrev pub digit : ℕ → ℕ
digit c = if nat_lt c 58 then c - 48 else c - 87

-- the bytes that a hexadecimal text writes
abbrev pub hex : List ℕ → List ℕ
hex (a ∷ b ∷ rest) = (digit a * 16 + digit b) ∷ hex rest
hex _ = []

-- the tables of the schema: little-endian, one field row_id of unsigned 32 bits, not nullable, no children
unfoldable pub schema : List ℕ
schema =
    hex (codes "100000000c000c0008000a00040000000c0000001000000004000100")
    ++ hex (codes "080008000000040008000000040000000100000014000000")
    ++ hex (codes "10001400040000001000080000000c001000000010000000240000001400000002000000")
    ++ hex (codes "06000000726f775f6964000000000000080008000400000008000000")
    ++ hex (codes "20000000")

-- the front: the magic, the schema's message, and the batch's message up to its body's length
unfoldable pub front : List ℕ
front =
    hex (codes "4152524f57310000") ++ hex (codes "ffffffff78000000") ++ schema ++ hex (codes "ffffffff80000000")
    ++ hex (codes "100000000c00140010001200040008000c0000001c000000")

-- the message's table up to the number of rows, and between the two numbers of rows
unfoldable pub batch : List ℕ
batch = hex (codes "040003000a00140008000400100000000c00000010000000")

unfoldable pub node : List ℕ
node = hex (codes "1c00000001000000")

-- the null count, and the buffers up to the length of the second
unfoldable pub buffers : List ℕ
buffers = hex (codes "00000000000000000000000002000000000000000000000000000000000000000000000000000000")

-- the end of the messages, and the footer up to the body's length
unfoldable pub footer : List ℕ
footer =
    hex (codes "ffffffff00000000")
    ++ hex (codes "100000000c0010000c000400000008000c000000340000000c00000004000000")
    ++ hex (codes "000000000100000088000000000000008800000000000000")

-- the rest of the footer, which repeats the schema's tables, its length, and the magic
unfoldable pub back : List ℕ
back = drop 28 schema ++ hex (codes "9c0000004152524f5731")

-- how many bytes the body has: four a row, padded to a multiple of eight
abbrev pub body_length : ℕ → ℕ
body_length n = padded (4 * n)

-- the numbers in the message: the body's length, the rows twice, their bytes
abbrev pub head_of : ℕ → List ℕ
head_of n =
    front ++ low_first 8 (body_length n) ++ batch ++ low_first 8 n ++ node ++ low_first 8 n ++ buffers
    ++ low_first 8 (4 * n)

abbrev pub body_of : List ℕ → List ℕ
body_of rows = flat_map (λ row. low_first 4 row) rows ++ replicate (body_length (length rows) - 4 * length rows) 0

abbrev pub tail_of : ℕ → List ℕ
tail_of n = footer ++ low_first 8 (body_length n) ++ back

-- the whole file of these rows
abbrev pub written : List ℕ → List ℕ
written rows = head_of (length rows) ++ body_of rows ++ tail_of (length rows)
