-- The parts of a file that the writer makes.
use Rattle.std.specs.Prelude.{ℕ, ◌+◌, ◌*◌, ◌-◌, ◌%◌, List, ◌++◌, length, replicate, codes}
use Rattle.lan_file.specs.Numbers.{u16_bytes, u32_bytes, u64_bytes}

-- the bytes with zeros behind them, up to a multiple of 64
abbrev pub aligned : List ℕ → List ℕ
aligned bytes = bytes ++ replicate ((64 - length bytes % 64) % 64) 0

-- a table's entry: where a part lies, and how long it is
abbrev pub entry_text : ℕ → ℕ → List ℕ
entry_text at size = u64_bytes at ++ u64_bytes size

-- the footer of a file of so many columns and one global buffer, whose tables have no gap behind them
abbrev pub footer_for : ℕ → ℕ → ℕ → List ℕ
footer_for columns_at table columns =
    u64_bytes columns_at ++ (u64_bytes table ++ (u64_bytes (table + 16 * columns) ++ (u32_bytes 1 ++ (u32_bytes columns ++ (u16_bytes 2 ++ (u16_bytes 1 ++ codes "LANC"))))))
