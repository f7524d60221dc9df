-- What is written of a footer and of a table's entry is read as it is.
use Rattle.std.proofs.Common.{◌≡◌, refl, ℕ, ◌+◌, ◌*◌, ◌^◌, ◌<◌, length, drop, arith}
use Rattle.std.specs.Prelude.{codes}
use Rattle.std.proofs.lemmas.Nat.{from_le_bytes-to_le_bytes_4, from_le_bytes-to_le_bytes_8}
use Rattle.lan_file.specs.declared.tail.Footer.{Footer}
use Rattle.lan_file.specs.Numbers.{u16_bytes, u32_bytes, u64_bytes}
use Rattle.lan_file.specs.Parts.{footer_in, extent_in}
use Rattle.lan_file.specs.Writing.{entry_text, footer_for}

abbrev pub written_footer : ℕ → ℕ → ℕ → Footer
written_footer columns_at table columns = record { columns_at = columns_at; column_table = table; globals_table = table + 16 * columns; globals = 1; columns = columns; major = 2; minor = 1 }

pub footer_read : (columns_at table columns : ℕ) → columns_at < 2 ^ 64 → table + 16 * columns < 2 ^ 64 → columns < 2 ^ 32 → footer_in (footer_for columns_at table columns) ≡ written_footer columns_at table columns
unfolding footer_in u64_bytes u32_bytes u16_bytes
footer_read columns_at table columns first second few =
    let a = from_le_bytes-to_le_bytes_8 columns_at first in
    let b = from_le_bytes-to_le_bytes_8 table (omega (arith, second)) in
    let c = from_le_bytes-to_le_bytes_8 (table + 16 * columns) second in
    let d = from_le_bytes-to_le_bytes_4 columns few in
    λ i. record { columns_at = a i; column_table = b i; globals_table = c i; globals = 1; columns = d i; major = 2; minor = 1 }

pub entry_read : (at size : ℕ) → at < 2 ^ 64 → size < 2 ^ 64 → extent_in (entry_text at size) ≡ record { at = at; size = size }
unfolding extent_in u64_bytes
entry_read at size first second =
    let a = from_le_bytes-to_le_bytes_8 at first in
    let b = from_le_bytes-to_le_bytes_8 size second in
    λ i. record { at = a i; size = b i }

pub length-footer_for : (columns_at table columns : ℕ) → length (footer_for columns_at table columns) ≡ 40
unfolding u64_bytes u32_bytes u16_bytes
length-footer_for columns_at table columns = refl

pub length-entry_text : (at size : ℕ) → length (entry_text at size) ≡ 16
unfolding u64_bytes
length-entry_text at size = refl

pub mark_written : (columns_at table columns : ℕ) → drop 36 (footer_for columns_at table columns) ≡ codes "LANC"
unfolding u64_bytes u32_bytes u16_bytes
mark_written columns_at table columns = refl
