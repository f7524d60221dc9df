-- The buffers of a chunk, one behind the other.
use Rattle.std.proofs.Common.{◌≡◌, ◌∙◌, ℕ, ◌+◌, ◌*◌, ◌/◌, ◌≤◌, Bool, true, false, cond, IsTrue, List, [], length, take, drop, refl, ap, sym, arith}
use Rattle.std.proofs.lemmas.List.{length-drop, length-take-le}
use Rattle.std.specs.Int.{w16}
use Rattle.lan_bytes.specs.Numbers.{numbers_of}
use Rattle.lan_bytes.proofs.NumberLists.{length-numbers_of}
use Rattle.lan_bytes.specs.Padding.{padded}
use Rattle.lan_levels.specs.Chunks.{small_chunks}
use Rattle.lan_levels.specs.ChunkForm.{ChunkForm, has_reps, has_defs, has_values}
use Rattle.lan_levels.specs.ChunkSlots.{header_end, one_if, Buffer, buffer_bytes, buffer_end, buffer_len, IsLevelBuffer, level_numbers}

header_size : (a b c : Bool) → padded (2 * (one_if a + one_if b + one_if c + 1)) ≡ 8
header_size true true true = refl
header_size true true false = refl
header_size true false true = refl
header_size true false false = refl
header_size false true true = refl
header_size false true false = refl
header_size false false true = refl
header_size false false false = refl

pub header_is : (f : ChunkForm) → header_end small_chunks f ≡ 8
header_is f = header_size (has_reps f) (has_defs f) (has_values f)

pub buffer_is : (s t : Bool) (n m a b : ℕ) → s ≡ t → n ≡ m → a ≡ b → ◌≡◌ {A = Buffer} (record { stored = s; number = n; at = a }) (record { stored = t; number = m; at = b })
buffer_is s t n m a b p q r = cc

part_size : (stored : Bool) (len at n : ℕ) (all bs : List ℕ) → bs ≡ cond stored (take len (drop at all)) [] → length bs ≡ 2 * n → cond stored (at + padded len) at ≤ length all → IsTrue stored → len ≡ 2 * n
part_size true len at n all bs e size within t =
    let some : len ≤ length (drop at all) = simp length-drop (omega arith) in
    sym (length-take-le len (drop at all) some) ∙ sym (ap (length {A = ℕ}) e) ∙ size
part_size false len at n all bs e size within t = cc

-- the bytes of a level buffer, which are as many as its slots' numbers have
pub level_buffer : (b : Buffer) (n : ℕ) (all bs : List ℕ) → bs ≡ buffer_bytes small_chunks all b → length bs ≡ 2 * n → buffer_end small_chunks all b ≤ length all → IsLevelBuffer small_chunks n all b
level_buffer b n all bs e size within = record { within = within; size = part_size b.stored (buffer_len small_chunks all b) b.at n all bs e size within }

pub numbers_count : (bs : List ℕ) (n : ℕ) → length bs ≡ 2 * n → length (numbers_of w16 bs) ≡ n
numbers_count bs n e = let half : length bs / 2 ≡ n = omega arith in length-numbers_of w16 bs ∙ half

pub stored_numbers : (stored : Bool) (n : ℕ) (bs part : List ℕ) → stored ≡ true → bs ≡ part → numbers_of w16 bs ≡ level_numbers stored n part
stored_numbers stored n bs part s e = ap (numbers_of w16) e ∙ ap (λ (b : Bool). level_numbers b n part) (sym s)
