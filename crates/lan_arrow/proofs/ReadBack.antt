-- The file that is written stands for its rows.
use Rattle.std.proofs.Common.{◌≡◌, ℕ, suc, ◌+◌, ◌-◌, ◌*◌, ◌<◌, ◌^◌, List, [], ◌∷◌, ◌++◌, length, get_or, refl, ap, sym, ◌∙◌, subst, arith, drop, take, replicate, lit≤, lit<, append_assoc, length-append, nat_eq}
use Rattle.std.proofs.lemmas.List.{length-replicate, get_or_default}
use Rattle.std.proofs.lemmas.List.Sorted.{IsPermutation-refl}
use Rattle.std.proofs.lemmas.Map.Keys.{IsDistinct-from_apart}
use Rattle.std.proofs.lemmas.Nat.{from_le_bytes-to_le_bytes_4}
use Rattle.std.proofs.lemmas.Bool.Decides.{nat_tests}
use Rattle.std.specs.Int.{from_le_bytes, w32}
use Rattle.std.specs.List.{flat_map}
use Rattle.std.specs.List.Sorted.{IsPermutation, IsStrictlyIncreasing}
use Rattle.lan_bytes.specs.Numbers.{low_first}
use Rattle.lan_arrow.specs.Flat.{four_at}
use Rattle.lan_arrow.specs.Kept.{IsSpread, AreBelow}
use Rattle.lan_arrow.specs.Footer.{IsFooter, block_count}
use Rattle.lan_arrow.specs.Batches.{BlockLies, IsBlock, AreBatches, IsMessage, message_at, offset_at, numbers, rows_in, rows_from, rows_after, block_rows, block_from, block_many}
use Rattle.lan_arrow.specs.Deletions.{magic, part, footer_length, footer_of, IsFramed, all_rows, AreRows, DeletionsOf}
use Rattle.lan_arrow.specs.Written.{head_of, body_of, tail_of, written, body_length, schema, front, batch, node, buffers, footer, back}
use Rattle.lan_arrow.proofs.Spread.{spread}
use Rattle.lan_arrow.proofs.WrittenFooter.{footer_bytes, footer_stands, footer_count, footer_offset, footer_head, footer_body}
use Rattle.lan_arrow.proofs.WrittenMessage.{message_bytes, message_stands, message_rows, message_from}

-- bytes behind a prefix
drop_past : (pre xs : List ℕ) (j : ℕ) → drop (length pre + j) (pre ++ xs) ≡ drop j xs
drop_past [] xs j = ap (λ (k : ℕ). drop k xs) (omega arith)
drop_past (p ∷ ps) xs j =
    let e : suc (length ps) + j ≡ suc (length ps + j) = omega arith in
    ap (λ (k : ℕ). drop k (p ∷ (ps ++ xs))) e ∙ drop_past ps xs j

past : (pre xs : List ℕ) (at j : ℕ) → at ≡ length pre + j → drop at (pre ++ xs) ≡ drop j xs
past pre xs at j e = ap (λ (i : ℕ). drop i (pre ++ xs)) e ∙ drop_past pre xs j

part_past : (pre xs : List ℕ) (at j k : ℕ) → at ≡ length pre + j → part (pre ++ xs) at k ≡ part xs j k
part_past pre xs at j k e = ap (λ (ys : List ℕ). take k ys) (past pre xs at j e)

abbrev spelled : List ℕ → List ℕ
spelled rows = flat_map (λ row. low_first 4 row) rows

length_spelled : (rows : List ℕ) → length (spelled rows) ≡ 4 * length rows
length_spelled [] = refl
length_spelled (x ∷ xs) = let h = length_spelled xs in omega arith

abbrev padding : ℕ → List ℕ
padding n = replicate (body_length n - 4 * n) 0

length_body : (rows : List ℕ) → length (body_of rows) ≡ body_length (length rows)
length_body rows =
    let a = length_spelled rows in
    let b : length (padding (length rows)) ≡ body_length (length rows) - 4 * length rows = length-replicate _ 0 in
    let c : length (body_of rows) ≡ length (spelled rows) + length (padding (length rows)) = length-append (spelled rows) (padding (length rows)) in
    omega arith

-- numbers of four bytes are read back
numbers_read : (rows pre post : List ℕ) (at : ℕ) → at ≡ length pre → ((i : ℕ) → i < length rows → get_or rows i 0 < 2 ^ 32)
    → numbers (pre ++ (spelled rows ++ post)) at (length rows) ≡ rows
unfolding four_at
numbers_read [] pre post at e small = refl
numbers_read (x ∷ xs) pre post at e small =
    let first : drop at (pre ++ (spelled (x ∷ xs) ++ post)) ≡ spelled (x ∷ xs) ++ post
    = past pre (spelled (x ∷ xs) ++ post) at 0 (omega arith) in
    let value : four_at (pre ++ (spelled (x ∷ xs) ++ post)) at ≡ x
    = ap (λ (bs : List ℕ). from_le_bytes w32 bs) first ∙ from_le_bytes-to_le_bytes_4 x (small 0 (omega arith)) in
    let longer : length (pre ++ low_first 4 x) ≡ length pre + 4 = length-append pre (low_first 4 x) in
    let rest : numbers ((pre ++ low_first 4 x) ++ (spelled xs ++ post)) (at + 4) (length xs) ≡ xs
    = numbers_read xs (pre ++ low_first 4 x) post (at + 4) (omega arith) (λ i h. small (suc i) (omega arith)) in
    let same : (pre ++ low_first 4 x) ++ (spelled xs ++ post) ≡ pre ++ (spelled (x ∷ xs) ++ post) = rw append_assoc in
    let moved : numbers (pre ++ (spelled (x ∷ xs) ++ post)) (at + 4) (length xs) ≡ xs
    = ap (λ (bs : List ℕ). numbers bs (at + 4) (length xs)) (sym same) ∙ rest in
    ap (λ (y : ℕ). y ∷ numbers (pre ++ (spelled (x ∷ xs) ++ post)) (at + 4) (length xs)) value
    ∙ ap (λ (ys : List ℕ). x ∷ ys) moved

-- the parts' lengths
length_head : (n : ℕ) → length (head_of n) ≡ 272
unfolding schema front batch node buffers
length_head n = refl

length_tail : (n : ℕ) → length (tail_of n) ≡ 174
unfolding schema footer back
length_tail n = refl

length_front : (rows : List ℕ) → length (head_of (length rows) ++ body_of rows) ≡ 272 + body_length (length rows)
length_front rows =
    let a = length_head (length rows) in
    let b = length_body rows in
    let c : length (head_of (length rows) ++ body_of rows) ≡ length (head_of (length rows)) + length (body_of rows)
    = length-append (head_of (length rows)) (body_of rows) in
    omega arith

length_file : (rows : List ℕ) → length (written rows) ≡ 446 + body_length (length rows)
length_file rows =
    let a = length_front rows in
    let b = length_tail (length rows) in
    let c : length (written rows) ≡ length (head_of (length rows) ++ body_of rows) + length (tail_of (length rows))
    = length-append (head_of (length rows) ++ body_of rows) (tail_of (length rows)) in
    omega arith

-- what lies in the tail
drop_tail : (rows : List ℕ) (at j : ℕ) → at ≡ 272 + body_length (length rows) + j → drop at (written rows) ≡ drop j (tail_of (length rows))
drop_tail rows at j e =
    let a = length_front rows in
    past (head_of (length rows) ++ body_of rows) (tail_of (length rows)) at j (omega arith)

part_tail : (rows : List ℕ) (at j k : ℕ) → at ≡ 272 + body_length (length rows) + j → part (written rows) at k ≡ part (tail_of (length rows)) j k
part_tail rows at j k e = ap (λ (bs : List ℕ). take k bs) (drop_tail rows at j e)

footer_long : (rows : List ℕ) → footer_length (written rows) ≡ 156
unfolding footer_length four_at schema footer back
footer_long rows =
    let a = length_file rows in
    ap (λ (bs : List ℕ). from_le_bytes w32 bs) (drop_tail rows (length (written rows) - 10) 164 (omega arith))

footer_is : (rows : List ℕ) → footer_of (written rows) ≡ footer_bytes (length rows)
unfolding footer_of
footer_is rows =
    let a = length_file rows in
    ap (λ (l : ℕ). part (written rows) (length (written rows) - 10 - l) l) (footer_long rows)
    ∙ part_tail rows (length (written rows) - 10 - 156) 8 156 (omega arith)

front_is : (rows : List ℕ) → part (written rows) 0 6 ≡ magic
unfolding schema front batch node buffers
front_is rows = refl

back_is : (rows : List ℕ) → part (written rows) (length (written rows) - 6) 6 ≡ magic
unfolding schema footer back
back_is rows =
    let a = length_file rows in
    part_tail rows (length (written rows) - 6) 168 6 (omega arith)

framed : (rows : List ℕ) → IsFramed (written rows)
framed rows =
    let a = length_file rows in
    let b = footer_long rows in
    record {
      long = omega arith;
      magic = record { front = front_is rows; back = back_is rows };
      room = record { signed = omega arith; room = omega arith };
    }

-- the batch's message
marker_is : (rows : List ℕ) → four_at (written rows) 136 ≡ 2 ^ 32 - 1
unfolding schema front batch node buffers four_at
marker_is rows = refl

metadata_is : (rows : List ℕ) → four_at (written rows) (136 + 4) ≡ 128
unfolding schema front batch node buffers four_at
metadata_is rows = refl

message_is : (rows : List ℕ) → message_at (written rows) 136 ≡ message_bytes (length rows)
unfolding schema front batch node buffers four_at message_at
message_is rows = refl

block_lies : (rows : List ℕ) → BlockLies (written rows) 136 136 (body_length (length rows))
block_lies rows =
    let a = length_file rows in
    let b = metadata_is rows in
    record { signed = lit< tt; long = lit≤ tt; fits = omega arith; marker = marker_is rows; metadata = omega arith }

lies_as : (file : List ℕ) (o h b o' h' b' : ℕ) → o' ≡ o → h' ≡ h → b' ≡ b → BlockLies file o h b → BlockLies file o' h' b'
lies_as file o h b o' h' b' eo eh eb s =
    subst (λ (x : ℕ). BlockLies file x h' b') (sym eo)
    (subst (λ (y : ℕ). BlockLies file o y b') (sym eh) (subst (λ (z : ℕ). BlockLies file o h z) (sym eb) s))

message_as : (file : List ℕ) (o b o' b' : ℕ) → o' ≡ o → b' ≡ b → IsMessage (message_at file o) b → IsMessage (message_at file o') b'
message_as file o b o' b' eo eb s =
    subst (λ (x : ℕ). IsMessage (message_at file x) b') (sym eo) (subst (λ (z : ℕ). IsMessage (message_at file o) z) (sym eb) s)

first_stands : (rows : List ℕ) → 8 * length rows < 2 ^ 62 → IsBlock (written rows) (footer_bytes (length rows)) 0
first_stands rows h =
    let o = footer_offset (length rows) in
    let b = footer_body (length rows) (omega arith) in
    let m = subst (λ (m : List ℕ). IsMessage m (body_length (length rows))) (sym (message_is rows)) (message_stands (length rows) (omega arith)) in
    record {
      lies = lies_as (written rows) 136 136 (body_length (length rows)) _ _ _ o (footer_head (length rows)) b (block_lies rows);
      message = message_as (written rows) 136 (body_length (length rows)) _ _ o b m;
    }

blocks_stand : (rows : List ℕ) → 8 * length rows < 2 ^ 62
    → AreBatches (written rows) (footer_bytes (length rows)) (block_count (footer_bytes (length rows)))
blocks_stand rows h i l =
    let one = footer_count (length rows) in
    let none : 0 ≡ i = omega arith in
    subst (λ (k : ℕ). IsBlock (written rows) (footer_bytes (length rows)) k) none (first_stands rows h)

-- the rows
from_is : (rows : List ℕ) → block_from (written rows) (footer_bytes (length rows)) 0 ≡ 272
from_is rows =
    let o = footer_offset (length rows) in
    let t = footer_head (length rows) in
    let m : rows_from (message_at (written rows) (offset_at (footer_bytes (length rows)) 0)) ≡ 0
    = ap (λ (k : ℕ). rows_from (message_at (written rows) k)) o ∙ ap (λ (bs : List ℕ). rows_from bs) (message_is rows) ∙ message_from (length rows) in
    omega arith

many_is : (rows : List ℕ) → length rows < 2 ^ 64 → block_many (written rows) (footer_bytes (length rows)) 0 ≡ length rows
many_is rows h =
    ap (λ (k : ℕ). rows_in (message_at (written rows) k)) (footer_offset (length rows))
    ∙ ap (λ (bs : List ℕ). rows_in bs) (message_is rows) ∙ message_rows (length rows) h

apart : (h s p t : List ℕ) → h ++ (s ++ (p ++ t)) ≡ (h ++ (s ++ p)) ++ t
apart h s p t = sym (simp append_assoc)

append_nil : (xs : List ℕ) → xs ++ [] ≡ xs
append_nil [] = refl
append_nil (x ∷ xs) = ap (λ (ys : List ℕ). x ∷ ys) (append_nil xs)

parts_are : (rows : List ℕ) → head_of (length rows) ++ (spelled rows ++ (padding (length rows) ++ tail_of (length rows))) ≡ written rows
parts_are rows = apart (head_of (length rows)) (spelled rows) (padding (length rows)) (tail_of (length rows))

read_rows : (rows : List ℕ) → ((i : ℕ) → i < length rows → get_or rows i 0 < 2 ^ 32) → numbers (written rows) 272 (length rows) ≡ rows
read_rows rows small =
    ap (λ (bs : List ℕ). numbers bs 272 (length rows)) (sym (parts_are rows))
    ∙ numbers_read rows (head_of (length rows)) (padding (length rows) ++ tail_of (length rows)) 272 (sym (length_head (length rows))) small

all_are : (rows : List ℕ) → 8 * length rows < 2 ^ 62 → ((i : ℕ) → i < length rows → get_or rows i 0 < 2 ^ 32) → all_rows (written rows) ≡ rows
all_are rows h small =
    let a : all_rows (written rows) ≡ rows_after (written rows) (footer_bytes (length rows)) 0 (block_count (footer_bytes (length rows)))
    = ap (λ (f : List ℕ). rows_after (written rows) f 0 (block_count f)) (footer_is rows) in
    let b : rows_after (written rows) (footer_bytes (length rows)) 0 (block_count (footer_bytes (length rows)))
    ≡ block_rows (written rows) (footer_bytes (length rows)) 0 ++ []
    = ap (λ (k : ℕ). rows_after (written rows) (footer_bytes (length rows)) 0 k) (footer_count (length rows)) in
    let c : block_rows (written rows) (footer_bytes (length rows)) 0 ++ [] ≡ block_rows (written rows) (footer_bytes (length rows)) 0
    = append_nil (block_rows (written rows) (footer_bytes (length rows)) 0) in
    let d : block_rows (written rows) (footer_bytes (length rows)) 0 ≡ numbers (written rows) 272 (block_many (written rows) (footer_bytes (length rows)) 0)
    = ap (λ (k : ℕ). numbers (written rows) k (block_many (written rows) (footer_bytes (length rows)) 0)) (from_is rows) in
    let e : numbers (written rows) 272 (block_many (written rows) (footer_bytes (length rows)) 0) ≡ numbers (written rows) 272 (length rows)
    = ap (λ (k : ℕ). numbers (written rows) 272 k) (many_is rows (omega arith)) in
    a ∙ b ∙ c ∙ d ∙ e ∙ read_rows rows small

rows_right : (physical : ℕ) (rows : List ℕ) → IsSpread rows → AreBelow physical rows → AreRows physical rows
rows_right physical rows up below = record {
  below = λ k d l. let e = get_or_default rows k d 0 l in let h = below k l in omega arith;
  distinct = IsDistinct-from_apart nat_eq rows (λ i j d h l.
      let e = get_or_default rows i d 0 (omega arith) in
      let f = get_or_default rows j d 0 l in
      let g = up i j (omega arith) l in
      grind (arith, nat_tests));
}

-- what is written stands for its rows
pub read_back : (physical : ℕ) (rows : List ℕ) → IsStrictlyIncreasing rows → 0 < length rows
    → ((i : ℕ) → i < length rows → get_or rows i 0 < 2 ^ 32) → AreBelow physical rows
    → DeletionsOf (written rows) physical (length rows) rows
read_back physical rows up some small below =
    let apart = spread rows up in
    let top = small (length rows - 1) (omega arith) in
    let wide = apart 0 (length rows - 1) (omega arith) (omega arith) in
    let h : 8 * length rows < 2 ^ 62 = omega arith in
    let all = all_are rows h small in
    record {
      stands = record {
        framed = framed rows;
        footer = subst (λ (f : List ℕ). IsFooter f) (sym (footer_is rows)) (footer_stands (length rows));
        batches = subst (λ (f : List ℕ). AreBatches (written rows) f (block_count f)) (sym (footer_is rows)) (blocks_stand rows h);
      };
      rows = subst (λ (xs : List ℕ). AreRows physical xs) (sym all) (rows_right physical rows apart below);
      many = ap (λ (xs : List ℕ). length xs) all;
      rising = up;
      same = subst (λ (xs : List ℕ). IsPermutation xs rows) (sym all) (IsPermutation-refl rows);
    }
