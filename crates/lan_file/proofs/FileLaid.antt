-- The parts of a file that is put together of buffers, a descriptor and the messages of columns.
use Rattle.std.proofs.Common.{◌≡◌, refl, sym, ◌∙◌, ap, ℕ, ◌+◌, ◌*◌, ◌-◌, ◌%◌, ◌≤◌, List, [], ◌∷◌, ◌++◌, length, drop, replicate, arith, length-append, append_assoc, add-zero}
use Rattle.std.specs.List.{concat}
use Rattle.std.proofs.Math.Seq.{drop-append_seam}
use Rattle.std.proofs.lemmas.List.{append-nil}
use Rattle.std.proofs.lemmas.List.Folds.{concat-append}
use Rattle.lan_file.specs.FileText.{entries_from, file_with}
use Rattle.lan_file.specs.Parts.{part, tail_of}
use Rattle.lan_file.specs.Writing.{aligned, entry_text, footer_for}
use Rattle.lan_file.proofs.PartLemmas.{part-past, part-front, part-here}
use Rattle.lan_file.proofs.Entries.{length-footer_for, length-entry_text}

-- bytes with more behind them
pub record Grown (before after : List ℕ) : Type 0 where
  pub more : List ℕ
  pub is : after ≡ before ++ more

pub grown_none : (a : List ℕ) → Grown a a
grown_none a = record { more = []; is = sym (append-nil a) }

pub grown_by : (a more : List ℕ) → Grown a (a ++ more)
grown_by a more = record { more = more; is = refl }

pub grown_then : (a b c : List ℕ) → Grown a b → Grown b c → Grown a c
grown_then a b c g h = record {
  more = g.more ++ h.more;
  is = h.is ∙ ap (λ (l : List ℕ). l ++ h.more) g.is ∙ append_assoc a g.more h.more;
}

pub length_grown : (a b : List ℕ) → Grown a b → length a ≤ length b
length_grown a b g = omega (arith, ap length g.is, length-append a g.more)

pub aligned_grown : (a : List ℕ) → Grown a (aligned a)
aligned_grown a = grown_by a (replicate ((64 - length a % 64) % 64) 0)

-- ---- a table of parts that lie one after another

length-entries_from : (at : ℕ) (parts : List (List ℕ)) → length (entries_from at parts) ≡ 16 * length parts
length-entries_from at [] = refl
length-entries_from at (p ∷ parts) =
    length-append (entry_text at (length p)) (entries_from (at + length p) parts) ∙ omega (arith, length-entry_text at (length p), length-entries_from (at + length p) parts)

entries_from-append : (at : ℕ) (xs ys : List (List ℕ)) → entries_from at (xs ++ ys) ≡ entries_from at xs ++ entries_from (at + length (concat xs)) ys
entries_from-append at [] ys = ap (λ (n : ℕ). entries_from n ys) (sym (add-zero at))
entries_from-append at (x ∷ xs) ys =
    let place : at + length x + length (concat xs) ≡ at + length (x ++ concat xs) = omega (arith, length-append x (concat xs)) in
    ap (λ (l : List ℕ). entry_text at (length x) ++ l) (entries_from-append (at + length x) xs ys ∙ ap (λ (n : ℕ). entries_from (at + length x) xs ++ entries_from n ys) place)
    ∙ sym (append_assoc (entry_text at (length x)) (entries_from (at + length x) xs) (entries_from (at + length (x ++ concat xs)) ys))

-- where a message lies, and its entry
pub record MessageLaid (file : List ℕ) (first table number : ℕ) (message : List ℕ) : Type 0 where
  pub at : ℕ
  pub entry : part file (table + 16 * number) 16 ≡ entry_text at (length message)
  pub is : part file at (length message) ≡ message
  pub behind : first ≤ at
  pub before : at + length message ≤ table

-- the parts of the file
pub record FileLaid (file buffers descriptor : List ℕ) (messages : List (List ℕ)) : Type 0 where
  pub first : ℕ
  pub table : ℕ
  pub descriptor_at : ℕ
  pub grown : Grown buffers file
  pub ordered : first ≤ table
  pub buffers_before : length buffers ≤ first
  pub long : length file ≡ table + 16 * length messages + 56
  pub tail : tail_of file ≡ footer_for first table (length messages)
  pub descriptor_entry : part file (table + 16 * length messages) 16 ≡ entry_text descriptor_at (length descriptor)
  pub descriptor_is : part file descriptor_at (length descriptor) ≡ descriptor
  pub descriptor_before : descriptor_at + length descriptor ≡ first
  pub message : (before after : List (List ℕ)) (m : List ℕ) → messages ≡ before ++ m ∷ after → MessageLaid file first table (length before) m

message_laid : (front all table rest : List ℕ) (messages before after : List (List ℕ)) (m : List ℕ) → messages ≡ before ++ m ∷ after → all ≡ concat messages → table ≡ entries_from (length front) messages
    → MessageLaid (front ++ (all ++ (table ++ rest))) (length front) (length front + length all) (length before) m
message_laid front all table rest messages before after m is all_is table_is =
    let at = length front + length (concat before) in
    let more = concat after in
    let parts : all ≡ concat before ++ (m ++ more) = all_is ∙ ap concat is ∙ concat-append before (m ∷ after) in
    let entry = entry_text at (length m) in
    let entries : table ≡ entries_from (length front) before ++ (entry ++ entries_from (at + length m) after) = table_is ∙ ap (entries_from (length front)) is ∙ entries_from-append (length front) before (m ∷ after) in
    let size : length all ≡ length (concat before) + (length m + length more) =
    ap length parts ∙ length-append (concat before) (m ++ more) ∙ ap (λ (n : ℕ). length (concat before) + n) (length-append m more) in
    let behind_all : part (front ++ (all ++ (table ++ rest))) (length front + length all + 16 * length before) 16 ≡ part (table ++ rest) (16 * length before) 16 =
    part-past front (all ++ (table ++ rest)) (length front + length all + 16 * length before) (length all + 16 * length before) 16 (omega arith) ∙ part-past all (table ++ rest) (length all + 16 * length before) (16 * length before) 16 refl in
    let whole : table ++ rest ≡ entries_from (length front) before ++ (entry ++ (entries_from (at + length m) after ++ rest)) =
    ap (λ (l : List ℕ). l ++ rest) entries ∙ append_assoc (entries_from (length front) before) (entry ++ entries_from (at + length m) after) rest ∙ ap (λ (l : List ℕ). entries_from (length front) before ++ l) (append_assoc entry (entries_from (at + length m) after) rest) in
    let bytes : all ++ (table ++ rest) ≡ concat before ++ (m ++ (more ++ (table ++ rest))) =
    ap (λ (l : List ℕ). l ++ (table ++ rest)) parts ∙ append_assoc (concat before) (m ++ more) (table ++ rest) ∙ ap (λ (l : List ℕ). concat before ++ l) (append_assoc m more (table ++ rest)) in
    record {
      at = at;
      entry =
          behind_all
          ∙ ap (λ (l : List ℕ). part l (16 * length before) 16) whole
          ∙ part-here (entries_from (length front) before) entry (entries_from (at + length m) after ++ rest) (16 * length before) 16 (sym (length-entries_from (length front) before)) (sym (length-entry_text at (length m)));
      is =
          part-past front (all ++ (table ++ rest)) at (length (concat before)) (length m) refl
          ∙ ap (λ (l : List ℕ). part l (length (concat before)) (length m)) bytes
          ∙ part-here (concat before) m (more ++ (table ++ rest)) (length (concat before)) (length m) refl refl;
      behind = omega arith;
      before = omega (arith, size);
    }

pub file_laid : (buffers descriptor : List ℕ) (messages : List (List ℕ)) → FileLaid (file_with buffers descriptor messages) buffers descriptor messages
file_laid buffers descriptor messages =
    let pages = aligned buffers in
    let front : List ℕ = pages ++ descriptor in
    let all : List ℕ = concat messages in
    let columns : List ℕ = entries_from (length front) messages in
    let global = entry_text (length pages) (length descriptor) in
    let table = length front + length all in
    let foot = footer_for (length front) table (length messages) in
    let rest : List ℕ = global ++ foot in
    let file : List ℕ = front ++ (all ++ (columns ++ rest)) in
    let size_1 : length columns ≡ 16 * length messages = length-entries_from (length front) messages in
    let size_2 : length global ≡ 16 = length-entry_text (length pages) (length descriptor) in
    let size_3 : length foot ≡ 40 = length-footer_for (length front) table (length messages) in
    let size_4 : length rest ≡ 56 = length-append global foot ∙ omega (arith, size_2, size_3) in
    let size_5 : length (columns ++ rest) ≡ 16 * length messages + 56 = length-append columns rest ∙ omega (arith, size_1, size_4) in
    let size_6 : length (all ++ (columns ++ rest)) ≡ length all + 16 * length messages + 56 = length-append all (columns ++ rest) ∙ omega (arith, size_5) in
    let long : length file ≡ table + 16 * length messages + 56 = length-append front (all ++ (columns ++ rest)) ∙ omega (arith, size_6) in
    let lead : List ℕ = ((front ++ all) ++ columns) ++ global in
    let lead_size : length lead ≡ table + 16 * length messages + 16 = length-append ((front ++ all) ++ columns) global ∙ omega (arith, length-append (front ++ all) columns, length-append front all, size_1, size_2) in
    let apart : file ≡ lead ++ foot = sym (append_assoc ((front ++ all) ++ columns) global foot ∙ append_assoc (front ++ all) columns (global ++ foot) ∙ append_assoc front all (columns ++ (global ++ foot))) in
    let end : length file - 40 ≡ length lead = omega (arith, long, lead_size) in
    let before_all : file ≡ pages ++ (descriptor ++ (all ++ (columns ++ rest))) = append_assoc pages descriptor (all ++ (columns ++ rest)) in
    record {
      first = length front;
      table = table;
      descriptor_at = length pages;
      grown = grown_then buffers pages file (aligned_grown buffers) (record { more = descriptor ++ (all ++ (columns ++ rest)); is = before_all });
      ordered = omega arith;
      buffers_before = omega (arith, length_grown buffers pages (aligned_grown buffers), length-append pages descriptor);
      long = long;
      tail = ap (λ (n : ℕ). drop n file) end ∙ ap (drop (length lead)) apart ∙ drop-append_seam lead foot;
      descriptor_entry =
          part-past front (all ++ (columns ++ rest)) (table + 16 * length messages) (length all + 16 * length messages) 16 (omega arith)
          ∙ part-past all (columns ++ rest) (length all + 16 * length messages) (16 * length messages) 16 refl
          ∙ part-past columns rest (16 * length messages) 0 16 (omega (arith, size_1))
          ∙ part-front global foot 16 (sym size_2);
      descriptor_is = ap (λ (l : List ℕ). part l (length pages) (length descriptor)) before_all ∙ part-here pages descriptor (all ++ (columns ++ rest)) (length pages) (length descriptor) refl refl;
      descriptor_before = sym (length-append pages descriptor);
      message = λ before after m is. message_laid front all columns rest messages before after m is refl refl;
    }
