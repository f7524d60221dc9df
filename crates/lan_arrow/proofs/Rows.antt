-- Rows that are read one by one, and the row that is refused.
use Rattle.std.proofs.Common.{◌≡◌, ℕ, suc, ◌+◌, ◌-◌, ◌<◌, ◌≤◌, inl, inr, List, [], ◌∷◌, ◌++◌, length, get_or, refl, ap, sym, ◌∙◌, append_assoc, arith, true, false, nat_eq, subst, eqb-true, eq-eqb}
use Rattle.std.specs.List.{Any}
use Rattle.std.specs.Cmp.{nat_eq_equiv}
use Rattle.std.specs.BTreeSet.{BTreeSet, IsEmpty}
use Rattle.std.proofs.lemmas.Grind.{common_steps}
use Rattle.std.proofs.lemmas.List.Elements.{All-push}
use Rattle.std.proofs.lemmas.List.Folds.{Any-from_list_any}
use Rattle.std.proofs.lemmas.Map.Keys.{IsDistinct-push, apart_from_distinct, IsDistinct-from_apart}
use Rattle.lan_arrow.specs.declared.fault.ArrowFault.{ArrowFault}
use Rattle.lan_arrow.specs.Flat.{four_at}
use Rattle.lan_arrow.specs.Kept.{is_in}
use Rattle.lan_arrow.specs.Seen.{HasJust}
use Rattle.lan_arrow.specs.Batches.{numbers, rows_after, block_rows, block_from, block_many}
use Rattle.lan_arrow.specs.Deletions.{AreRows}
use Rattle.lan_arrow.specs.Refusals.{RowRefused, RowsRefused}

-- one number of those that are left
numbers_step : (bytes : List ℕ) (at n m : ℕ) → n ≡ suc m → numbers bytes at n ≡ four_at bytes at ∷ numbers bytes (at + 4) m
numbers_step bytes at n m e = ap (λ (k : ℕ). numbers bytes at k) e

-- one block of those that are left
rows_step : (file footer : List ℕ) (i n m : ℕ) → n ≡ suc m
    → rows_after file footer i n ≡ block_rows file footer i ++ rows_after file footer (i + 1) m
rows_step file footer i n m e = ap (λ (k : ℕ). rows_after file footer i k) e

-- one more row
pub rows_more : (physical row : ℕ) (rows : List ℕ) → AreRows physical rows → row < physical
    → is_in rows row ≡ false → AreRows physical (rows ++ row ∷ [])
rows_more physical row rows h below fresh = record {
  below = All-push (λ (x : ℕ). x < physical) rows row h.below below;
  distinct = IsDistinct-push nat_eq_equiv rows row h.distinct fresh;
}

-- the row after `done`
row_at : (done rest : List ℕ) (row : ℕ) → get_or (done ++ row ∷ rest) (length done) 0 ≡ row
row_at done rest row = grind (arith, common_steps)

not_at : (physical row : ℕ) (done rest : List ℕ) (k x : ℕ) → k < length done → get_or done k x ≡ x → nat_eq row x ≡ true
    → AreRows physical (done ++ row ∷ rest) → ⊥
not_at physical row done rest k x l e t h =
    let long : length done < length (done ++ row ∷ rest) = grind (arith, common_steps) in
    let apart : nat_eq (get_or (done ++ row ∷ rest) k 0) (get_or (done ++ row ∷ rest) (length done) 0) ≡ false
    = apart_from_distinct nat_eq (done ++ row ∷ rest) k (length done) 0 h.distinct l long in
    let at = row_at done rest row in
    let first : get_or (done ++ row ∷ rest) k 0 ≡ x = grind (arith, common_steps) in
    let same : row ≡ x = eqb-true row x t in
    let equal : nat_eq (get_or (done ++ row ∷ rest) k 0) (get_or (done ++ row ∷ rest) (length done) 0) ≡ true
    = eq-eqb _ _ (first ∙ sym same ∙ sym at) in
    cc

too_great : (physical row : ℕ) (done rest : List ℕ) → physical ≤ row → AreRows physical (done ++ row ∷ rest) → ⊥
too_great physical row done rest high h =
    let long : length done < length (done ++ row ∷ rest) = grind (arith, common_steps) in
    let low : get_or (done ++ row ∷ rest) (length done) 0 < physical = h.below (length done) 0 long in
    let at = row_at done rest row in
    omega arith

twice : (physical row : ℕ) (done rest : List ℕ) → is_in done row ≡ true → AreRows physical (done ++ row ∷ rest) → ⊥
twice physical row done rest t h =
    let any : Any (λ (x : ℕ). nat_eq row x ≡ true) done = Any-from_list_any (nat_eq row) done t in
    not_at physical row done rest any.0 any.1 any.2 any.3 any.4 h

not_row : (physical row : ℕ) (done rest : List ℕ) (e : ArrowFault) → RowRefused physical done row e
    → AreRows physical (done ++ row ∷ rest) → ⊥
not_row physical row done rest e (inl high) h = too_great physical row done rest high.1 h
not_row physical row done rest e (inr again) h = twice physical row done rest again.2 h

-- where a row is refused the rows aren't right
pub not_rows : (physical : ℕ) (rows : List ℕ) (e : ArrowFault) → RowsRefused physical rows e → AreRows physical rows → ⊥
unfolding RowsRefused
not_rows physical rows e (done, rest, row, same, right, bad) h =
    not_row physical row done rest e bad (subst (λ (xs : List ℕ). AreRows physical xs) same h)

-- a step of the loop over a batch's rows
pub gather_more : (bytes done whole after : List ℕ) (at next n m row : ℕ) → done ++ numbers bytes at n ≡ whole → n ≡ suc m
    → next ≡ at + 4 → row ≡ four_at bytes at → after ≡ done ++ row ∷ [] → after ++ numbers bytes next m ≡ whole
gather_more bytes done whole after at next n m row h en ea er ed =
    let s = numbers_step bytes at n m en in
    let t : numbers bytes next m ≡ numbers bytes (at + 4) m = ap (λ (k : ℕ). numbers bytes k m) ea in
    let u : (done ++ row ∷ []) ++ numbers bytes next m ≡ done ++ (row ∷ numbers bytes next m) = rw append_assoc in
    cc

-- the row that is refused stands in all rows
pub gather_refused : (physical : ℕ) (bytes done whole : List ℕ) (at n m row : ℕ) (e : ArrowFault)
    → done ++ numbers bytes at n ≡ whole → n ≡ suc m → row ≡ four_at bytes at → AreRows physical done
    → RowRefused physical done row e → (left : List ℕ) → RowsRefused physical (whole ++ left) e
unfolding RowsRefused
gather_refused physical bytes done whole at n m row e h en er right bad left =
    let s = numbers_step bytes at n m en in
    let t : (done ++ (row ∷ numbers bytes (at + 4) m)) ++ left ≡ done ++ (row ∷ (numbers bytes (at + 4) m ++ left))
    = rw append_assoc in
    let w : whole ++ left ≡ done ++ (row ∷ (numbers bytes (at + 4) m ++ left)) = cc in
    (done, numbers bytes (at + 4) m ++ left, row, w, right, bad)

-- a step of the loop over the blocks
pub blocks_more : (file footer done whole after : List ℕ) (i n m from many : ℕ) → done ++ rows_after file footer i n ≡ whole
    → n ≡ suc m → from ≡ block_from file footer i → many ≡ block_many file footer i
    → after ≡ done ++ numbers file from many → after ++ rows_after file footer (i + 1) m ≡ whole
blocks_more file footer done whole after i n m from many h en ef em ea =
    let s = rows_step file footer i n m en in
    let t : numbers file from many ≡ block_rows file footer i = cc in
    let u : (done ++ block_rows file footer i) ++ rows_after file footer (i + 1) m
    ≡ done ++ (block_rows file footer i ++ rows_after file footer (i + 1) m) = rw append_assoc in
    cc

-- what is refused of a batch is refused of all rows
pub blocks_refused : (physical : ℕ) (file footer done whole : List ℕ) (i n m from many : ℕ) (e : ArrowFault)
    → done ++ rows_after file footer i n ≡ whole → n ≡ suc m → from ≡ block_from file footer i
    → many ≡ block_many file footer i
    → ((left : List ℕ) → RowsRefused physical (done ++ numbers file from many ++ left) e) → RowsRefused physical whole e
blocks_refused physical file footer done whole i n m from many e h en ef em bad =
    let same : (done ++ numbers file from many) ++ rows_after file footer (i + 1) m ≡ whole
    = blocks_more file footer done whole (done ++ numbers file from many) i n m from many h en ef em refl in
    subst (λ (xs : List ℕ). RowsRefused physical xs e) same (bad (rows_after file footer (i + 1) m))

-- before the first block
pub blocks_none : (file footer done : List ℕ) (n : ℕ) → done ≡ [] → done ++ rows_after file footer 0 (n - 0) ≡ rows_after file footer 0 n
blocks_none file footer done n e =
    let t : rows_after file footer 0 (n - 0) ≡ rows_after file footer 0 n = ap (λ (k : ℕ). rows_after file footer 0 k) (omega arith) in
    subst (λ (xs : List ℕ). xs ++ rows_after file footer 0 (n - 0) ≡ rows_after file footer 0 n) (sym e) t

pub rows_none : (physical : ℕ) (rows : List ℕ) → rows ≡ [] → AreRows physical rows
rows_none physical rows e = record {
  below = λ k d l. absurd (let n = ap length e in omega arith);
  distinct = IsDistinct-from_apart nat_eq rows (λ i j d h l. absurd (let n = ap length e in omega arith));
}

pub none_seen : (seen : BTreeSet ℕ) (rows : List ℕ) → IsEmpty seen → rows ≡ [] → HasJust seen rows
none_seen seen rows e n x = grind (arith, common_steps)
