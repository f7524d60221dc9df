-- Dealing cursors to readers, one after another.
use Rattle.std.proofs.Common.{◌≡◌, sym, ◌∙◌, ap, ap₂, refl, ℕ, ◌+◌, ◌<◌, List, [], ◌∷◌, ◌++◌, length, get_or, take, drop, append_assoc}
use Rattle.std.specs.Prelude.{Option, Some, slice_get, slice_index_or, slice_set}
use Rattle.std.proofs.lemmas.List.{drop_more, length-set}
use Rattle.std.proofs.lemmas.Option.{get_or_from_slice_get}
use Rattle.lan_page.specs.ColumnCursors.{PlainCursor}
use Rattle.lan_read.specs.Dealt.{dealt, left, reader_of, readers_of, without_first}

abbrev Groups : Type 0
Groups = List (List PlainCursor)

pub next_number : {X : Type 0} (xs : List X) (i : ℕ) (x : X) → i < length xs → x ≡ get_or xs i x → drop i xs ≡ x ∷ drop (i + 1) xs
next_number {X} xs i x below item = drop_more xs i x below ∙ ap (λ (y : X). y ∷ drop (i + 1) xs) (sym item)

taken_from : (opened : Groups) (n : ℕ) (x y : List PlainCursor) → slice_get opened n ≡ Some x → y ≡ drop 1 x → slice_set opened n y ≡ without_first opened n
taken_from opened n x y at is = ap (slice_set opened n) (is ∙ ap (drop 1) (sym (get_or_from_slice_get opened n x [] at)))

pub deal_step : (numbers : List ℕ) (i n : ℕ) (opened : Groups) (x y : List PlainCursor) (cursors new first : List PlainCursor) → i < length numbers → n ≡ get_or numbers i n → slice_get opened n ≡ Some x → new ≡ cursors ++ take 1 x → y ≡ drop 1 x →
    cursors ++ dealt (drop i numbers) opened ≡ first → new ++ dealt (drop (i + 1) numbers) (slice_set opened n y) ≡ first
deal_step numbers i n opened x y cursors new first below item at more rest was =
    let ns = drop (i + 1) numbers in
    ap₂ (λ (a : List PlainCursor) (b : Groups). a ++ dealt ns b) more (taken_from opened n x y at rest)
    ∙ append_assoc cursors (take 1 x) (dealt ns (without_first opened n))
    ∙ ap (λ (z : List PlainCursor). cursors ++ (take 1 z ++ dealt ns (without_first opened n))) (sym (get_or_from_slice_get opened n x [] at))
    ∙ ap (λ (l : List ℕ). cursors ++ dealt l opened) (sym (next_number numbers i n below item))
    ∙ was

pub left_step : (numbers : List ℕ) (i n : ℕ) (opened : Groups) (x y : List PlainCursor) (first : Groups) → i < length numbers → n ≡ get_or numbers i n → slice_get opened n ≡ Some x → y ≡ drop 1 x →
    left (drop i numbers) opened ≡ first → left (drop (i + 1) numbers) (slice_set opened n y) ≡ first
left_step numbers i n opened x y first below item at rest was =
    ap (left (drop (i + 1) numbers)) (taken_from opened n x y at rest) ∙ ap (λ (l : List ℕ). left l opened) (sym (next_number numbers i n below item)) ∙ was

pub length_left : (numbers : List ℕ) (opened : Groups) → length (left numbers opened) ≡ length opened
length_left [] opened = refl
length_left (n ∷ numbers) opened = length_left numbers (without_first opened n) ∙ length-set opened n (drop 1 (slice_index_or opened n []))

pub reader_step : (files : List (List ℕ)) (i : ℕ) (numbers : List ℕ) (opened later : Groups) (r : Option (List PlainCursor)) (readers new first : List (Option (List PlainCursor))) → i < length files → numbers ≡ get_or files i numbers →
    r ≡ reader_of numbers opened → later ≡ left numbers opened → new ≡ readers ++ r ∷ [] → readers ++ readers_of (drop i files) opened ≡ first → new ++ readers_of (drop (i + 1) files) later ≡ first
reader_step files i numbers opened later r readers new first below item is after more was =
    let rest = drop (i + 1) files in
    ap₂ (λ (a : List (Option (List PlainCursor))) (b : Groups). a ++ readers_of rest b) (more ∙ ap (λ (x : Option (List PlainCursor)). readers ++ x ∷ []) is) after
    ∙ append_assoc readers (reader_of numbers opened ∷ []) (readers_of rest (left numbers opened))
    ∙ ap (λ (l : List (List ℕ)). readers ++ readers_of l opened) (sym (next_number files i numbers below item))
    ∙ was
