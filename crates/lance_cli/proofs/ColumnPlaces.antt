-- The places of columns, by their names.
use Rattle.std.proofs.Common.{◌≡◌, refl, sym, ◌∙◌, ap, ℕ, zero, suc, ◌+◌, ◌<◌, ◌≤◌, List, [], ◌∷◌, ◌++◌, length, get_or, drop, map, arith, append_assoc, bytes_eq, cond, IsTrue}
use Rattle.std.specs.Prelude.{◌↔◌, Bool, Some, None, Result, Ok, Err, position, nat_lt, not}
use Rattle.std.specs.List.{position_or_len, range_with_len}
use Rattle.std.proofs.lemmas.Bool.Decides.{same_from_decides}
use Rattle.std.proofs.lemmas.List.{append-nil, at_drop_all, at_drop_more, length-map}
use Rattle.std.proofs.lemmas.Slice.Eq.{bytes_eq-Decides}
use Rattle.lan_model.specs.After.{Refusal, no_column, place_of}
use Rattle.lan_model.specs.Plain.{unnumbered}
use Rattle.lan_model.specs.PlainTable.{column_of}
use Rattle.lan_model.specs.Table.{Column, name_of}
use Rattle.lan_model.specs.Take.{and_place, places_of}
use Rattle.lan_model.specs.declared.tree.Field.{Field}
use Rattle.lan_levels.proofs.FieldViews.{plain_field-is}

-- ---- one name

column_name : (f : Field) → name_of (column_of f) ≡ f.name
column_name f = ap (λ g. name_of (unnumbered g)) (plain_field-is f)

-- whether a field has the name
abbrev pub has_name : List ℕ → Field → Bool
has_name name f = bytes_eq f.name name

pub is_named : (name : List ℕ) (f : Field) (same : Bool) → IsTrue same ↔ (f.name ≡ name) → same ≡ has_name name f
is_named name f same tells = same_from_decides same (has_name name f) (tells.0, tells.1) (bytes_eq-Decides f.name name)

first_named : (name : List ℕ) (fields : List Field) → position_or_len (λ c. bytes_eq (name_of c) name) (map column_of fields) ≡ position_or_len (has_name name) fields
first_named name [] = refl
first_named name (f ∷ fs) =
    ap (λ n. cond (not (bytes_eq n name)) (1 + position_or_len (λ c. bytes_eq (name_of c) name) (map column_of fs)) 0) (column_name f) ∙ ap (λ k. cond (not (bytes_eq f.name name)) (1 + k) 0) (first_named name fs)

pub column_place : (name : List ℕ) (fields : List Field) → position (has_name name) fields ≡ place_of name (map column_of fields)
column_place name fields =
    let same = first_named name fields in
    let long : length (map column_of fields) ≡ length fields = length-map fields column_of in
    ap (λ k. cond (nat_lt k (length fields)) (Some k) None) (sym same) ∙ ap (λ n. cond (nat_lt (position_or_len (λ c. bytes_eq (name_of c) name) (map column_of fields)) n) (Some (position_or_len (λ c. bytes_eq (name_of c) name) (map column_of fields))) None) (sym long)

-- ---- several names

-- with places before the others
abbrev pub behind : List ℕ → Result (List ℕ) Refusal → Result (List ℕ) Refusal
behind places (Ok more) = Ok (places ++ more)
behind places (Err refusal) = Err refusal

pub behind_none : (found : Result (List ℕ) Refusal) → found ≡ behind [] found
behind_none (Ok more) = refl
behind_none (Err refusal) = refl

behind_one : (places : List ℕ) (place : ℕ) (name : List ℕ) (found : Result (List ℕ) Refusal) → behind places (and_place (Some place) name found) ≡ behind (places ++ place ∷ []) found
behind_one places place name (Ok more) = ap (λ l. Ok l) (sym (append_assoc places (place ∷ []) more))
behind_one places place name (Err refusal) = refl

-- one name more was found
pub places_more : (columns : List Column) (names : List (List ℕ)) (i : ℕ) (name : List ℕ) (wanted : Result (List ℕ) Refusal) (places more : List ℕ) (place : ℕ) → i < length names → name ≡ get_or names i name → place_of name columns ≡ Some place → more ≡ places ++ place ∷ []
    → wanted ≡ behind places (places_of columns (drop i names)) → wanted ≡ behind more (places_of columns (drop (i + 1) names))
places_more columns names i name wanted places more place below is found grew before =
    before ∙ ap (behind places) (at_drop_more (places_of columns) names i name below ∙ ap (λ n. places_of columns (n ∷ drop (i + 1) names)) (sym is) ∙ ap (λ o. and_place o name (places_of columns (drop (i + 1) names))) found)
    ∙ behind_one places place name (places_of columns (drop (i + 1) names)) ∙ ap (λ l. behind l (places_of columns (drop (i + 1) names))) (sym grew)

-- one was not
pub places_end : (columns : List Column) (names : List (List ℕ)) (i : ℕ) (name : List ℕ) (wanted : Result (List ℕ) Refusal) (places : List ℕ) → i < length names → name ≡ get_or names i name → place_of name columns ≡ None
    → wanted ≡ behind places (places_of columns (drop i names)) → wanted ≡ Err (no_column name)
places_end columns names i name wanted places below is none before =
    before ∙ ap (behind places) (at_drop_more (places_of columns) names i name below ∙ ap (λ n. places_of columns (n ∷ drop (i + 1) names)) (sym is) ∙ ap (λ o. and_place o name (places_of columns (drop (i + 1) names))) none)

-- all were found
pub places_all : (columns : List Column) (names : List (List ℕ)) (i : ℕ) (wanted : Result (List ℕ) Refusal) (places : List ℕ) → length names ≤ i → wanted ≡ behind places (places_of columns (drop i names)) → wanted ≡ Ok places
places_all columns names i wanted places ended before = before ∙ ap (behind places) (at_drop_all (places_of columns) names i ended) ∙ ap (λ l. Ok l) (append-nil places)

-- ---- all places

range_last : (a n : ℕ) → range_with_len a (suc n) ≡ range_with_len a n ++ (a + n) ∷ []
range_last a zero = let same : a ≡ a + 0 = omega arith in ap (λ k. k ∷ []) same
range_last a (suc n) =
    let same : (a + 1) + n ≡ a + suc n = omega arith in
    ap (λ l. a ∷ l) (range_last (a + 1) n ∙ ap (λ k. range_with_len (a + 1) n ++ k ∷ []) same)

pub range_more : (n : ℕ) (before after : List ℕ) → before ≡ range_with_len 0 n → after ≡ before ++ n ∷ [] → after ≡ range_with_len 0 (n + 1)
range_more n before after is grew =
    let one : n + 1 ≡ suc n = omega arith in
    let last : 0 + n ≡ n = omega arith in
    grew ∙ ap (λ l. l ++ n ∷ []) is ∙ ap (λ k. range_with_len 0 n ++ k ∷ []) (sym last) ∙ sym (range_last 0 n) ∙ ap (range_with_len 0) (sym one)
