-- Names that come twice, one field after another.
use Rattle.std.proofs.Common.{◌≡◌, refl, sym, ap, ◌∙◌, ℕ, ◌+◌, ◌<◌, Bool, true, false, List, [], ◌∷◌, ◌++◌, length, map, take, drop, get_or}
use Rattle.std.specs.Prelude.{cond, ◌||◌, bytes_eq, is_some, Option, Some}
use Rattle.std.specs.List.{list_any}
use Rattle.std.proofs.lemmas.Bool.Decides.{same_from_decides}
use Rattle.std.proofs.lemmas.List.{map-append}
use Rattle.std.proofs.lemmas.List.Folds.{list_any-append}
use Rattle.std.proofs.lemmas.Slice.Eq.{bytes_eq-Decides}
use Rattle.lan_model.specs.declared.tree.Field.{Field}
use Rattle.lan_model.specs.PlainTable.{column_of}
use Rattle.lan_model.specs.Table.{name_of}
use Rattle.lan_form.specs.Names.{first_twice}
use Rattle.lan_form.proofs.Columns.{column_name}
use Rattle.lan_form.proofs.Lists.{next_of, so_far_of}

abbrev pub names : List Field → List (List ℕ)
names fs = map name_of (map column_of fs)

pub names_left : (fs : List Field) (i : ℕ) (f : Field) → i < length fs → f ≡ get_or fs i f → names (drop i fs) ≡ f.name ∷ names (drop (i + 1) fs)
names_left fs i f below is = ap names (next_of fs i f below is) ∙ ap (λ n. n ∷ names (drop (i + 1) fs)) (column_name f)

pub names_so_far : (fs : List Field) (i : ℕ) (f : Field) → i < length fs → f ≡ get_or fs i f → names (take (i + 1) fs) ≡ names (take i fs) ++ f.name ∷ []
names_so_far fs i f below is =
    ap names (so_far_of fs i f below is) ∙ ap (map name_of) (map-append column_of (take i fs) (f ∷ [])) ∙ map-append name_of (map column_of (take i fs)) (column_of f ∷ [])
    ∙ ap (λ n. names (take i fs) ++ n ∷ []) (column_name f)

pub step : (fs : List Field) (i : ℕ) (f : Field) (seen : Bool) → i < length fs → f ≡ get_or fs i f → list_any (bytes_eq f.name) (names (take i fs)) ≡ seen
    → first_twice (names (take i fs)) (names (drop i fs)) ≡ cond seen (Some f.name) (first_twice (names (take (i + 1) fs)) (names (drop (i + 1) fs)))
step fs i f seen below is said =
    ap (first_twice (names (take i fs))) (names_left fs i f below is)
    ∙ ap (λ b. cond b (Some f.name) (first_twice (names (take i fs) ++ f.name ∷ []) (names (drop (i + 1) fs)))) said
    ∙ ap (λ l. cond seen (Some f.name) (first_twice l (names (drop (i + 1) fs)))) (sym (names_so_far fs i f below is))

either_way : (p q : List ℕ) → bytes_eq p q ≡ bytes_eq q p
either_way p q = same_from_decides _ _ (bytes_eq-Decides p q) ((λ e. sym ((bytes_eq-Decides q p).0 e)), λ e. (bytes_eq-Decides q p).1 (sym e))

or_true : (b : Bool) → (b || (true || false)) ≡ true
or_true true = refl
or_true false = refl

or_false : (b : Bool) → (b || (false || false)) ≡ b
or_false true = refl
or_false false = refl

found_by : (here : Bool) (old : Option (Unit {0})) (known : Bool) → is_some old ≡ known → is_some (cond here (Some tt) old) ≡ (known || (here || false))
found_by true old known is = sym (or_true known)
found_by false old known is = is ∙ sym (or_false known)

pub seen_more : (fs : List Field) (i : ℕ) (f : Field) (q : List ℕ) (old new : Option (Unit {0})) → i < length fs → f ≡ get_or fs i f → is_some old ≡ list_any (bytes_eq q) (names (take i fs))
    → new ≡ cond (bytes_eq f.name q) (Some tt) old → is_some new ≡ list_any (bytes_eq q) (names (take (i + 1) fs))
seen_more fs i f q old new below is said after =
    ap is_some after ∙ ap (λ b. is_some (cond b (Some tt) old)) (either_way f.name q) ∙ found_by (bytes_eq q f.name) old (list_any (bytes_eq q) (names (take i fs))) said
    ∙ sym (list_any-append (bytes_eq q) (names (take i fs)) (f.name ∷ [])) ∙ ap (list_any (bytes_eq q)) (sym (names_so_far fs i f below is))
