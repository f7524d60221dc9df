-- The columns that are read, grouped by their files step by step.
use Rattle.std.proofs.Common.{◌≡◌, inl, inr, sym, ◌∙◌, ap, ap₂, refl, subst, ℕ, suc, ◌+◌, ◌<◌, Bool, true, false, cond, List, [], ◌∷◌, ◌++◌, length, get_or, map, set, take, drop, arith, append_assoc, min, ◌≤◌}
use Rattle.std.specs.Prelude.{◌||◌, ℤ, bytes_eq, Option, Some, None, unwrap_or, slice_get, slice_set, All, IfSome}
use Rattle.std.specs.BTreeMap.{BTreeMap, get}
use Rattle.std.specs.Ordering.{int_cmp}
use Rattle.std.specs.Option.{option_or, option_map}
use Rattle.std.proofs.lemmas.Bool.{cases_Bool, cases_lt, cond_both, false≢true, or_cases, or_left, or_parts, or_right, true≢false}
use Rattle.std.proofs.lemmas.List.{append-nil, drop_all, drop_more, get_or-map, length-map, length-take-le, map-set, map_more, map_push, take_all, take_more}
use Rattle.std.proofs.lemmas.Option.{get_or_from_slice_get, none-some, same_Some, slice_get-map, slice_get_within}
use Rattle.std.proofs.lemmas.Slice.Eq.{bytes_eq-Decides}
use Rattle.lan_model.specs.Leaves.{IsNarrow, PlainLeaf, leaves_of, plain_leaf, plain_leaves}
use Rattle.lan_model.specs.declared.tree.Leaf.{Leaf}
use Rattle.lan_model.specs.declared.tree.Field.{Field}
use Rattle.lan_model.specs.Plain.{PlainField, plain_field}
use Rattle.lan_schema.specs.FieldTree.{signed}
use Rattle.lan_schema.specs.Forest.{same}
use Rattle.lan_file.specs.Heads.{Pick, pick_of, picks_of}
use Rattle.lan_file.specs.declared.head.ColumnPick.{ColumnPick}
use Rattle.lan_manifest.specs.declared.manifest.DataFile.{DataFile}
use Rattle.lan_read.specs.Grouped.{ArePlaces, grouped, last_at, last_place, numbers_for, numbers_of, place_in, placed}
use Rattle.lan_read.specs.Opened.{Use, and_use, column_listed, has_path, leaves_in, own_column, picks_at, use_of, uses_of}
use Rattle.lan_read.specs.declared.used.Place.{Place}

-- ---- the last file of a path

or_one : (b : Bool) → (b || false) ≡ (false || b)
or_one true = refl
or_one false = refl

or_three : (x y z : Bool) → (x || (y || z)) ≡ ((x || y) || z)
or_three true y z = refl
or_three false y z = refl

pub path_more : (files : List DataFile) (f : DataFile) (path : List ℕ) → has_path (files ++ f ∷ []) path ≡ (has_path files path || bytes_eq f.path path)
path_more [] f path = or_one (bytes_eq f.path path)
path_more (g ∷ files) f path = ap (λ (b : Bool). bytes_eq g.path path || b) (path_more files f path) ∙ or_three (bytes_eq g.path path) (has_path files path) (bytes_eq f.path path)

last_alone : (b : Bool) (n : ℕ) → n ≡ cond b n n
last_alone true n = refl
last_alone false n = refl

last_of_more : (h b : Bool) (n l : ℕ) → cond (h || b) (suc (cond b n l)) 0 ≡ cond b (suc n) (cond h (suc l) 0)
last_of_more true true n l = refl
last_of_more true false n l = refl
last_of_more false true n l = refl
last_of_more false false n l = refl

last_more : (files : List DataFile) (f : DataFile) (path : List ℕ) → last_at (files ++ f ∷ []) path ≡ cond (bytes_eq f.path path) (length files) (last_at files path)
last_more [] f path = last_alone (bytes_eq f.path path) 0
last_more (g ∷ files) f path =
    ap₂ (λ (h : Bool) (n : ℕ). cond h (suc n) 0) (path_more files f path) (last_more files f path) ∙ last_of_more (has_path files path) (bytes_eq f.path path) (length files) (last_at files path)

place_of_more : (h b : Bool) (n l : ℕ) → cond (h || b) (Some (cond b n l)) None ≡ cond b (Some n) (cond h (Some l) None)
place_of_more true true n l = refl
place_of_more true false n l = refl
place_of_more false true n l = refl
place_of_more false false n l = refl

-- a further file is the last of its path
pub place_more : (files : List DataFile) (f : DataFile) (path : List ℕ) → last_place (files ++ f ∷ []) path ≡ cond (bytes_eq f.path path) (Some (length files)) (last_place files path)
place_more files f path =
    ap₂ (λ (h : Bool) (n : ℕ). cond h (Some n) None) (path_more files f path) (last_more files f path) ∙ place_of_more (has_path files path) (bytes_eq f.path path) (length files) (last_at files path)

unwrapped : (b h : Bool) (l : ℕ) → unwrap_or (cond (b || h) (Some (cond h (suc l) 0)) None) 0 ≡ cond h (suc l) 0
unwrapped true h l = refl
unwrapped false true l = refl
unwrapped false false l = refl

pub last_or_first : (files : List DataFile) (path : List ℕ) → unwrap_or (last_place files path) 0 ≡ last_at files path
last_or_first [] path = refl
last_or_first (g ∷ files) path = unwrapped (bytes_eq g.path path) (has_path files path) (last_at files path)

last_within : (files : List DataFile) (path : List ℕ) → 0 < length files → last_at files path < length files
last_within [] path some = absurd (omega (arith, some))
last_within (g ∷ []) path some = omega arith
last_within (g ∷ (h ∷ files)) path some =
    cond_both (has_path (h ∷ files) path) (suc (last_at (h ∷ files) path)) 0 (λ (n : ℕ). n < suc (suc (length files))) (λ _. omega (arith, last_within (h ∷ files) path (omega arith))) (λ _. omega arith)

first_within : (number n : ℕ) (found : Option ℕ) (rest : Option Place) (p : Place) → number < n → option_or (placed number found) rest ≡ Some p → (rest ≡ Some p → p.file < n) → p.file < n
first_within number n None rest p below at behind = behind at
first_within number n (Some c) rest p below at behind = subst (λ (q : Place). q.file < n) (same_Some (record { file = number; column = c }) p at) below

-- the file of a column is one of the files
pub place_within : (all files : List DataFile) (id : ℤ) (p : Place) → 0 < length all → place_in all files id ≡ Some p → p.file < length all
place_within all [] id p some at = absurd (none-some p at)
place_within all (file ∷ files) id p some at =
    first_within (last_at all file.path) (length all) (column_listed file.ids file.columns id) (place_in all files id) p (last_within all file.path some) at (place_within all files id p some)

some_within : (files : List DataFile) (id : ℤ) (p : Place) → place_in files files id ≡ Some p → p.file < length files
some_within [] id p at = absurd (none-some p at)
some_within (file ∷ files) id p at = place_within (file ∷ files) (file ∷ files) id p (omega arith) at

within : (files : List DataFile) (o : Option Place) (n : ℕ) → ((p : Place) → o ≡ Some p → p.file < n) → IfSome o (λ (p : Place). p.file < n)
within files None n each = tt
within files (Some p) n each = each p refl

-- ---- the columns of a file

step_listed : (number : ℕ) (is : Bool) (old : Option Place) (own rest : Option ℕ) →
    option_or (option_or old (cond is (placed number own) None)) (placed number rest) ≡ option_or old (placed number (cond is (option_or own rest) rest))
step_listed number is (Some p) own rest = refl
step_listed number true None (Some c) rest = refl
step_listed number true None None rest = refl
step_listed number false None own rest = refl

-- a further column is listed
pub listed_step : (number : ℕ) (ids columns : List ℤ) (i c id : ℤ) (old new : Option Place) → new ≡ option_or old (cond (same i id) (placed number (own_column c)) None) →
    option_or new (placed number (column_listed ids columns id)) ≡ option_or old (placed number (column_listed (i ∷ ids) (c ∷ columns) id))
listed_step number ids columns i c id old new is =
    ap (λ (o : Option Place). option_or o (placed number (column_listed ids columns id))) is ∙ step_listed number (same i id) old (own_column c) (column_listed ids columns id)

or_none : {X : Type 0} (o : Option X) → option_or o None ≡ o
or_none {X} None = refl
or_none {X} (Some x) = refl

pub listed_end : (number : ℕ) (ids columns : List ℤ) (id : ℤ) (new : Option Place) → (ids ≡ []) → option_or new (placed number (column_listed ids columns id)) ≡ new
listed_end number ids columns id new none = ap (λ (l : List ℤ). option_or new (placed number (column_listed l columns id))) none ∙ or_none new

none_listed : (ids : List ℤ) (id : ℤ) → column_listed ids [] id ≡ None
none_listed [] id = refl
none_listed (i ∷ ids) id = refl

pub listed_past : (number : ℕ) (ids columns : List ℤ) (id : ℤ) (new : Option Place) → (columns ≡ []) → option_or new (placed number (column_listed ids columns id)) ≡ new
listed_past number ids columns id new none =
    ap (λ (l : List ℤ). option_or new (placed number (column_listed ids l id))) none ∙ ap (λ (o : Option ℕ). option_or new (placed number o)) (none_listed ids id) ∙ or_none new

or_or : {X : Type 0} (a b c : Option X) → option_or (option_or a b) c ≡ option_or a (option_or b c)
or_or {X} None b c = refl
or_or {X} (Some x) b c = refl

-- and so the columns of a further file
pub places_step : (all files : List DataFile) (file : DataFile) (number : ℕ) (id : ℤ) (old new : Option Place) → number ≡ last_at all file.path → new ≡ option_or old (placed number (column_listed file.ids file.columns id)) →
    option_or new (place_in all files id) ≡ option_or old (place_in all (file ∷ files) id)
places_step all files file number id old new last is =
    ap (λ (o : Option Place). option_or o (place_in all files id)) is
    ∙ or_or old (placed number (column_listed file.ids file.columns id)) (place_in all files id)
    ∙ ap (λ (n : ℕ). option_or old (option_or (placed n (column_listed file.ids file.columns id)) (place_in all files id))) last

pub places_end : (all : List DataFile) (id : ℤ) (new : Option Place) → option_or new (place_in all [] id) ≡ new
places_end all id new = or_none new

-- ---- the use of a leaf

abbrev pub use_at : List ℕ → ℕ → PlainLeaf → Use
use_at path column leaf = record { path = path; pick = record { column = column; leaf = leaf } }

pub record IsUse (all files : List DataFile) (leaf : PlainLeaf) (p : Place) (used : Option Use) : Type 0 where
  pub path : List ℕ
  pub is : used ≡ Some (use_at path p.column leaf)
  pub file : p.file ≡ last_at all path
  pub there : has_path files path ≡ true

first_use : (all files : List DataFile) (file : DataFile) (leaf : PlainLeaf) (p : Place) (found : Option ℕ) →
    option_or (placed (last_at all file.path) found) (place_in all files (signed leaf.id)) ≡ Some p → (place_in all files (signed leaf.id) ≡ Some p → IsUse all files leaf p (use_of files leaf)) →
    IsUse all (file ∷ files) leaf p (option_or (option_map (λ column. use_at file.path column leaf) found) (use_of files leaf))
first_use all files file leaf p None at behind =
    let later = behind at in
    record { path = later.path; is = later.is; file = later.file; there = or_right (bytes_eq file.path later.path) (has_path files later.path) later.there }
first_use all files file leaf p (Some c) at behind =
    let here : Place = record { file = last_at all file.path; column = c } in
    subst (λ (q : Place). IsUse all (file ∷ files) leaf q (Some (use_at file.path c leaf))) (same_Some here p at)
    (record { path = file.path; is = refl; file = refl; there = or_left (bytes_eq file.path file.path) (has_path files file.path) ((bytes_eq-Decides file.path file.path).1 refl) })

pub found_use : (all files : List DataFile) (leaf : PlainLeaf) (p : Place) → place_in all files (signed leaf.id) ≡ Some p → IsUse all files leaf p (use_of files leaf)
found_use all [] leaf p at = absurd (none-some p at)
found_use all (file ∷ files) leaf p at = first_use all files file leaf p (column_listed file.ids file.columns (signed leaf.id)) at (found_use all files leaf p)

no_first_use : (number : ℕ) (file : DataFile) (leaf : PlainLeaf) (found : Option ℕ) (rest : Option Place) (used : Option Use) → option_or (placed number found) rest ≡ None → (rest ≡ None → used ≡ None) →
    option_or (option_map (λ column. use_at file.path column leaf) found) used ≡ None
no_first_use number file leaf None rest used none behind = behind none
no_first_use number file leaf (Some c) rest used none behind = absurd (cc none)

pub no_use : (all files : List DataFile) (leaf : PlainLeaf) → place_in all files (signed leaf.id) ≡ None → use_of files leaf ≡ None
no_use all [] leaf none = refl
no_use all (file ∷ files) leaf none = no_first_use (last_at all file.path) file leaf (column_listed file.ids file.columns (signed leaf.id)) (place_in all files (signed leaf.id)) (use_of files leaf) none (no_use all files leaf)

-- ---- the uses of leaves

and_append : (o : Option Use) (xs ys : List Use) → and_use o (xs ++ ys) ≡ and_use o xs ++ ys
and_append None xs ys = refl
and_append (Some u) xs ys = refl

pub uses_append : (files : List DataFile) (xs ys : List PlainLeaf) → uses_of files (xs ++ ys) ≡ uses_of files xs ++ uses_of files ys
uses_append files [] ys = refl
uses_append files (x ∷ xs) ys = ap (λ (l : List Use). and_use (use_of files x) l) (uses_append files xs ys) ∙ and_append (use_of files x) (uses_of files xs) (uses_of files ys)

pub uses_found : (files : List DataFile) (xs : List PlainLeaf) (x : PlainLeaf) (u : Use) → use_of files x ≡ Some u → uses_of files (xs ++ x ∷ []) ≡ uses_of files xs ++ u ∷ []
uses_found files xs x u at = uses_append files xs (x ∷ []) ∙ ap (λ (o : Option Use). uses_of files xs ++ and_use o []) at

pub uses_none : (files : List DataFile) (xs : List PlainLeaf) (x : PlainLeaf) → use_of files x ≡ None → uses_of files (xs ++ x ∷ []) ≡ uses_of files xs
uses_none files xs x none = uses_append files xs (x ∷ []) ∙ ap (λ (o : Option Use). uses_of files xs ++ and_use o []) none ∙ append-nil (uses_of files xs)

pub leaves_more : (fs : List (PlainField ℕ)) (f : PlainField ℕ) → leaves_in (fs ++ f ∷ []) ≡ leaves_in fs ++ leaves_of f 0 []
leaves_more [] f = append-nil (leaves_of f 0 [])
leaves_more (g ∷ fs) f = ap (λ (l : List PlainLeaf). leaves_of g 0 [] ++ l) (leaves_more fs f) ∙ sym (append_assoc (leaves_of g 0 []) (leaves_in fs) (leaves_of f 0 []))

-- ---- the groups

pub length_grouped : (files : List DataFile) (uses : List Use) → length (grouped files uses) ≡ length files
length_grouped [] uses = refl
length_grouped (file ∷ files) uses = ap suc (length_grouped files uses)

abbrev pub no_group : DataFile → List Pick
no_group file = []

no_choice : (b : Bool) → cond {A = List Pick} b [] [] ≡ []
no_choice true = refl
no_choice false = refl

pub grouped_none : (files : List DataFile) → grouped files [] ≡ map no_group files
grouped_none [] = refl
grouped_none (file ∷ files) = ap₂ (λ (g : List Pick) (gs : List (List Pick)). g ∷ gs) (no_choice (has_path files file.path)) (grouped_none files)

chosen_append : (b : Bool) (p : Pick) (xs ys : List Pick) → cond b (p ∷ (xs ++ ys)) (xs ++ ys) ≡ cond b (p ∷ xs) xs ++ ys
chosen_append true p xs ys = refl
chosen_append false p xs ys = refl

pub picks_more : (uses : List Use) (u : Use) (path : List ℕ) → picks_at (uses ++ u ∷ []) path ≡ picks_at uses path ++ cond (bytes_eq u.path path) (u.pick ∷ []) []
picks_more [] u path = refl
picks_more (v ∷ uses) u path =
    ap (λ (l : List Pick). cond (bytes_eq v.path path) (v.pick ∷ l) l) (picks_more uses u path) ∙ chosen_append (bytes_eq v.path path) v.pick (picks_at uses path) (cond (bytes_eq u.path path) (u.pick ∷ []) [])

kept_group : (has is : Bool) (xs ys : List Pick) → (is ≡ true → has ≡ true) → cond has [] (xs ++ cond is ys []) ≡ cond has [] xs
kept_group true is xs ys then = refl
kept_group false true xs ys then = absurd (false≢true (then refl))
kept_group false false xs ys then = append-nil xs

group_kept : (files : List DataFile) (uses : List Use) (u : Use) (path : List ℕ) → (bytes_eq u.path path ≡ true → has_path files path ≡ true) →
    cond (has_path files path) [] (picks_at (uses ++ u ∷ []) path) ≡ cond (has_path files path) [] (picks_at uses path)
group_kept files uses u path then =
    ap (λ (l : List Pick). cond (has_path files path) [] l) (picks_more uses u path) ∙ kept_group (has_path files path) (bytes_eq u.path path) (picks_at uses path) (u.pick ∷ []) then

same_path : (a b : List ℕ) → bytes_eq a b ≡ true → a ≡ b
same_path a b is = (bytes_eq-Decides a b).0 is

-- what is read of another file
pub grouped_apart : (files : List DataFile) (uses : List Use) (u : Use) → has_path files u.path ≡ false → grouped files (uses ++ u ∷ []) ≡ grouped files uses
grouped_apart [] uses u not = refl
grouped_apart (file ∷ files) uses u not =
    let (here, later) = or_parts (bytes_eq file.path u.path) (has_path files u.path) not in
    ap₂ (λ (g : List Pick) (gs : List (List Pick)). g ∷ gs)
    (group_kept files uses u file.path (λ is. absurd (false≢true (sym here ∙ (bytes_eq-Decides file.path u.path).1 (sym (same_path u.path file.path is))))))
    (grouped_apart files uses u later)

abbrev added : List (List Pick) → ℕ → Pick → List (List Pick)
added groups n pick = set groups n (get_or groups n [] ++ pick ∷ [])

-- a further use is one of the last file of its path
pub grouped_more : (files : List DataFile) (uses : List Use) (u : Use) → has_path files u.path ≡ true → grouped files (uses ++ u ∷ []) ≡ added (grouped files uses) (last_at files u.path) u.pick
grouped_more [] uses u has = absurd (false≢true has)
grouped_more (file ∷ files) uses u has =
    let old : List Pick = cond (has_path files file.path) [] (picks_at uses file.path) in
    let groups = grouped files uses in
    let All : Bool → Type 0 = λ (b : Bool). grouped (file ∷ files) (uses ++ u ∷ []) ≡ added (old ∷ groups) (cond b (suc (last_at files u.path)) 0) u.pick in
    elim (cases_Bool (has_path files u.path)) [
      | inl later ↦
          let same : grouped (file ∷ files) (uses ++ u ∷ []) ≡ added (old ∷ groups) (suc (last_at files u.path)) u.pick =
          ap₂ (λ (g : List Pick) (gs : List (List Pick)). g ∷ gs) (group_kept files uses u file.path (λ is. subst (λ (p : List ℕ). has_path files p ≡ true) (same_path u.path file.path is) later)) (grouped_more files uses u later)
          in
          subst All (sym later) same
      | inr not ↦
          let is : file.path ≡ u.path = elim (or_cases (bytes_eq file.path u.path) (has_path files u.path) has) [
            | inl here ↦ same_path file.path u.path here
            | inr later ↦ absurd (true≢false (sym later ∙ not))
          ]
          in
          let none : has_path files file.path ≡ false = subst (λ (p : List ℕ). has_path files p ≡ false) (sym is) not in
          let here : bytes_eq u.path file.path ≡ true = (bytes_eq-Decides u.path file.path).1 (sym is) in
          let first : cond (has_path files file.path) [] (picks_at (uses ++ u ∷ []) file.path) ≡ old ++ u.pick ∷ [] =
          ap (λ (l : List Pick). cond (has_path files file.path) [] l) (picks_more uses u file.path ∙ ap (λ (b : Bool). picks_at uses file.path ++ cond b (u.pick ∷ []) []) here)
          ∙ ap (λ (b : Bool). cond b [] (picks_at uses file.path ++ u.pick ∷ [])) none
          ∙ ap (λ (b : Bool). cond b [] (picks_at uses file.path) ++ u.pick ∷ []) (sym none)
          in
          let same : grouped (file ∷ files) (uses ++ u ∷ []) ≡ added (old ∷ groups) 0 u.pick = ap₂ (λ (g : List Pick) (gs : List (List Pick)). g ∷ gs) first (grouped_apart files uses u not) in
          subst All (sym not) same
    ]

-- ---- one step of each loop

pub taken : {X : Type 0} (xs : List X) (i : ℕ) (x : X) → slice_get xs i ≡ Some x → take (i + 1) xs ≡ take i xs ++ x ∷ []
taken {X} xs i x at = take_more xs i x (slice_get_within xs i x at) ∙ ap (λ (y : X). take i xs ++ y ∷ []) (get_or_from_slice_get xs i x x at)

pub dropped : {X : Type 0} (xs : List X) (i : ℕ) (x : X) → slice_get xs i ≡ Some x → drop i xs ≡ x ∷ drop (i + 1) xs
dropped {X} xs i x at = drop_more xs i x (slice_get_within xs i x at) ∙ ap (λ (y : X). y ∷ drop (i + 1) xs) (get_or_from_slice_get xs i x x at)

pub last_step : (files : List DataFile) (i : ℕ) (f : DataFile) (path : List ℕ) (old new : Option ℕ) → slice_get files i ≡ Some f → old ≡ last_place (take i files) path → new ≡ cond (bytes_eq f.path path) (Some i) old → new ≡ last_place (take (i + 1) files) path
last_step files i f path old new at was is =
    let long : length (take i files) ≡ i = length-take-le i files (omega (arith, slice_get_within files i f at)) in
    is
    ∙ ap (λ (o : Option ℕ). cond (bytes_eq f.path path) (Some i) o) was
    ∙ ap (λ (n : ℕ). cond (bytes_eq f.path path) (Some n) (last_place (take i files) path)) (sym long)
    ∙ sym (place_more (take i files) f path)
    ∙ ap (λ (l : List DataFile). last_place l path) (sym (taken files i f at))

pub listed_at : (number k : ℕ) (ids columns : List ℤ) (i c id : ℤ) (old new first : Option Place) → slice_get ids k ≡ Some i → slice_get columns k ≡ Some c →
    new ≡ option_or old (cond (same i id) (placed number (own_column c)) None) → option_or old (placed number (column_listed (drop k ids) (drop k columns) id)) ≡ first →
    option_or new (placed number (column_listed (drop (k + 1) ids) (drop (k + 1) columns) id)) ≡ first
listed_at number k ids columns i c id old new first at_id at_column is was =
    listed_step number (drop (k + 1) ids) (drop (k + 1) columns) i c id old new is
    ∙ ap₂ (λ (a b : List ℤ). option_or old (placed number (column_listed a b id))) (sym (dropped ids k i at_id)) (sym (dropped columns k c at_column))
    ∙ was

pub listed_done : (number k : ℕ) (ids columns : List ℤ) (id : ℤ) (new first : Option Place) → min (length ids) (length columns) ≤ k →
    option_or new (placed number (column_listed (drop k ids) (drop k columns) id)) ≡ first → new ≡ first
listed_done number k ids columns id new first past was =
    elim (cases_lt k (length ids)) [
      | inl inside ↦ sym (listed_past number (drop k ids) (drop k columns) id new (drop_all k columns (omega (arith, past, inside)))) ∙ was
      | inr short ↦ sym (listed_end number (drop k ids) (drop k columns) id new (drop_all k ids short)) ∙ was
    ]

pub places_at : (all files : List DataFile) (i : ℕ) (file : DataFile) (number : ℕ) (id : ℤ) (old new first : Option Place) → i < length files → file ≡ get_or files i file → number ≡ last_at all file.path →
    new ≡ option_or old (placed number (column_listed file.ids file.columns id)) → option_or old (place_in all (drop i files) id) ≡ first → option_or new (place_in all (drop (i + 1) files) id) ≡ first
places_at all files i file number id old new first below item last is was =
    let cut : drop i files ≡ file ∷ drop (i + 1) files = drop_more files i file below ∙ ap (λ (f : DataFile). f ∷ drop (i + 1) files) (sym item) in
    places_step all (drop (i + 1) files) file number id old new last is ∙ ap (λ (l : List DataFile). option_or old (place_in all l id)) (sym cut) ∙ was

pub places_done : (all files : List DataFile) (i : ℕ) (id : ℤ) (new first : Option Place) → length files ≤ i → option_or new (place_in all (drop i files) id) ≡ first → new ≡ first
places_done all files i id new first past was = sym (places_end all id new) ∙ ap (λ (l : List DataFile). option_or new (place_in all l id)) (sym (drop_all i files past)) ∙ was

pub none_step : (files : List DataFile) (places : BTreeMap ℤ Place) (xs : List Leaf) (x : Leaf) → ArePlaces files places → get int_cmp places (signed x.id) ≡ None → uses_of files (plain_leaves (xs ++ x ∷ [])) ≡ uses_of files (plain_leaves xs)
none_step files places xs x are none =
    ap (uses_of files) (map_push plain_leaf xs x) ∙ uses_none files (plain_leaves xs) (plain_leaf x) (no_use files files (plain_leaf x) (sym (are.each (signed x.id)) ∙ none))

-- a leaf that the place's file gives
pub record StepUse (files : List DataFile) (xs : List Leaf) (x : Leaf) (p : Place) : Type 0 where
  pub used : Use
  pub more : uses_of files (plain_leaves (xs ++ x ∷ [])) ≡ uses_of files (plain_leaves xs) ++ used ∷ []
  pub file : last_at files used.path ≡ p.file
  pub pick : used.pick ≡ record { column = p.column; leaf = plain_leaf x }
  pub there : has_path files used.path ≡ true

pub some_step : (files : List DataFile) (places : BTreeMap ℤ Place) (xs : List Leaf) (x : Leaf) (p : Place) → ArePlaces files places → get int_cmp places (signed x.id) ≡ Some p → StepUse files xs x p
some_step files places xs x p are at =
    let found = found_use files files (plain_leaf x) p (sym (are.each (signed x.id)) ∙ at) in
    record {
      used = use_at found.path p.column (plain_leaf x);
      more = ap (uses_of files) (map_push plain_leaf xs x) ∙ uses_found files (plain_leaves xs) (plain_leaf x) (use_at found.path p.column (plain_leaf x)) found.is;
      file = sym found.file;
      pick = refl;
      there = found.there;
    }

pub numbers_step : (files : List DataFile) (xs : List Leaf) (x : Leaf) (p : Place) (old new : List ℕ) → StepUse files xs x p → old ≡ numbers_of files (uses_of files (plain_leaves xs)) → new ≡ old ++ p.file ∷ [] → new ≡ numbers_of files (uses_of files (plain_leaves (xs ++ x ∷ [])))
numbers_step files xs x p old new step was is =
    is
    ∙ ap₂ (λ (l : List ℕ) (n : ℕ). l ++ n ∷ []) was (sym step.file)
    ∙ sym (map_push (λ (used : Use). last_at files used.path) (uses_of files (plain_leaves xs)) step.used)
    ∙ ap (numbers_of files) (sym step.more)

pub picks_step : (files : List DataFile) (before : List Use) (xs : List Leaf) (x : Leaf) (p : Place) (picks : List (List ColumnPick)) (old new : List ColumnPick) → StepUse files xs x p →
    map picks_of picks ≡ grouped files (before ++ uses_of files (plain_leaves xs)) → slice_get picks p.file ≡ Some old → new ≡ old ++ record { column = p.column; leaf = x } ∷ [] →
    map picks_of (slice_set picks p.file new) ≡ grouped files (before ++ uses_of files (plain_leaves (xs ++ x ∷ [])))
picks_step files before xs x p picks old new step was at is =
    let uses = before ++ uses_of files (plain_leaves xs) in
    let pick : ColumnPick = record { column = p.column; leaf = x } in
    let held : get_or (map picks_of picks) p.file [] ≡ picks_of old = get_or_from_slice_get (map picks_of picks) p.file (picks_of old) [] (slice_get-map picks_of picks p.file ∙ ap (option_map picks_of) at) in
    let group : picks_of new ≡ get_or (map picks_of picks) p.file [] ++ step.used.pick ∷ [] =
    ap picks_of is ∙ map_push pick_of old pick ∙ ap₂ (λ (l : List Pick) (k : Pick). l ++ k ∷ []) (sym held) (sym step.pick)
    in
    map-set picks_of picks p.file new
    ∙ ap (λ (g : List Pick). set (map picks_of picks) p.file g) group
    ∙ ap (λ (gs : List (List Pick)). added gs p.file step.used.pick) was
    ∙ ap (λ (n : ℕ). added (grouped files uses) n step.used.pick) (sym step.file)
    ∙ sym (grouped_more files uses step.used step.there)
    ∙ ap (grouped files) (append_assoc before (uses_of files (plain_leaves xs)) (step.used ∷ []) ∙ ap (λ (l : List Use). before ++ l) (sym step.more))

-- the places of the files have numbers of theirs
pub all_within : (files : List DataFile) (places : BTreeMap ℤ Place) (n : ℕ) (id : ℤ) → ArePlaces files places → length files ≡ n → IfSome (get int_cmp places id) (λ (p : Place). p.file < n)
all_within files places n id are long = within files (get int_cmp places id) n (λ p at. subst (λ (m : ℕ). p.file < m) long (some_within files id p (sym (are.each id) ∙ at)))

pub no_picks_taken : (files : List DataFile) (i : ℕ) (groups : List (List Pick)) → length files ≤ i → groups ≡ map no_group (take i files) → groups ≡ grouped files []
no_picks_taken files i groups past is = is ∙ ap (map no_group) (take_all i files past) ∙ sym (grouped_none files)

-- ---- the fields

pub narrow_at : (fields : List Field) (i : ℕ) (f : Field) → All IsNarrow (map plain_field fields) → i < length fields → f ≡ get_or fields i f → IsNarrow (plain_field f)
narrow_at fields i f all below item =
    subst IsNarrow (get_or-map plain_field fields i f (plain_field f) below ∙ ap plain_field (sym item)) (all i (plain_field f) (omega (arith, below, length-map fields plain_field)))

more_fields : (fields : List Field) (i : ℕ) (f : Field) → i < length fields → f ≡ get_or fields i f → map plain_field (take (i + 1) fields) ≡ map plain_field (take i fields) ++ plain_field f ∷ []
more_fields fields i f below item = map_more plain_field fields i f below ∙ ap (λ (g : Field). map plain_field (take i fields) ++ plain_field g ∷ []) (sym item)

pub fields_step : (files : List DataFile) (fields : List Field) (i : ℕ) (f : Field) (leaves : List PlainLeaf) → i < length fields → f ≡ get_or fields i f → leaves ≡ leaves_of (plain_field f) 0 [] →
    uses_of files (leaves_in (map plain_field (take i fields))) ++ uses_of files leaves ≡ uses_of files (leaves_in (map plain_field (take (i + 1) fields)))
fields_step files fields i f leaves below item is =
    let before = map plain_field (take i fields) in
    ap (λ (l : List PlainLeaf). uses_of files (leaves_in before) ++ uses_of files l) is
    ∙ sym (uses_append files (leaves_in before) (leaves_of (plain_field f) 0 []))
    ∙ ap (uses_of files) (sym (leaves_more before (plain_field f)))
    ∙ ap (λ (l : List (PlainField ℕ)). uses_of files (leaves_in l)) (sym (more_fields fields i f below item))

pub field_numbers : (files : List DataFile) (fields : List Field) (i : ℕ) (f : Field) (leaves : List PlainLeaf) (old new : List (List ℕ)) (numbers : List ℕ) → i < length fields → f ≡ get_or fields i f → leaves ≡ leaves_of (plain_field f) 0 [] →
    numbers ≡ numbers_of files (uses_of files leaves) → old ≡ map (numbers_for files) (map plain_field (take i fields)) → new ≡ old ++ numbers ∷ [] → new ≡ map (numbers_for files) (map plain_field (take (i + 1) fields))
field_numbers files fields i f leaves old new numbers below item is mine was more =
    more
    ∙ ap₂ (λ (l : List (List ℕ)) (n : List ℕ). l ++ n ∷ []) was (mine ∙ ap (λ (l : List PlainLeaf). numbers_of files (uses_of files l)) is)
    ∙ sym (map_push (numbers_for files) (map plain_field (take i fields)) (plain_field f))
    ∙ ap (map (numbers_for files)) (sym (more_fields fields i f below item))

-- there are as many groups as files
pub groups_long : (files : List DataFile) (uses : List Use) (picks : List (List ColumnPick)) → map picks_of picks ≡ grouped files uses → length files ≡ length picks
groups_long files uses picks is = sym (length_grouped files uses) ∙ ap length (sym is) ∙ length-map picks picks_of
