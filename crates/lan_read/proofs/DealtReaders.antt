-- The cursors of files, dealt to the readers of fields.
use Rattle.std.proofs.Common.{◌≡◌, inl, inr, sym, ◌∙◌, ap, ap₂, refl, subst, ℕ, suc, Bool, true, false, cond, List, [], ◌∷◌, ◌++◌, map, take}
use Rattle.std.specs.Prelude.{◌⊎◌, ⊤, All, Option, Some, None, bytes_eq, slice_index_or}
use Rattle.std.specs.List.{AllZip}
use Rattle.std.proofs.lemmas.Bool.{cases_Bool, false≢true, or_cases, or_parts, true≢false}
use Rattle.std.proofs.lemmas.List.Elements.{All-head, All-tail}
use Rattle.std.proofs.lemmas.Slice.Eq.{bytes_eq-Decides}
use Rattle.lan_model.specs.Leaves.{PlainLeaf, leaves_of}
use Rattle.lan_model.specs.Plain.{PlainField}
use Rattle.lan_page.specs.ColumnCursors.{PlainCursor}
use Rattle.lan_file.specs.Heads.{Pick}
use Rattle.lan_manifest.specs.declared.manifest.DataFile.{DataFile}
use Rattle.lan_read.specs.Dealt.{AreOpened, dealt, left, reader_of, readers_of, without_first}
use Rattle.lan_read.specs.Grouped.{grouped, last_at, numbers_for, numbers_of}
use Rattle.lan_read.specs.Opened.{Use, and_use, has_path, leaves_in, picks_at, use_of, uses_of}
use Rattle.lan_read.proofs.Grouping.{uses_append}

abbrev Opens : Type 1
Opens = List ℕ → Pick → PlainCursor → Type 0

-- ---- the first cursor of a file

-- a use of another file
chosen : (has is : Bool) (pick : Pick) (picks : List Pick) → (is ≡ true → has ≡ true) → cond has [] (cond is (pick ∷ picks) picks) ≡ cond has [] picks
chosen true is pick picks then = refl
chosen false true pick picks then = absurd (false≢true (then refl))
chosen false false pick picks then = refl

same_path : (a b : List ℕ) → bytes_eq a b ≡ true → a ≡ b
same_path a b is = (bytes_eq-Decides a b).0 is

apart : (files : List DataFile) (u : Use) (uses : List Use) → has_path files u.path ≡ false → grouped files (u ∷ uses) ≡ grouped files uses
apart [] u uses not = refl
apart (file ∷ files) u uses not =
    let (here, later) = or_parts (bytes_eq file.path u.path) (has_path files u.path) not in
    ap₂ (λ (g : List Pick) (gs : List (List Pick)). g ∷ gs)
    (chosen (has_path files file.path) (bytes_eq u.path file.path) u.pick (picks_at uses file.path) (λ is. absurd (false≢true (sym here ∙ (bytes_eq-Decides file.path u.path).1 (sym (same_path u.path file.path is))))))
    (apart files u uses later)

-- the cursor of a use is the first that is left of its file's
pub record TakesFirst (P : Opens) (files : List DataFile) (u : Use) (uses : List Use) (opened : List (List PlainCursor)) (number : ℕ) : Type 0 where
  pub cursor : PlainCursor
  pub first : take 1 (slice_index_or opened number []) ≡ cursor ∷ []
  pub opens : P u.path u.pick cursor
  pub later : AreOpened P files (grouped files uses) (without_first opened number)

first_of_file : (P : Opens) (files : List DataFile) (file : DataFile) (u : Use) (uses : List Use) (cursors : List PlainCursor) (opened : List (List PlainCursor)) → file.path ≡ u.path →
    AllZip (P file.path) (u.pick ∷ cond (has_path files file.path) [] (picks_at uses file.path)) cursors → AreOpened P files (grouped files uses) opened → TakesFirst P (file ∷ files) u uses (cursors ∷ opened) 0
first_of_file P files file u uses [] opened is here later = absurd here
first_of_file P files file u uses (c ∷ cursors) opened is here later = record {
  cursor = c;
  first = refl;
  opens = subst (λ (p : List ℕ). P p u.pick c) is here.0;
  later = (here.1, later);
}

first_later : (P : Opens) (files : List DataFile) (file : DataFile) (u : Use) (uses : List Use) (cursors : List PlainCursor) (opened : List (List PlainCursor)) (number : ℕ) →
    AllZip (P file.path) (cond (has_path files file.path) [] (picks_at uses file.path)) cursors → TakesFirst P files u uses opened number → TakesFirst P (file ∷ files) u uses (cursors ∷ opened) (suc number)
first_later P files file u uses cursors opened number here t = record { cursor = t.cursor; first = t.first; opens = t.opens; later = (here, t.later) }

pub takes_first : (P : Opens) (files : List DataFile) (u : Use) (uses : List Use) (opened : List (List PlainCursor)) → has_path files u.path ≡ true → AreOpened P files (grouped files (u ∷ uses)) opened →
    TakesFirst P files u uses opened (last_at files u.path)
takes_first P [] u uses opened has are = absurd (false≢true has)
takes_first P (file ∷ files) u uses [] has are = absurd are
takes_first P (file ∷ files) u uses (cursors ∷ opened) has are =
    let Goal : Bool → Type 0 = λ (b : Bool). TakesFirst P (file ∷ files) u uses (cursors ∷ opened) (cond b (suc (last_at files u.path)) 0) in
    elim (cases_Bool (has_path files u.path)) [
      | inl later ↦
          let head : AllZip (P file.path) (cond (has_path files file.path) [] (picks_at uses file.path)) cursors =
          subst (λ (g : List Pick). AllZip (P file.path) g cursors)
          (chosen (has_path files file.path) (bytes_eq u.path file.path) u.pick (picks_at uses file.path) (λ is. subst (λ (p : List ℕ). has_path files p ≡ true) (same_path u.path file.path is) later)) are.0
          in
          subst Goal (sym later) (first_later P files file u uses cursors opened (last_at files u.path) head (takes_first P files u uses opened later are.1))
      | inr not ↦
          let is : file.path ≡ u.path = elim (or_cases (bytes_eq file.path u.path) (has_path files u.path) has) [
            | inl here ↦ same_path file.path u.path here
            | inr later ↦ absurd (true≢false (sym later ∙ not))
          ]
          in
          let none : has_path files file.path ≡ false = subst (λ (p : List ℕ). has_path files p ≡ false) (sym is) not in
          let here : bytes_eq u.path file.path ≡ true = (bytes_eq-Decides u.path file.path).1 (sym is) in
          let picks : cond (has_path files file.path) [] (picks_at (u ∷ uses) file.path) ≡ u.pick ∷ cond (has_path files file.path) [] (picks_at uses file.path) =
          ap (λ (b : Bool). cond b [] (picks_at (u ∷ uses) file.path)) none
          ∙ ap (λ (b : Bool). cond b (u.pick ∷ picks_at uses file.path) (picks_at uses file.path)) here
          ∙ ap (λ (b : Bool). u.pick ∷ cond b [] (picks_at uses file.path)) (sym none)
          in
          subst Goal (sym not)
          (first_of_file P files file u uses cursors opened is (subst (λ (g : List Pick). AllZip (P file.path) g cursors) picks are.0) (subst (λ (gs : List (List Pick)). AreOpened P files gs opened) (apart files u uses not) are.1))
    ]

-- ---- the cursors of leaves

-- each of the leaves is given
abbrev pub AllUsed : List DataFile → List PlainLeaf → Type 0
AllUsed files [] = ⊤
AllUsed files (leaf ∷ leaves) = ((used : Use) × (use_of files leaf ≡ Some used) × (has_path files used.path ≡ true)) × AllUsed files leaves

-- what is dealt, and what is left
pub record IsDealt (P : Opens) (R : PlainLeaf → PlainCursor → Type 0) (files : List DataFile) (leaves : List PlainLeaf) (rest : List Use) (numbers : List ℕ) (opened : List (List PlainCursor)) : Type 0 where
  pub each : AllZip R leaves (dealt numbers opened)
  pub later : AreOpened P files (grouped files rest) (left numbers opened)

abbrev pub Gives : Opens → (PlainLeaf → PlainCursor → Type 0) → List DataFile → Type 0
Gives P R files = (leaf : PlainLeaf) (used : Use) (c : PlainCursor) → use_of files leaf ≡ Some used → P used.path used.pick c → R leaf c

pub deal_leaves : (P : Opens) (R : PlainLeaf → PlainCursor → Type 0) (files : List DataFile) → Gives P R files → (leaves : List PlainLeaf) (rest : List Use) (opened : List (List PlainCursor)) → AllUsed files leaves →
    AreOpened P files (grouped files (uses_of files leaves ++ rest)) opened → IsDealt P R files leaves rest (numbers_of files (uses_of files leaves)) opened
deal_leaves P R files gives [] rest opened used are = record { each = tt; later = are }
deal_leaves P R files gives (leaf ∷ leaves) rest opened ((u, is, there), used) are =
    let uses = uses_of files leaves in
    let Are : List Use → Type 0 = λ (l : List Use). AreOpened P files (grouped files (l ++ rest)) opened in
    let t = takes_first P files u (uses ++ rest) opened there (subst (λ (o : Option Use). Are (and_use o uses)) is are) in
    let number = last_at files u.path in
    let later = deal_leaves P R files gives leaves rest (without_first opened number) used t.later in
    let Deals : List PlainCursor → Type 0 = λ (l : List PlainCursor). AllZip R (leaf ∷ leaves) (l ++ dealt (numbers_of files uses) (without_first opened number)) in
    let here : IsDealt P R files (leaf ∷ leaves) rest (numbers_of files (u ∷ uses)) opened =
    record { each = subst Deals (sym t.first) (gives leaf u t.cursor is t.opens, later.each); later = later.later }
    in
    subst (λ (o : Option Use). IsDealt P R files (leaf ∷ leaves) rest (numbers_of files (and_use o uses)) opened) (sym is) here

-- ---- the readers of fields

-- what a reader of the field is
abbrev pub Reader : Type 1
Reader = PlainField ℕ → Option (List PlainCursor) → Type 0

pub record Suits (Q : Reader) (R : PlainLeaf → PlainCursor → Type 0) (files : List DataFile) (f : PlainField ℕ) : Type 0 where
  pub used : AllUsed files (leaves_of f 0 []) ⊎ (uses_of files (leaves_of f 0 []) ≡ [])
  pub none : uses_of files (leaves_of f 0 []) ≡ [] → Q f None
  pub some : (cursors : List PlainCursor) → AllZip R (leaves_of f 0 []) cursors → Q f (Some cursors)

pub record FieldDealt (P : Opens) (Q : Reader) (files : List DataFile) (f : PlainField ℕ) (rest : List Use) (uses : List Use) (opened : List (List PlainCursor)) : Type 0 where
  pub reader : Q f (reader_of (numbers_of files uses) opened)
  pub later : AreOpened P files (grouped files rest) (left (numbers_of files uses) opened)

none_dealt : (P : Opens) (Q : Reader) (files : List DataFile) (f : PlainField ℕ) (rest uses : List Use) (opened : List (List PlainCursor)) → uses ≡ [] → Q f None → AreOpened P files (grouped files (uses ++ rest)) opened → FieldDealt P Q files f rest uses opened
none_dealt P Q files f rest [] opened is none are = record { reader = none; later = are }
none_dealt P Q files f rest (u ∷ uses) opened is none are = absurd (cc is)

some_dealt : (P : Opens) (Q : Reader) (R : PlainLeaf → PlainCursor → Type 0) (files : List DataFile) (f : PlainField ℕ) (rest uses : List Use) (opened : List (List PlainCursor)) →
    (uses ≡ [] → Q f None) → ((cursors : List PlainCursor) → AllZip R (leaves_of f 0 []) cursors → Q f (Some cursors)) → IsDealt P R files (leaves_of f 0 []) rest (numbers_of files uses) opened → FieldDealt P Q files f rest uses opened
some_dealt P Q R files f rest [] opened none some d = record { reader = none refl; later = d.later }
some_dealt P Q R files f rest (u ∷ uses) opened none some d = record { reader = some (dealt (numbers_of files (u ∷ uses)) opened) d.each; later = d.later }

field_dealt : (P : Opens) (Q : Reader) (R : PlainLeaf → PlainCursor → Type 0) (files : List DataFile) → Gives P R files → (f : PlainField ℕ) (rest : List Use) (opened : List (List PlainCursor)) → Suits Q R files f →
    AreOpened P files (grouped files (uses_of files (leaves_of f 0 []) ++ rest)) opened → FieldDealt P Q files f rest (uses_of files (leaves_of f 0 [])) opened
field_dealt P Q R files gives f rest opened suits are =
    elim suits.used [
      | inl all ↦ some_dealt P Q R files f rest (uses_of files (leaves_of f 0 [])) opened suits.none suits.some (deal_leaves P R files gives (leaves_of f 0 []) rest opened all are)
      | inr empty ↦ none_dealt P Q files f rest (uses_of files (leaves_of f 0 [])) opened empty (suits.none empty) are
    ]

pub fields_dealt : (P : Opens) (Q : Reader) (R : PlainLeaf → PlainCursor → Type 0) (files : List DataFile) → Gives P R files → (fields : List (PlainField ℕ)) (opened : List (List PlainCursor)) → All (Suits Q R files) fields →
    AreOpened P files (grouped files (uses_of files (leaves_in fields))) opened → AllZip Q fields (readers_of (map (numbers_for files) fields) opened)
fields_dealt P Q R files gives [] opened suit are = tt
fields_dealt P Q R files gives (f ∷ fields) opened suit are =
    let uses = uses_of files (leaves_of f 0 []) in
    let rest = uses_of files (leaves_in fields) in
    let d = field_dealt P Q R files gives f rest opened (All-head (Suits Q R files) f fields suit) (subst (λ (l : List Use). AreOpened P files (grouped files l) opened) (uses_append files (leaves_of f 0 []) (leaves_in fields)) are) in
    (d.reader, fields_dealt P Q R files gives fields (left (numbers_of files uses) opened) (All-tail (Suits Q R files) f fields suit) d.later)
