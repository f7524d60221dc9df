-- Which texts name leaf types.
use Rattle.std.proofs.Common.{◌≡◌, ◌≢◌, inl, inr, refl, sym, ◌∙◌, ap, subst, ℕ, ◌<◌, ◌≤◌, Bool, true, false, List, [], ◌∷◌, ◌++◌, arith, append_assoc}
use Rattle.std.specs.Prelude.{cond, ◌&&◌, nat_lt, nat_le, bytes_eq, codes, decimal, Option, Some, None, option_and_then, option_map, ⊤, nat_eq}
use Rattle.std.specs.Option.{option_or}
use Rattle.std.specs.Str.Parse.{digits_value}
use Rattle.std.proofs.lemmas.Bool.{cases_Bool}
use Rattle.std.proofs.lemmas.Bool.Decides.{nat_tests}
use Rattle.std.proofs.lemmas.Slice.Eq.{bytes_eq-Decides}
use Rattle.lan_model.specs.declared.tree.Primitive.{Primitive}
use Rattle.lan_model.specs.declared.tree.Primitive.TheVariants as p
use Rattle.lan_model.specs.Plain.{PlainType, primitive, vector, text, bytes, list, struct}
use Rattle.lan_schema.specs.FieldTree.{name_of, logical_of}
use Rattle.lan_schema.specs.Logical.{named, items_of_vectors, behind, count_in, cut_last, counted, vector_of, IsLeafType}
use Rattle.lan_schema.specs.LogicalLaws.{NamesLeaf, IsNamedOnce}
use Rattle.lan_schema.proofs.LogicalParts.{behind_front, cut_at, count_is, decimal_lacks}

-- a vector's primitive has its name among those
item_named : (q : Primitive) → q ≢ p.Bool → named (name_of q) items_of_vectors ≡ Some q
item_named p.Bool other = absurd (other refl)
item_named p.Int8 other = refl
item_named p.Int16 other = refl
item_named p.Int32 other = refl
item_named p.Int64 other = refl
item_named p.Uint8 other = refl
item_named p.Uint16 other = refl
item_named p.Uint32 other = refl
item_named p.Uint64 other = refl
item_named p.Half other = refl
item_named p.Float other = refl
item_named p.Double other = refl
item_named p.Date other = refl

vector_named : (q : Primitive) (n : ℕ) → q ≢ p.Bool → 0 < n → n ≤ 65536 → vector_of (codes "fixed_size_list:" ++ name_of q ++ codes ":" ++ decimal n) ≡ Some (vector q n)
unfolding vector_of
vector_named q n other some few =
    let count : count_in (decimal n) ≡ Some n = count_is (decimal n) n (omega arith) refl ∙ grind (arith, nat_tests, some, few) in
    ap (option_and_then (λ r. option_and_then counted (cut_last 58 r))) (behind_front (codes "fixed_size_list:") ((name_of q ++ codes ":") ++ decimal n))
    ∙ ap (λ l. option_and_then counted (cut_last 58 l)) (append_assoc (name_of q) (codes ":") (decimal n)) ∙ ap (option_and_then counted) (cut_at 58 (name_of q) (decimal n) (decimal_lacks n (omega arith))) ∙ rw (item_named q other, count) refl

pub names_leaf : (t : PlainType ℕ) → NamesLeaf t
names_leaf (primitive p.Bool) h = refl
names_leaf (primitive p.Int8) h = refl
names_leaf (primitive p.Int16) h = refl
names_leaf (primitive p.Int32) h = refl
names_leaf (primitive p.Int64) h = refl
names_leaf (primitive p.Uint8) h = refl
names_leaf (primitive p.Uint16) h = refl
names_leaf (primitive p.Uint32) h = refl
names_leaf (primitive p.Uint64) h = refl
names_leaf (primitive p.Half) h = refl
names_leaf (primitive p.Float) h = refl
names_leaf (primitive p.Double) h = refl
names_leaf (primitive p.Date) h = refl
names_leaf (vector q n) h = vector_named q n h.0 h.1 h.2
names_leaf text h = refl
names_leaf bytes h = refl
names_leaf (list item) h = absurd h
names_leaf (struct members) h = absurd h

-- ---- and the other way

-- each of them
abbrev Each : (Primitive → Type 0) → List Primitive → Type 0
Each P [] = ⊤
Each P (q ∷ qs) = P q × Each P qs

-- what is found by its name has that name, and is among those
found_named : (P : Primitive → Type 0) (s : List ℕ) (qs : List Primitive) (q : Primitive) → Each P qs → named s qs ≡ Some q → P q × (s ≡ name_of q)
found_named P s [] q each is = absurd (cc is)
found_named P s (r ∷ qs) q each is =
    elim (cases_Bool (bytes_eq s (name_of r))) [
      | inl same ↦
          let here : Some r ≡ Some q = subst (λ b. cond b (Some r) (named s qs) ≡ Some q) same is in
          let found : r ≡ q = cc here in
          (subst P found each.0, (bytes_eq-Decides s (name_of r)).0 same ∙ ap name_of found)
      | inr differs ↦ found_named P s qs q each.1 (subst (λ b. cond b (Some r) (named s qs) ≡ Some q) differs is)
    ]

none_is_bool : Each (λ q. q ≢ p.Bool) items_of_vectors
none_is_bool = (λ e. absurd (cc e), (λ e. absurd (cc e), (λ e. absurd (cc e), (λ e. absurd (cc e), (λ e. absurd (cc e), (λ e. absurd (cc e), (λ e. absurd (cc e), (λ e. absurd (cc e), (λ e. absurd (cc e), (λ e. absurd (cc e), (λ e. absurd (cc e), (λ e. absurd (cc e), tt))))))))))))

all_primitives : (qs : List Primitive) → Each (λ q. ⊤) qs
all_primitives [] = tt
all_primitives (q ∷ qs) = (tt, all_primitives qs)

behind_some : (front s rest : List ℕ) → behind front s ≡ Some rest → s ≡ front ++ rest
behind_some [] s rest is = cc is
behind_some (c ∷ front) [] rest is = absurd (cc is)
behind_some (c ∷ front) (d ∷ s) rest is =
    elim (cases_Bool (nat_eq c d)) [
      | inl same ↦
          let equal : c ≡ d = grind (arith, nat_tests, same) in
          let further = behind_some front s rest (subst (λ b. cond b (behind front s) None ≡ Some rest) same is) in
          cc (equal, further)
      | inr differs ↦ absurd (cc (subst (λ b. cond b (behind front s) None ≡ Some rest) differs is))
    ]

cut_some_by : (c b : ℕ) (s x y : List ℕ) (later : Option (List ℕ × List ℕ)) → ((v w : List ℕ) → later ≡ Some (v, w) → s ≡ v ++ c ∷ w)
    → option_or {T = List ℕ × List ℕ} (option_map (λ cut. (b ∷ cut.0, cut.1)) later) (cond (nat_eq b c) (Some ([], s)) None) ≡ Some (x, y) → b ∷ s ≡ x ++ c ∷ y
cut_some_by c b s x y (Some (v, w)) further is =
    let found : List ℕ × List ℕ = (b ∷ v, w) in
    let wanted : List ℕ × List ℕ = (x, y) in
    let pair : found ≡ wanted = cc is in
    let first : b ∷ v ≡ x = ap (λ cut. cut.0) pair in
    let second : w ≡ y = ap (λ cut. cut.1) pair in
    rw (← first, ← second) (ap (λ l. b ∷ l) (further v w refl))
cut_some_by c b s x y None further is =
    elim (cases_Bool (nat_eq b c)) [
      | inl same ↦
          let equal : b ≡ c = grind (arith, nat_tests, same) in
          let one : Option (List ℕ × List ℕ) = Some ([], s) in
          let here : one ≡ Some (x, y) = subst (λ t. cond t one None ≡ Some (x, y)) same is in
          let given : List ℕ × List ℕ = ([], s) in
          let wanted : List ℕ × List ℕ = (x, y) in
          let pair : given ≡ wanted = cc here in
          let first : [] ≡ x = ap (λ cut. cut.0) pair in
          let second : s ≡ y = ap (λ cut. cut.1) pair in
          rw (← first, ← second, equal) refl
      | inr differs ↦ (let one : Option (List ℕ × List ℕ) = Some ([], s) in absurd (cc (subst (λ t. cond t one None ≡ Some (x, y)) differs is)))
    ]

cut_some : (c : ℕ) (s x y : List ℕ) → cut_last c s ≡ Some (x, y) → s ≡ x ++ c ∷ y
unfolding cut_last
cut_some c [] x y is = absurd (cc is)
cut_some c (b ∷ s) x y is = cut_some_by c b s x y (cut_last c s) (λ v w e. cut_some c s v w e) is

small_parts : (b c d : Bool) (m n : ℕ) → cond (b && (c && d)) (Some m) None ≡ Some n → (b ≡ true) × (c ≡ true) × (d ≡ true) × (m ≡ n)
small_parts true true true m n is = (refl, refl, refl, cc is)
small_parts true true false m n is = absurd (cc is)
small_parts true false d m n is = absurd (cc is)
small_parts false c d m n is = absurd (cc is)

count_some : (s : List ℕ) (n : ℕ) → count_in s ≡ Some n → (s ≡ decimal n) × (0 < n) × (n ≤ 65536)
unfolding count_in
count_some s n is =
    let v = digits_value 10 s in
    let parts = small_parts (bytes_eq s (decimal v)) (nat_lt 0 v) (nat_le v 65536) v n is in
    let some : 0 < v = grind (arith, nat_tests, parts.1) in
    let few : v ≤ 65536 = grind (arith, nat_tests, parts.2) in
    ((bytes_eq-Decides s (decimal v)).0 parts.0 ∙ ap decimal parts.3, omega (arith, some, parts.3), omega (arith, few, parts.3))

-- what an answer in two steps says
and_then_some : {A B : Type 0} (o : Option A) (f : A → Option B) (b : B) → option_and_then f o ≡ Some b → (a : A) × (o ≡ Some a) × (f a ≡ Some b)
and_then_some None f b is = absurd (cc is)
and_then_some (Some a) f b is = (a, refl, is)

map_some : {A B : Type 0} (o : Option A) (f : A → B) (b : B) → option_map f o ≡ Some b → (a : A) × (o ≡ Some a) × (f a ≡ b)
map_some None f b is = absurd (cc is)
map_some (Some a) f b is = (a, refl, cc is)

joined : (s a b name count : List ℕ) → s ≡ codes "fixed_size_list:" ++ (a ++ 58 ∷ b) → a ≡ name → b ≡ count → s ≡ codes "fixed_size_list:" ++ name ++ codes ":" ++ count
joined s a b name count whole first second =
    whole ∙ ap (λ l. codes "fixed_size_list:" ++ (l ++ 58 ∷ b)) first ∙ ap (λ l. codes "fixed_size_list:" ++ (name ++ 58 ∷ l)) second
    ∙ ap (λ l. codes "fixed_size_list:" ++ l) (sym (append_assoc name (codes ":") count))

vector_once : (s : List ℕ) (t : PlainType ℕ) → vector_of s ≡ Some t → IsLeafType t × (s ≡ logical_of t)
unfolding vector_of
vector_once s t is =
    let (rest, rest_is, then) = and_then_some (behind (codes "fixed_size_list:") s) (λ r. option_and_then counted (cut_last 58 r)) t is in
    let (cut, cut_is, next) = and_then_some (cut_last 58 rest) counted t then in
    let (q, q_is, last) = and_then_some (named cut.0 items_of_vectors) (λ q. option_map (vector q) (count_in cut.1)) t next in
    let (n, n_is, same) = map_some (count_in cut.1) (vector q) t last in
    let of_q = found_named (λ r. r ≢ p.Bool) cut.0 items_of_vectors q none_is_bool q_is in
    let of_n = count_some cut.1 n n_is in
    let whole : s ≡ codes "fixed_size_list:" ++ (cut.0 ++ 58 ∷ cut.1) = behind_some (codes "fixed_size_list:") s rest rest_is ∙ ap (λ l. codes "fixed_size_list:" ++ l) (cut_some 58 rest cut.0 cut.1 cut_is) in
    subst (λ u. IsLeafType u × (s ≡ logical_of u)) same
    ((of_q.0, of_n.1, of_n.2), joined s cut.0 cut.1 (name_of q) (decimal n) whole of_q.1 of_n.0)

rest_once : (s : List ℕ) (t : PlainType ℕ) (o : Option Primitive) → o ≡ named s (p.Bool ∷ items_of_vectors) → option_or (option_map primitive o) (vector_of s) ≡ Some t → IsLeafType t × (s ≡ logical_of t)
rest_once s t None found is = vector_once s t is
rest_once s t (Some q) found is =
    let same : primitive q ≡ t = cc is in
    subst (λ u. IsLeafType u × (s ≡ logical_of u)) same (tt, (found_named (λ r. ⊤) s (p.Bool ∷ items_of_vectors) q (all_primitives (p.Bool ∷ items_of_vectors)) (sym found)).1)

pub named_once : (s : List ℕ) (t : PlainType ℕ) → IsNamedOnce s t
named_once s t is =
    let others = option_or (option_map primitive (named s (p.Bool ∷ items_of_vectors))) (vector_of s) in
    let past = cond (bytes_eq s (codes "binary")) (Some bytes) others in
    elim (cases_Bool (bytes_eq s (codes "string"))) [
      | inl same ↦
          let here : Some text ≡ Some t = subst (λ b. cond b (Some text) past ≡ Some t) same is in
          let equal : text ≡ t = cc here in
          subst (λ u. IsLeafType u × (s ≡ logical_of u)) equal (tt, (bytes_eq-Decides s (codes "string")).0 same)
      | inr differs ↦
          let left : past ≡ Some t = subst (λ b. cond b (Some text) past ≡ Some t) differs is in
          elim (cases_Bool (bytes_eq s (codes "binary"))) [
            | inl same ↦
                let here : Some bytes ≡ Some t = subst (λ b. cond b (Some bytes) others ≡ Some t) same left in
                let equal : bytes ≡ t = cc here in
                subst (λ u. IsLeafType u × (s ≡ logical_of u)) equal (tt, (bytes_eq-Decides s (codes "binary")).0 same)
            | inr other ↦ rest_once s t (named s (p.Bool ∷ items_of_vectors)) refl (subst (λ b. cond b (Some bytes) others ≡ Some t) other left)
          ]
    ]
