-- What the fronts of a chain's objects stand for.
use Rattle.std.proofs.Common.{◌≡◌, inl, inr, refl, sym, ◌∙◌, ap, subst, ℕ, zero, suc, ◌+◌, ◌-◌, ◌<◌, ◌≤◌, List, [], ◌∷◌, ◌++◌, length, take, arith, append_assoc, append-nil, length-append, true, false}
use Rattle.std.specs.Prelude.{Bool, cond, MatchBool, ⊤}
use Rattle.std.proofs.lemmas.Bool.{cases_lt}
use Rattle.lan_model.specs.Dataset.{Dataset}
use Rattle.lan_store.specs.declared.name.Object.{Object}
use Rattle.lan_read.specs.Tables.{AgreesWith}
use Rattle.lance_cli.specs.Chain.{Link, IsLink, Chain, outcomes_of, puts_of, changes, after_changes, IsFront}
use Rattle.lance_cli.specs.Replies.{Told, Mode, said_by, goes_on, left_by, left_after}
use Rattle.lance_cli.proofs.StepStands.{Stepped, is_accepted, step_stands}

-- links one behind the other, whatever they were told by
abbrev pub Links : List Object → Dataset → List Link → Type 0
Links objects d [] = ⊤
Links objects d (link ∷ links) = IsLink objects d link × Links (objects ++ link.puts) (left_by d link.outcome) links

behind_link : (on : Bool) (objects : List Object) (d : Dataset) (links : List Link) (Behind : Type 0) → (Behind → Links objects d links) → MatchBool on Behind (links ≡ []) → Links objects d links
behind_link true objects d links Behind go chain = go chain
behind_link false objects d links Behind go none = subst (Links objects d) (sym none) tt

pub links_of : (mode : Mode) (objects : List Object) (d : Dataset) (told : List Told) (links : List Link) → Chain mode objects d told links → Links objects d links
links_of mode objects d [] [] chain = tt
links_of mode objects d [] (link ∷ links) chain = absurd (cc chain)
links_of mode objects d (told ∷ more) [] chain = absurd chain
links_of mode objects d (told ∷ more) (link ∷ links) (same, is, behind) =
    (is, behind_link (goes_on mode (said_by link.outcome)) (objects ++ link.puts) (left_by d link.outcome) links (Chain mode (objects ++ link.puts) (left_by d link.outcome) more links) (λ chain. links_of mode (objects ++ link.puts) (left_by d link.outcome) more links chain) behind)

-- ---- fronts of lists

pub take_within : {X : Type 0} (xs ys : List X) (k : ℕ) → k ≤ length xs → take k (xs ++ ys) ≡ take k xs
take_within [] [] zero within = refl
take_within [] (y ∷ ys) zero within = refl
take_within [] ys (suc k) within = absurd (omega (arith, within))
take_within (x ∷ xs) ys zero within = refl
take_within (x ∷ xs) ys (suc k) within = ap (λ l. x ∷ l) (take_within xs ys k (omega (arith, within)))

pub take_past : {X : Type 0} (xs ys : List X) (k : ℕ) → take (length xs + k) (xs ++ ys) ≡ xs ++ take k ys
take_past [] ys k = let same : 0 + k ≡ k = omega arith in ap (λ n. take n ys) same
take_past (x ∷ xs) ys k =
    let same : length (x ∷ xs) + k ≡ suc (length xs + k) = omega arith in
    ap (λ n. take n (x ∷ (xs ++ ys))) same ∙ ap (λ l. x ∷ l) (take_past xs ys k)

-- ---- one link more in front

-- how many versions more a link makes
abbrev pub count : Link → ℕ
count link = cond (is_accepted link.told.request.asked link.outcome) 1 0

pub changes_more : (link : Link) (links : List Link) → length (changes (link ∷ links)) ≡ count link + length (changes links)
changes_more link links = elim (is_accepted link.told.request.asked link.outcome) as (λ b. length (cond b (link ∷ changes links) (changes links)) ≡ cond b 1 0 + length (changes links)) [
  | true ↦ omega arith
  | false ↦ omega arith
]

after_more : (d : Dataset) (link : Link) (links : List Link) (m : ℕ) → (is_accepted link.told.request.asked link.outcome ≡ false → left_by d link.outcome ≡ d) → after_changes d (link ∷ links) (count link + m) ≡ after_changes (left_by d link.outcome) links m
after_more d link links m same = go (is_accepted link.told.request.asked link.outcome) same where
  go : (b : Bool) → (b ≡ false → left_by d link.outcome ≡ d) → left_after d (outcomes_of (take (cond b 1 0 + m) (cond b (link ∷ changes links) (changes links)))) ≡ after_changes (left_by d link.outcome) links m
  go true other = let one : 1 + m ≡ suc m = omega arith in ap (λ n. left_after d (outcomes_of (take n (link ∷ changes links)))) one
  go false kept =
      let none : 0 + m ≡ m = omega arith in
      ap (λ n. left_after d (outcomes_of (take n (changes links)))) none ∙ ap (λ e. left_after e (outcomes_of (take m (changes links)))) (sym (kept refl))

listed_more : (d : Dataset) (link : Link) (n : ℕ) → (is_accepted link.told.request.asked link.outcome ≡ false → left_by d link.outcome ≡ d) → (is_accepted link.told.request.asked link.outcome ≡ true → length (left_by d link.outcome).listed ≡ length d.listed + 1)
    → length (left_by d link.outcome).listed + n ≡ length d.listed + (count link + n)
listed_more d link n same more = go (is_accepted link.told.request.asked link.outcome) same more where
  go : (b : Bool) → (b ≡ false → left_by d link.outcome ≡ d) → (b ≡ true → length (left_by d link.outcome).listed ≡ length d.listed + 1) → length (left_by d link.outcome).listed + n ≡ length d.listed + (cond b 1 0 + n)
  go true kept grown = omega (arith, grown refl)
  go false kept grown = omega (arith, ap (λ (l : Dataset). length l.listed) (kept refl))

-- a front of what is behind a link is one of the whole
pub front_behind : (old : List Object) (d : Dataset) (link : Link) (links : List Link) (m : ℕ) (part : List Object) → Stepped old d link.told.request.asked link.outcome link.puts → IsFront (old ++ link.puts) (left_by d link.outcome) links m part → IsFront old d (link ∷ links) (count link + m) part
front_behind old d link links m part s f =
    let (k, within, is) = f.puts in
    record {
      within = omega (arith, changes_more link links, f.within);
      agrees = subst (AgreesWith part) (sym (after_more d link links m s.same)) f.agrees;
      listed = ap (λ (l : Dataset). length l.listed) (after_more d link links m s.same) ∙ f.listed ∙ listed_more d link m s.same s.more;
      puts = (
        length link.puts + k,
        omega (arith, within, length-append link.puts (puts_of links)),
        is ∙ append_assoc old link.puts (take k (puts_of links)) ∙ ap (λ l. old ++ l) (sym (take_past link.puts (puts_of links) k)),
      );
    }

-- nothing is put yet, or a part of what the first link puts
pub front_first : (old : List Object) (d : Dataset) (links : List Link) (k : ℕ) (part : List Object) → AgreesWith part d → k ≤ length (puts_of links) → part ≡ old ++ take k (puts_of links) → IsFront old d links 0 part
front_first old d links k part agrees within is =
    let none : take 0 (changes links) ≡ [] = nothing (changes links) in
    let same : after_changes d links 0 ≡ d = ap (λ l. left_after d (outcomes_of l)) none in
    record {
      within = omega arith;
      agrees = subst (AgreesWith part) (sym same) agrees;
      listed = ap (λ (l : Dataset). length l.listed) same ∙ omega arith;
      puts = (k, within, is);
    } where
      nothing : (l : List Link) → take 0 l ≡ []
      nothing [] = refl
      nothing (x ∷ xs) = refl

nothing_taken : (l : List Object) → take 0 l ≡ []
nothing_taken [] = refl
nothing_taken (o ∷ os) = refl

-- ---- the fronts of a chain

-- each front of the objects stands for the dataset after so many accepted changes
pub fronts : (old : List Object) (d : Dataset) (links : List Link) (k : ℕ) → AgreesWith old d → Links old d links → k ≤ length (puts_of links) → (m : ℕ) × IsFront old d links m (old ++ take k (puts_of links))
fronts old d [] k agrees chain within =
    let none : k ≡ 0 = omega (arith, within) in
    let part : old ++ take k [] ≡ old = ap (λ n. old ++ take n []) none ∙ append-nil old in
    (0, front_first old d [] k (old ++ take k []) (subst (λ (l : List Object). AgreesWith l d) (sym part) agrees) within refl)
fronts old d (link ∷ links) k agrees (is, behind) within =
    let s = step_stands old d link agrees is in
    elim (cases_lt k (length link.puts)) [
      | inl below ↦
          let part : old ++ take k (link.puts ++ puts_of links) ≡ old ++ take k link.puts = ap (λ l. old ++ l) (take_within link.puts (puts_of links) k (omega (arith, below))) in
          (0, front_first old d (link ∷ links) k (old ++ take k (link.puts ++ puts_of links)) (subst (λ l. AgreesWith l d) (sym part) (s.before k below)) within refl)
      | inr past ↦
          let rest : ℕ = k - length link.puts in
          let whole : k ≡ length link.puts + rest = omega (arith, past) in
          let (m, front) = fronts (old ++ link.puts) (left_by d link.outcome) links rest s.after behind (omega (arith, within, length-append link.puts (puts_of links))) in
          let part : (old ++ link.puts) ++ take rest (puts_of links) ≡ old ++ take k (link.puts ++ puts_of links) =
          append_assoc old link.puts (take rest (puts_of links)) ∙ ap (λ l. old ++ l) (sym (take_past link.puts (puts_of links) rest)) ∙ ap (λ n. old ++ take n (link.puts ++ puts_of links)) (sym whole) in
          (count link + m, subst (IsFront old d (link ∷ links) (count link + m)) part (front_behind old d link links m ((old ++ link.puts) ++ take rest (puts_of links)) s front))
    ]

-- what is put of the first links stands for the dataset after their accepted changes
pub front_done : (old : List Object) (d : Dataset) (before behind : List Link) → AgreesWith old d → Links old d (before ++ behind) → IsFront old d (before ++ behind) (length (changes before)) (old ++ puts_of before)
front_done old d [] behind agrees chain =
    front_first old d behind 0 (old ++ []) (subst (λ (l : List Object). AgreesWith l d) (sym (append-nil old)) agrees) (omega arith) (ap (λ l. old ++ l) (sym (nothing_taken (puts_of behind))))
front_done old d (link ∷ before) behind agrees (is, chain) =
    let s = step_stands old d link agrees is in
    let front = front_done (old ++ link.puts) (left_by d link.outcome) before behind s.after chain in
    let whole = front_behind old d link (before ++ behind) (length (changes before)) ((old ++ link.puts) ++ puts_of before) s front in
    subst (λ m. IsFront old d (link ∷ (before ++ behind)) m (old ++ (link.puts ++ puts_of before))) (sym (changes_more link before))
    (subst (IsFront old d (link ∷ (before ++ behind)) (count link + length (changes before))) (append_assoc old link.puts (puts_of before)) whole)

-- and so does what is put of them and a part of the next, but for its last object
pub front_within : (old : List Object) (d : Dataset) (before behind : List Link) (at : Link) (put : ℕ) → AgreesWith old d → Links old d (before ++ at ∷ behind) → put < length at.puts
    → IsFront old d (before ++ at ∷ behind) (length (changes before)) ((old ++ puts_of before) ++ take put at.puts)
front_within old d [] behind at put agrees (is, chain) below =
    let s = step_stands old d at agrees is in
    let part : (old ++ []) ++ take put at.puts ≡ old ++ take put at.puts = ap (λ (l : List Object). l ++ take put at.puts) (append-nil old) in
    let here : old ++ take put at.puts ≡ old ++ take put (at.puts ++ puts_of behind) = ap (λ l. old ++ l) (sym (take_within at.puts (puts_of behind) put (omega (arith, below)))) in
    front_first old d (at ∷ behind) put ((old ++ []) ++ take put at.puts) (subst (λ l. AgreesWith l d) (sym part) (s.before put below)) (omega (arith, below, length-append at.puts (puts_of behind))) (part ∙ here)
front_within old d (link ∷ before) behind at put agrees (is, chain) below =
    let s = step_stands old d link agrees is in
    let front = front_within (old ++ link.puts) (left_by d link.outcome) before behind at put s.after chain below in
    let whole = front_behind old d link (before ++ at ∷ behind) (length (changes before)) (((old ++ link.puts) ++ puts_of before) ++ take put at.puts) s front in
    subst (λ m. IsFront old d (link ∷ (before ++ at ∷ behind)) m ((old ++ (link.puts ++ puts_of before)) ++ take put at.puts)) (sym (changes_more link before))
    (subst (λ l. IsFront old d (link ∷ (before ++ at ∷ behind)) (count link + length (changes before)) (l ++ take put at.puts)) (append_assoc old link.puts (puts_of before)) whole)

-- at every step the objects stand for the dataset after the links before it
pub steps_agree : (old : List Object) (d : Dataset) (before behind : List Link) → AgreesWith old d → Links old d (before ++ behind) → AgreesWith (old ++ puts_of before) (left_after d (outcomes_of before))
steps_agree old d [] behind agrees chain = subst (λ (l : List Object). AgreesWith l d) (sym (append-nil old)) agrees
steps_agree old d (link ∷ before) behind agrees (is, chain) =
    subst (λ l. AgreesWith l (left_after (left_by d link.outcome) (outcomes_of before))) (append_assoc old link.puts (puts_of before))
    (steps_agree (old ++ link.puts) (left_by d link.outcome) before behind (step_stands old d link agrees is).after chain)
