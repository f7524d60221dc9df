-- What stands at each moment of a run, and at its end.
use Rattle.std.proofs.Common.{◌≡◌, inl, inr, refl, sym, ◌∙◌, ap, subst, ℕ, zero, suc, ◌+◌, ◌-◌, ◌≤◌, List, [], ◌∷◌, ◌++◌, length, take, arith, append_assoc, append-nil, length-append}
use Rattle.std.specs.Prelude.{Option, Some, Result, Ok, Err, ◌⊎◌}
use Rattle.std.proofs.lemmas.Option.{same_Some}
use Rattle.std.proofs.lemmas.List.{take_all}
use Rattle.std.proofs.lemmas.Bool.{cases_lt}
use Rattle.lan_model.specs.Dataset.{Dataset}
use Rattle.lan_store.specs.declared.name.Object.{Object}
use Rattle.lan_read.specs.Tables.{AgreesWith}
use Rattle.lance_cli.specs.Chain.{Link, puts_of, changes, is_done, IsFront}
use Rattle.lance_cli.specs.Replies.{Mode}
use Rattle.lance_cli.specs.Runs.{Entry, Done, IsPart, StopsAt, Stand, StoppedIn, Stops, Moments}
use Rattle.lance_cli.specs.declared.fault.Fault.{Fault}
use Rattle.lance_cli.specs.declared.fault.Fault.TheVariants as fault
use Rattle.lance_cli.proofs.Fronts.{Links, links_of, take_within, take_past, fronts, front_done, front_within, changes_more}

front_of_front : {X : Type 0} (xs : List X) (i k : ℕ) → i ≤ k → take i (take k xs) ≡ take i xs
front_of_front [] zero k within = refl
front_of_front [] (suc i) zero within = refl
front_of_front [] (suc i) (suc k) within = refl
front_of_front (x ∷ xs) zero k within = refl
front_of_front (x ∷ xs) (suc i) zero within = absurd (omega (arith, within))
front_of_front (x ∷ xs) (suc i) (suc k) within = ap (λ l. x ∷ l) (front_of_front xs i k (omega (arith, within)))

short_front : {X : Type 0} (xs : List X) (k : ℕ) → (length (take k xs) ≤ k) × (length (take k xs) ≤ length xs)
short_front [] zero = (omega arith, omega arith)
short_front [] (suc k) = (omega arith, omega arith)
short_front (x ∷ xs) zero = (omega arith, omega arith)
short_front (x ∷ xs) (suc k) = let s = short_front xs k in (omega (arith, s.0), omega (arith, s.1))

pub puts_append : (xs ys : List Link) → puts_of (xs ++ ys) ≡ puts_of xs ++ puts_of ys
puts_append [] ys = refl
puts_append (x ∷ xs) ys = ap (λ l. x.puts ++ l) (puts_append xs ys) ∙ sym (append_assoc x.puts (puts_of xs) (puts_of ys))

pub changes_append : (xs ys : List Link) → length (changes (xs ++ ys)) ≡ length (changes xs) + length (changes ys)
changes_append [] ys = omega arith
changes_append (x ∷ xs) ys = omega (arith, changes_more x (xs ++ ys), changes_more x xs, changes_append xs ys)

-- each front of the objects and a front of the puts behind them
pub moments_of_part : (old : List Object) (d : Dataset) (links : List Link) (n k : ℕ) (new : List Object) → AgreesWith old d → Links old d links → new ≡ old ++ take n (puts_of links) → length old ≤ k → k ≤ length new → (m : ℕ) × IsFront old d links m (take k new)
moments_of_part old d links n k new agrees chain whole low high =
    let rest : ℕ = k - length old in
    let at : k ≡ length old + rest = omega (arith, low) in
    let s = short_front (puts_of links) n in
    let count : length new ≡ length old + length (take n (puts_of links)) = ap length whole ∙ length-append old (take n (puts_of links)) in
    let part : take k new ≡ old ++ take rest (puts_of links) =
    ap (λ (l : List Object). take k l) whole ∙ ap (λ i. take i (old ++ take n (puts_of links))) at ∙ take_past old (take n (puts_of links)) rest
    ∙ ap (λ l. old ++ l) (front_of_front (puts_of links) rest n (omega (arith, high, count, s.0))) in
    let (m, front) = fronts old d links rest agrees chain (omega (arith, high, count, s.1)) in
    (m, subst (IsFront old d links m) (sym part) front)

pub part_within : (at : Link) (put printed : ℕ) (f : Fault) → IsPart at put printed f → put ≤ length at.puts
part_within at put printed fault.WriteFault part = omega (arith, part)
part_within at put printed (fault.StoreFault name) part = part.0
part_within at put printed fault.Memory (inl none, printed_part) = omega (arith, none)
part_within at put printed fault.Memory (inr below, printed_part) = omega (arith, below)
part_within at put printed f part = omega (arith, part.0)

-- where a run stopped at a link, the objects have a front of all puts more
pub stopped_part : (mode : Mode) (old : List Object) (links before behind : List Link) (at : Link) (put : ℕ) → links ≡ before ++ at ∷ behind → put ≤ length at.puts → (old ++ puts_of before) ++ take put at.puts ≡ old ++ take (length (puts_of before) + put) (puts_of links)
stopped_part mode old links before behind at put is within =
    append_assoc old (puts_of before) (take put at.puts) ∙ ap (λ l. old ++ l)
    (ap (λ l. puts_of before ++ l) (sym (take_within at.puts (puts_of behind) put within)) ∙ sym (take_past (puts_of before) (at.puts ++ puts_of behind) put)
    ∙ ap (λ (l : List Object). take (length (puts_of before) + put) l) (sym (puts_append before (at ∷ behind)) ∙ ap puts_of (sym is)))

all_part : (old : List Object) (puts : List Object) → old ++ puts ≡ old ++ take (length puts) puts
all_part old puts = ap (λ l. old ++ l) (sym (take_all (length puts) puts (omega arith)))

stopped_moments : (mode : Mode) (old : List Object) (d : Dataset) (links : List Link) (now : Option (List Object)) (held holds : Option (List ℕ)) (f : Fault) (new : List Object) (k : ℕ) → AgreesWith old d → Links old d links → now ≡ Some new
    → length old ≤ k → k ≤ length new → StoppedIn mode old d links now held holds f → (m : ℕ) × IsFront old d links m (take k new)
stopped_moments mode old d links now held holds f new k agrees chain is low high (inl (early, same)) =
    moments_of_part old d links 0 k new agrees chain (same_Some new old (sym is ∙ same.objects) ∙ sym (append-nil old) ∙ ap (λ l. old ++ l) (nothing (puts_of links))) low high where
      nothing : (l : List Object) → [] ≡ take 0 l
      nothing [] = refl
      nothing (o ∷ os) = refl
stopped_moments mode old d links now held holds f new k agrees chain is low high (inr (inl (before, at, behind, split, stood))) =
    let s = stood.stops in
    moments_of_part old d links (length (puts_of before) + s.put) k new agrees chain
    (same_Some new ((old ++ puts_of before) ++ take s.put at.puts) (sym is ∙ s.objects) ∙ stopped_part mode old links before behind at s.put split (part_within at s.put s.printed f s.part)) low high
stopped_moments mode old d links now held holds f new k agrees chain is low high (inr (inr (mode_is, failed, s))) =
    moments_of_part old d links (length (puts_of links)) k new agrees chain (same_Some new (old ++ puts_of links) (sym is ∙ s.objects) ∙ all_part old (puts_of links)) low high

-- the clause of the moments follows from those of an Ok and of a refusal
pub moments_hold : (e : Entry) (now : Option (List Object)) (held holds : Option (List ℕ)) (result : Result Unit Fault) → Done e now held holds result → Stops e now held holds result → Moments e now
moments_hold e now held holds (Ok t) is_done stops = λ new is old was input heard_is mode d links r k low high.
    let whole = is_done old was input heard_is mode d links r in
    moments_of_part old d links (length (puts_of links)) k new r.agrees (links_of mode old d r.told links r.chain) (same_Some new (old ++ puts_of links) (sym is ∙ whole.puts) ∙ all_part old (puts_of links)) low high
moments_hold e now held holds (Err f) is_done stops = λ new is old was input heard_is mode d links r k low high.
    stopped_moments mode old d links now held holds f new k r.agrees (links_of mode old d r.told links r.chain) is low high (stops old was input heard_is mode d links r)

-- ---- how many changes stand at the end

-- on an Ok all
pub done_front : (old : List Object) (d : Dataset) (links : List Link) → AgreesWith old d → Links old d links → IsFront old d links (length (changes links)) (old ++ puts_of links)
done_front old d links agrees chain =
    subst (λ l. IsFront old d l (length (changes links)) (old ++ puts_of links)) (append-nil links) (front_done old d links [] agrees (subst (Links old d) (sym (append-nil links)) chain))

-- all of the link's puts stand
whole_front : (old : List Object) (d : Dataset) (before behind : List Link) (at : Link) (put : ℕ) → AgreesWith old d → Links old d (before ++ at ∷ behind) → length at.puts ≤ put
    → IsFront old d (before ++ at ∷ behind) (length (changes (before ++ at ∷ []))) ((old ++ puts_of before) ++ take put at.puts)
whole_front old d before behind at put agrees chain past =
    let split : (before ++ at ∷ []) ++ behind ≡ before ++ at ∷ behind = append_assoc before (at ∷ []) behind in
    let front = front_done old d (before ++ at ∷ []) behind agrees (subst (Links old d) (sym split) chain) in
    let puts : old ++ puts_of (before ++ at ∷ []) ≡ (old ++ puts_of before) ++ take put at.puts =
    ap (λ l. old ++ l) (puts_append before (at ∷ []) ∙ ap (λ l. puts_of before ++ l) (append-nil at.puts ∙ sym (take_all put at.puts past))) ∙ sym (append_assoc old (puts_of before) (take put at.puts)) in
    subst (λ l. IsFront old d l (length (changes (before ++ at ∷ []))) ((old ++ puts_of before) ++ take put at.puts)) split
    (subst (IsFront old d ((before ++ at ∷ []) ++ behind) (length (changes (before ++ at ∷ [])))) puts front)

-- maybe the link's change, and maybe not
either_front : (old : List Object) (d : Dataset) (before behind : List Link) (at : Link) (put : ℕ) → AgreesWith old d → Links old d (before ++ at ∷ behind)
    → (m : ℕ) × ((m ≡ length (changes before)) ⊎ (m ≡ length (changes (before ++ at ∷ [])))) × IsFront old d (before ++ at ∷ behind) m ((old ++ puts_of before) ++ take put at.puts)
either_front old d before behind at put agrees chain = elim (cases_lt put (length at.puts)) [
  | inl below ↦ (length (changes before), inl refl, front_within old d before behind at put agrees chain below)
  | inr past ↦ (length (changes (before ++ at ∷ [])), inr refl, whole_front old d before behind at put agrees chain past)
]

-- a link of which nothing is put leaves the objects as those before it did
pub unput_front : (old : List Object) (d : Dataset) (before behind : List Link) (at : Link) (put : ℕ) → AgreesWith old d → Links old d (before ++ at ∷ behind) → put ≡ 0
    → IsFront old d (before ++ at ∷ behind) (length (changes before)) ((old ++ puts_of before) ++ take put at.puts)
unput_front old d before behind at put agrees chain none =
    let front = front_done old d before (at ∷ behind) agrees chain in
    subst (IsFront old d (before ++ at ∷ behind) (length (changes before))) (sym (ap (λ n. (old ++ puts_of before) ++ take n at.puts) none ∙ ap (λ l. (old ++ puts_of before) ++ l) (nothing at.puts) ∙ append-nil (old ++ puts_of before))) front where
      nothing : (l : List Object) → take 0 l ≡ []
      nothing [] = refl
      nothing (o ∷ os) = refl

-- what m is where a run stopped at a link
pub stopped_front : (mode : Mode) (old : List Object) (d : Dataset) (before behind : List Link) (at : Link) (f : Fault) (now : Option (List Object)) (held holds : Option (List ℕ)) → AgreesWith old d → Links old d (before ++ at ∷ behind)
    → (s : StopsAt mode old before at f now held holds) → (m : ℕ) × Stand before at f m × IsFront old d (before ++ at ∷ behind) m ((old ++ puts_of before) ++ take s.put at.puts)
stopped_front mode old d before behind at fault.WriteFault now held holds agrees chain s =
    (length (changes (before ++ at ∷ [])), refl, whole_front old d before behind at s.put agrees chain (omega (arith, s.part)))
stopped_front mode old d before behind at (fault.StoreFault name) now held holds agrees chain s = either_front old d before behind at s.put agrees chain
stopped_front mode old d before behind at fault.Memory now held holds agrees chain s = elim s.part.0 [
  | inl none ↦ (length (changes before), refl, unput_front old d before behind at s.put agrees chain none)
  | inr below ↦ (length (changes before), refl, front_within old d before behind at s.put agrees chain below)
]
stopped_front mode old d before behind at f now held holds agrees chain s =
    (length (changes before), refl, unput_front old d before behind at s.put agrees chain s.part.0)
