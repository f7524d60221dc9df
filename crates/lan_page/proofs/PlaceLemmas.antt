-- The places of rows, and where a piece ends.
use Rattle.std.proofs.Common.{◌≡◌, ℕ, zero, suc, ◌+◌, ◌-◌, ◌*◌, ◌^◌, ◌<◌, ◌≤◌, ◌⊎◌, inl, inr, true, false, min, max, List, [], ◌∷◌, length, take, drop, replicate, refl, ap, ap₂, sym, ◌∙◌, arith, length-drop}
use Rattle.std.proofs.lemmas.Bool.{cases_lt}
use Rattle.std.proofs.lemmas.List.{take_all, drop_all}
use Rattle.std.proofs.Math.Nat.{mul-le-mul_left}
use Rattle.lan_model.specs.declared.range.Range.{Range}
use Rattle.lan_levels.specs.Past.{most_bytes, is_short, past, furthest}
use Rattle.lan_levels.specs.PlainSlots.{PlainSlot}
use Rattle.lan_levels.specs.Runs.{run, IsIndex}
use Rattle.lan_levels.specs.Stretch.{size, bytes_in, cover}
use Rattle.lan_index.proofs.PastLemmas.{past_found, within_longest, over_longest, cover_is}
use Rattle.lan_index.proofs.RunLemmas.{rising, inside}
use Rattle.lan_page.specs.declared.places.Known.{Known}
use Rattle.lan_page.specs.declared.places.Known.TheVariants.{Even, Listed}
use Rattle.lan_page.specs.Places.{known_runs, known_place, range_stretch, IsListed}

pub place_front : (k : Known) (rows content n : ℕ) → IsIndex (known_runs k) rows content → n < rows → known_place k content n ≡ (run (known_runs k) n).from
place_front (Even width) rows content n h less =
    let m : width * n ≤ width * rows = mul-le-mul_left width (let l : n ≤ rows = omega arith in l) in
    let e : width * rows ≡ content = h in
    omega arith
place_front (Listed places) rows content n h less = refl

pub place_end : (k : Known) (rows content n : ℕ) → IsIndex (known_runs k) rows content → n < rows → known_place k content (n + 1) ≡ (run (known_runs k) n).past
place_end (Even width) rows content n h less =
    let m : width * (n + 1) ≤ width * rows = mul-le-mul_left width (let l : n + 1 ≤ rows = omega arith in l) in
    let e : width * rows ≡ content = h in
    omega arith
place_end (Listed places) rows content n h less = refl

-- the place before a row is the end of the row before it
pub place_behind : (k : Known) (rows content q : ℕ) → IsIndex (known_runs k) rows content → 0 < q → q ≤ rows → known_place k content q ≡ (run (known_runs k) (q - 1)).past
place_behind k rows content q h some le =
    let last : q - 1 + 1 ≡ q = omega arith in
    ap (known_place k content) (sym last) ∙ place_end k rows content (q - 1) h (omega arith)

-- from the place of a row to that before another is their cover
pub part_is : (k : Known) (rows content row past : ℕ) (r : Range) → IsIndex (known_runs k) rows content → row < past → past ≤ rows → r.at ≡ known_place k content row → r.at + r.len ≡ known_place k content past
    → range_stretch r ≡ cover (run (known_runs k)) row past
part_is k rows content row past r h less le at end =
    cover_is (run (known_runs k)) row past (range_stretch r) (at ∙ place_front k rows content row h (omega arith)) (end ∙ place_behind k rows content past h (omega arith) le)

-- bytes that end before a place are the same up to it
cut_at : (all : List ℕ) (a b end : ℕ) → length all ≤ end → a ≤ b → take (min b end - min a end) (drop (min a end) all) ≡ take (b - a) (drop a all)
cut_at all a b end le order = elim (cases_lt end b) [
  | inr within ↦
      let front : min a end ≡ a = omega arith in
      let back : min b end ≡ b = omega arith in
      ap₂ (λ (x y : ℕ). take (y - x) (drop x all)) front back
  | inl over ↦ elim (cases_lt end a) [
    | inl behind ↦
        let none : drop a all ≡ [] = drop_all a all (omega arith) in
        let here : drop (min a end) all ≡ [] = drop_all (min a end) all (omega arith) in
        ap (take (min b end - min a end)) here ∙ no_more (min b end - min a end) ∙ sym (no_more (b - a)) ∙ ap (take (b - a)) (sym none)
    | inr front ↦
        let same : min a end ≡ a = omega arith in
        let rest = length-drop a all in
        let p = take_all (min b end - a) (drop a all) (omega arith) in
        let q = take_all (b - a) (drop a all) (omega arith) in
        ap (λ (x : ℕ). take (min b end - x) (drop x all)) same ∙ p ∙ sym q
  ]
]
  where
    no_more : (n : ℕ) → ◌≡◌ {A = List ℕ} (take n []) []
    no_more zero = refl
    no_more (suc n) = refl

known_same : (k : Known) (content row past : ℕ) (all : List ℕ) → row < past → length all ≤ content
    → bytes_in all (record { from = known_place k content row; past = known_place k content past }) ≡ bytes_in all (cover (run (known_runs k)) row past)
known_same (Even width) content row past all less le =
    let last : past ≡ past - 1 + 1 = omega arith in
    let order : width * row ≤ width * past = mul-le-mul_left width (let l : row ≤ past = omega arith in l) in
    cut_at all (width * row) (width * past) content le order
    ∙ ap (bytes_in all) (cover_is (run (known_runs (Even width))) row past (record { from = width * row; past = width * past }) refl (ap (λ (n : ℕ). width * n) last))
known_same (Listed places) content row past all less le =
    let last : past ≡ past - 1 + 1 = omega arith in
    ap (bytes_in all) (cover_is (run (known_runs (Listed places))) row past (record { from = known_place (Listed places) content row; past = known_place (Listed places) content past }) refl (ap (known_place (Listed places) content) last))

-- of a content that may be short, too
pub part_same : (k : Known) (content row past : ℕ) (r : Range) (all : List ℕ) → row < past → r.at ≡ known_place k content row → r.at + r.len ≡ known_place k content past → length all ≤ content
    → bytes_in all (range_stretch r) ≡ bytes_in all (cover (run (known_runs k)) row past)
part_same k content row past r all less at end le = ap₂ (λ (x y : ℕ). bytes_in all (record { from = x; past = y })) at end ∙ known_same k content row past all less le

-- no place passes the content or falls
pub record Climbs (k : Known) (content n : ℕ) : Type 0 where
  pub order : known_place k content n ≤ known_place k content (n + 1)
  pub within : known_place k content (n + 1) ≤ content

pub places_climb : (k : Known) (rows content n : ℕ) → IsIndex (known_runs k) rows content → n < rows → Climbs k content n
places_climb k rows content n h less =
    let i = inside (known_runs k) rows content n h less in
    let a = place_front k rows content n h less in
    let b = place_end k rows content n h less in
    let order = i.order in
    let within = i.within in
    record { order = omega arith; within = omega arith }

-- rows of one width neither fall nor pass the content
pub falls_listed : (k : Known) (content n : ℕ) → (known_place k content (n + 1) < known_place k content n) ⊎ (content < known_place k content (n + 1)) → IsListed k
falls_listed (Even width) content n h =
    let m : width * n ≤ width * (n + 1) = mul-le-mul_left width (let l : n ≤ n + 1 = omega arith in l) in
    absurd (elim h [ inl f ↦ omega arith | inr f ↦ omega arith ])
falls_listed (Listed places) content n h = tt

stops : (k : Known) (rows content row q longest : ℕ) → IsIndex (known_runs k) rows content → row < rows → longest ≡ max most_bytes (size (run (known_runs k) row))
    → (q ≡ furthest rows row) ⊎ ((q < furthest rows row) × (longest < known_place k content (q + 1) - known_place k content row)) → (q ≡ furthest rows row) ⊎ (is_short (run (known_runs k)) row (q + 1) ≡ false)
stops k rows content row q longest h in_rows most (inl e) = inl e
stops k rows content row q longest h in_rows most (inr l) =
    let before = l.0 in
    let over = l.1 in
    let front = place_front k rows content row h in_rows in
    let end = place_end k rows content q h (omega arith) in
    inr (over_longest (run (known_runs k)) row q longest most (omega arith))

-- a walk onward from a row's place that stops has found where its piece ends
pub walk_past : (k : Known) (rows content row q longest : ℕ) → IsIndex (known_runs k) rows content → row < rows → row < q → q ≤ furthest rows row
    → longest ≡ max (2 ^ 20) (known_place k content (row + 1) - known_place k content row) → known_place k content q - known_place k content row ≤ longest
    → (q ≡ furthest rows row) ⊎ ((q < furthest rows row) × (longest < known_place k content (q + 1) - known_place k content row)) → q ≡ past (run (known_runs k)) rows row
walk_past k rows content row q longest h in_rows less near is fits end =
    let r = run (known_runs k) in
    let front = place_front k rows content row h in_rows in
    let first = place_end k rows content row h in_rows in
    let same : known_place k content (row + 1) - known_place k content row ≡ size (r row) = omega arith in
    let most : longest ≡ max most_bytes (size (r row)) = is ∙ ap (λ (n : ℕ). max (2 ^ 20) n) same in
    let behind = place_behind k rows content q h (omega arith) (omega arith) in
    let last : q - 1 + 1 ≡ q = omega arith in
    let short : is_short r row q ≡ true = ap (is_short r row) (sym last) ∙ within_longest r row (q - 1) longest most (omega arith) in
    sym (past_found r rows row q (rising (known_runs k) rows content h) less near short (stops k rows content row q longest h in_rows most end))

-- one of so many
pub replicate_more : (n : ℕ) (x : PlainSlot) → 0 < n → replicate n x ≡ x ∷ replicate (n - 1) x
replicate_more zero x h = absurd (omega arith)
replicate_more (suc n) x h = let e : suc n - 1 ≡ n = omega arith in ap (λ (m : ℕ). x ∷ replicate m x) (sym e)
