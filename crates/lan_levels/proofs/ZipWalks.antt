-- Slots that are spelled, one more at a time.
use Rattle.std.proofs.Common.{◌≡◌, ℕ, zero, suc, ◌+◌, ◌<◌, List, [], ◌∷◌, ◌++◌, Option, Some, None, length, refl, ap, sym, ◌∙◌, arith}
use Rattle.lan_levels.specs.PlainSlots.{PlainSlot}
use Rattle.lan_levels.specs.ZipForm.{PlainForm}
use Rattle.lan_levels.specs.ZipSlots.{Read, cut, level, slot, first_slot, Part, before, onward, spelled}

pub spelled_none : (f : PlainForm) (all : List ℕ) → spelled f 0 all ≡ Some (record { slots = []; rest = all })
unfolding spelled
spelled_none f all = refl

pub spelled_more : (f : PlainForm) (n : ℕ) (all : List ℕ) → spelled f (suc n) all ≡ onward (first_slot f all) (λ rest. spelled f n rest)
unfolding spelled
spelled_more f n all = refl

-- the first slot of a spelling that has one
pub record Opened (r : Read) (later : List ℕ → Option Part) (p : Part) : Type 0 where
  pub first : PlainSlot
  pub next : List ℕ
  pub slots : List PlainSlot
  pub read : r ≡ slot first next
  pub is : later next ≡ Some (record { slots = slots; rest = p.rest })
  pub whole : p.slots ≡ first ∷ slots

opened_before : (s : PlainSlot) (next : List ℕ) (later : List ℕ → Option Part) (o : Option Part) (p : Part) → later next ≡ o → before s o ≡ Some p → Opened (slot s next) later p
opened_before s next later None p e h = absurd (cc)
opened_before s next later (Some q) p e h =
    let same : ◌≡◌ {A = Part} (record { slots = s ∷ q.slots; rest = q.rest }) p = cc in
    let rests : q.rest ≡ p.rest = ap (λ (x : Part). x.rest) same in
    record {
      first = s;
      next = next;
      slots = q.slots;
      read = refl;
      is = e ∙ ap (λ (r : List ℕ). Some (record { slots = q.slots; rest = r })) rests;
      whole = sym (ap (λ (x : Part). x.slots) same);
    }

pub opened : (r : Read) (later : List ℕ → Option Part) (p : Part) → onward r later ≡ Some p → Opened r later p
opened cut later p h = absurd (cc)
opened level later p h = absurd (cc)
opened (slot s next) later p h = opened_before s next later (later next) p refl h

-- the first slot and those behind it
pub put_first : (f : PlainForm) (n : ℕ) (all : List ℕ) (s : PlainSlot) (next : List ℕ) (p : Part) → first_slot f all ≡ slot s next → spelled f n next ≡ Some p
    → spelled f (suc n) all ≡ Some (record { slots = s ∷ p.slots; rest = p.rest })
put_first f n all s next p h e =
    spelled_more f n all ∙ ap (λ (r : Read). onward r (λ rest. spelled f n rest)) h ∙ ap (before s) e

-- a slot behind those that are spelled
pub put_last : (f : PlainForm) (n : ℕ) (all : List ℕ) (p : Part) (s : PlainSlot) (next : List ℕ) → spelled f n all ≡ Some p → first_slot f p.rest ≡ slot s next
    → spelled f (n + 1) all ≡ Some (record { slots = p.slots ++ s ∷ []; rest = next })
put_last f zero all p s next e h =
    let same : ◌≡◌ {A = Part} (record { slots = []; rest = all }) p = let both = sym (spelled_none f all) ∙ e in cc in
    let here : first_slot f all ≡ slot s next = ap (λ (q : Part). first_slot f q.rest) same ∙ h in
    put_first f zero all s next (record { slots = []; rest = next }) here (spelled_none f next)
    ∙ ap (λ (q : Part). Some (record { slots = q.slots ++ s ∷ []; rest = next })) same
put_last f (suc n) all p s next e h =
    let o = opened (first_slot f all) (λ rest. spelled f n rest) p (sym (spelled_more f n all) ∙ e) in
    let later = put_last f n o.next (record { slots = o.slots; rest = p.rest }) s next o.is h in
    let count : suc n + 1 ≡ suc (n + 1) = omega arith in
    ap (λ (k : ℕ). spelled f k all) count
    ∙ put_first f (n + 1) all o.first o.next (record { slots = o.slots ++ s ∷ []; rest = next }) o.read later
    ∙ ap (λ (ss : List PlainSlot). Some (record { slots = ss ++ s ∷ []; rest = next })) (sym o.whole)

pub count_slots : (f : PlainForm) (n : ℕ) (all : List ℕ) (p : Part) → spelled f n all ≡ Some p → length p.slots ≡ n
count_slots f zero all p e =
    let same : ◌≡◌ {A = Part} (record { slots = []; rest = all }) p = let both = sym (spelled_none f all) ∙ e in cc in
    ap (λ (q : Part). length q.slots) (sym same)
count_slots f (suc n) all p e =
    let o = opened (first_slot f all) (λ rest. spelled f n rest) p (sym (spelled_more f n all) ∙ e) in
    ap (λ (ss : List PlainSlot). length ss) o.whole ∙ ap suc (count_slots f n o.next (record { slots = o.slots; rest = p.rest }) o.is)

-- no slot stands behind those that are spelled, so no more are spelled
pub no_more : (f : PlainForm) (n m : ℕ) (all : List ℕ) (p q : Part) → spelled f n all ≡ Some p → ((s : PlainSlot) (next : List ℕ) → first_slot f p.rest ≡ slot s next → ⊥) → n < m → spelled f m all ≡ Some q → ⊥
no_more f n zero all p q e h lt g = omega arith
no_more f zero (suc m) all p q e h lt g =
    let same : ◌≡◌ {A = Part} (record { slots = []; rest = all }) p = let both = sym (spelled_none f all) ∙ e in cc in
    let o = opened (first_slot f all) (λ rest. spelled f m rest) q (sym (spelled_more f m all) ∙ g) in
    h o.first o.next (ap (λ (x : Part). first_slot f x.rest) (sym same) ∙ o.read)
no_more f (suc n) (suc m) all p q e h lt g =
    let o = opened (first_slot f all) (λ rest. spelled f n rest) p (sym (spelled_more f n all) ∙ e) in
    let t = opened (first_slot f all) (λ rest. spelled f m rest) q (sym (spelled_more f m all) ∙ g) in
    let both : slot o.first o.next ≡ slot t.first t.next = sym o.read ∙ t.read in
    let same : o.next ≡ t.next = cc in
    no_more f n m o.next (record { slots = o.slots; rest = p.rest }) (record { slots = t.slots; rest = q.rest }) o.is h (omega arith)
    (ap (λ (bs : List ℕ). spelled f m bs) same ∙ t.is)
