-- Calls on a store, one after another.
use Rattle.std.proofs.Common.{◌≡◌, refl, ◌∙◌, ap, List, arith}
use Rattle.std.specs.Prelude.{Option, Some, None, Bool, false}
use Rattle.std.specs.Option.{option_or}
use Rattle.lan_store.specs.Budget.{Budget, plus, IsWithin, Asks, Spends}
use Rattle.lan_store.specs.Causes.{Rose}
use Rattle.lan_store.specs.Looked.{Fails, Looked, Stored}
use Rattle.lan_store.specs.Telling.{Telling}
use Rattle.lan_store.specs.declared.name.Name.{Name}
use Rattle.lan_store.specs.declared.name.Object.{Object}

-- what two calls ask together
pub asks_then : (a b : Budget) (s t u : Telling) → Asks a s t → Asks b t u → Asks (plus a b) s u
asks_then a b s t u first second =
    let fr = first.ranges in
    let fb = first.bytes in
    let sr = second.ranges in
    let sb = second.bytes in
    record {
      ranges = record { later = omega (arith, fr.later, sr.later); within = omega (arith, fr.within, sr.within) };
      bytes = record { later = omega (arith, fb.later, sb.later); within = omega (arith, fb.within, sb.within) };
    }

-- more may be asked
pub asks_within : (a b : Budget) (s t : Telling) → IsWithin a b → Asks a s t → Asks b s t
asks_within a b s t w asks =
    let wr = w.ranges in
    let wb = w.bytes in
    let r = asks.ranges in
    let y = asks.bytes in
    record { ranges = record { later = r.later; within = omega (arith, r.within) }; bytes = record { later = y.later; within = omega (arith, y.within) } }

-- a call that didn't fail, and another
pub fails_then : (failure : Option Name) (s t u : Telling) → ((all : List Object) → s.objects ≡ Some all → (now : List Object) × (t.objects ≡ Some now)) → Fails None s t → Fails failure t u → Fails failure s u
fails_then failure s t u goes_on first second = record {
  later = let a = first.later in let b = second.later in omega arith;
  rose = λ failed. let a = first.later in let b : Rose t.faults u.faults = second.rose failed in omega arith;
  named = λ all told. let still = goes_on all told in second.named still.0 still.1 ∙ ap (option_or failure) (first.named all told);
}

-- a call that looked and didn't fail, and another
pub looked_then : (failure : Option Name) (a b : Budget) (s t u : Telling) → Looked None a s t → Looked failure b t u → Looked failure (plus a b) s u
looked_then failure a b s t u first second = record {
  kept = second.kept ∙ first.kept;
  fails = fails_then failure s t u (λ all told. (all, first.kept ∙ told)) first.fails second.fails;
  asks = asks_then a b s t u first.asks second.asks;
  clashes = let x = first.clashes in let y = second.clashes in omega arith;
}

-- a call that looked and didn't fail, and one that puts
pub stored_then : (failure : Option Name) (a b : Budget) (clashed : Bool) (s t u : Telling) → Looked None a s t → Stored failure b clashed t u → Stored failure (plus a b) clashed s u
stored_then failure a b clashed s t u first second = record {
  fails = fails_then failure s t u (λ all told. (all, first.kept ∙ told)) first.fails second.fails;
  asks = asks_then a b s t u first.asks second.asks;
  clash = record {
    later = let x = first.clashes in let y = second.clash.later in omega arith;
    rose = λ held. let x = first.clashes in let y : Rose t.clashes u.clashes = second.clash.rose held in omega arith;
  };
}

-- a call that looked, where no name was held
pub stored_looked : (failure : Option Name) (a : Budget) (clashed : Bool) (s t : Telling) → clashed ≡ false → Looked failure a s t → Stored failure a clashed s t
stored_looked failure a clashed s t none looked = record { fails = looked.fails; asks = looked.asks; clash = record { later = looked.clashes; rose = λ held. absurd (cc (held, none)) } }

pub stored_within : (failure : Option Name) (a b : Budget) (clashed : Bool) (s t : Telling) → IsWithin a b → Stored failure a clashed s t → Stored failure b clashed s t
stored_within failure a b clashed s t w stored = record { fails = stored.fails; asks = asks_within a b s t w stored.asks; clash = stored.clash }

-- and more may be asked
pub looked_within : (failure : Option Name) (a b : Budget) (s t : Telling) → IsWithin a b → Looked failure a s t → Looked failure b s t
looked_within failure a b s t w looked = record { kept = looked.kept; fails = looked.fails; asks = asks_within a b s t w looked.asks; clashes = looked.clashes }

-- no call was made
pub looked_not : (most : Budget) (s : Telling) → Looked None most s s
looked_not most s = record {
  kept = refl;
  fails = record { later = omega arith; rose = λ never. absurd (cc never); named = λ all told. refl };
  asks = record { ranges = record { later = omega arith; within = omega arith }; bytes = record { later = omega arith; within = omega arith } };
  clashes = omega arith;
}

-- one step after another
pub spends_then : (a b c : Budget) (s t u : Telling) → Spends a b s t → Spends b c t u → Spends a c s u
spends_then a b c s t u first second = record {
  later_ranges = let x = first.later_ranges in let y = second.later_ranges in omega arith;
  later_bytes = let x = first.later_bytes in let y = second.later_bytes in omega arith;
  ranges = let x = first.ranges in let y = second.ranges in omega arith;
  bytes = let x = first.bytes in let y = second.bytes in omega arith;
}

-- a step beside which as much more is allowed before and after
pub spends_beside : (a b more : Budget) (s t : Telling) → Spends a b s t → Spends (plus a more) (plus b more) s t
spends_beside a b more s t step = record {
  later_ranges = step.later_ranges;
  later_bytes = step.later_bytes;
  ranges = let x = step.ranges in omega arith;
  bytes = let x = step.bytes in omega arith;
}

-- what a step asked is taken off
pub spends_step : (before after most : Budget) (s t : Telling) → Asks most s t → IsWithin (plus most after) before → Spends before after s t
spends_step before after most s t asks w =
    let wr = w.ranges in
    let wb = w.bytes in
    let r = asks.ranges in
    let b = asks.bytes in
    record { later_ranges = r.later; later_bytes = b.later; ranges = omega (arith, r.within); bytes = omega (arith, b.within) }

-- a whole walk
pub asks_of : (before after : Budget) (s t : Telling) → Spends before after s t → Asks before s t
asks_of before after s t spends =
    let x = spends.ranges in
    let y = spends.bytes in
    record { ranges = record { later = spends.later_ranges; within = omega arith }; bytes = record { later = spends.later_bytes; within = omega arith } }
