-- What each step of a command has answered is what stands after the command.
use Rattle.std.proofs.Common.{◌≡◌, inl, inr, refl, sym, ◌∙◌, ap, subst, ℕ, ◌+◌, ◌<◌, ◌≤◌, List, [], ◌++◌, length, take, arith, append-nil, true, false}
use Rattle.std.specs.Prelude.{IsErrOf, MatchBool, Option, Some, Result, Ok, Err}
use Rattle.std.specs.Option.{ForSome}
use Rattle.std.proofs.lemmas.List.{take_all}
use Rattle.lan_store.specs.Causes.{HasCause}
use Rattle.lan_store.specs.Objects.{and_then}
use Rattle.lan_store.specs.PutsAll.{IsHeldAt}
use Rattle.lan_store.specs.Streams.{and_then_bytes}
use Rattle.lan_store.specs.declared.name.Object.{Object}
use Rattle.lan_commit.specs.Commits.{Commits}
use Rattle.lan_commit.specs.declared.committing.CommitFault.{CommitFault}
use Rattle.lan_commit.specs.declared.committing.CommitFault.TheVariants as unmade
use Rattle.lan_commit.proofs.LawTerms.{change_named}
use Rattle.lance_cli.specs.Changes.{Change}
use Rattle.lance_cli.specs.Commands.{Asked, create, append, restore, scan, schema, versions, is_change, Request}
use Rattle.lance_cli.specs.Faults.{of_commit}
use Rattle.lance_cli.specs.Plans.{Plans, PutFirst, Applies}
use Rattle.lance_cli.specs.Puts.{Accepts, ChangeAccepted, IsAccepted, Prints}
use Rattle.lance_cli.specs.Reports.{version_text, GotPart, PrintsReply}
use Rattle.lance_cli.specs.Served.{Applied, WithText, GotBefore, WriteFails, Served}
use Rattle.lance_cli.specs.declared.change.Planned.{Planned}
use Rattle.lance_cli.specs.declared.fault.Fault.{Fault}
use Rattle.lance_cli.specs.declared.fault.Fault.TheVariants as fault

pub one_fault : {A : Type 0} (result : Result A Fault) (f g : Fault) → result ≡ Err f → result ≡ Err g → f ≡ g
one_fault result f g is also = cc (sym is ∙ also)

now_some : (before now : Option (List Object)) (old puts : List Object) → before ≡ Some old → now ≡ and_then before puts → now ≡ Some (old ++ puts)
now_some before now old puts was grew = grew ∙ ap (λ o. and_then o puts) was

pub unchanged : (c : Change) (old : List Object) → c.now ≡ c.before → c.before ≡ Some old → c.now ≡ Some (old ++ [])
unchanged c old same was = same ∙ was ∙ ap (λ l. Some l) (sym (append-nil old))

-- ---- a change

-- all of the accepted command's objects were put
abbrev pub all_applied : (old : List Object) (c : Change) (r : Request) (puts : List Object) (text : List ℕ) → Accepts old r puts text → c.now ≡ Some (old ++ puts) → Applied old c r (λ k n. k ≡ n)
all_applied old c r puts text accepted grew = record {
  puts = puts;
  text = text;
  accepted = accepted;
  k = length puts;
  stopped = refl;
  grew = grew ∙ ap (λ l. Some (old ++ l)) (sym (take_all (length puts) puts (omega arith)));
}

with_text : (c : Change) (r : Request) (puts : List Object) (text : List ℕ) (P : List ℕ → Type 0) → IsAccepted c.before r puts text → c.now ≡ and_then c.before puts → P text → WithText c r P
with_text c r puts text P accepted grew holds = λ old was. (all_applied old c r puts text (accepted old was) (now_some c.before c.now old puts was grew), holds)

first_applied : (c : Change) (r : Request) (puts : List Object) (text : List ℕ) (cut : ℕ → ℕ → Type 0) → IsAccepted c.before r puts text → PutFirst puts c cut → ForSome c.before (λ all. Applied all c r cut)
first_applied c r puts text cut accepted (k, within, first) = λ old was. record { puts = puts; text = text; accepted = accepted old was; k = k; stopped = within; grew = now_some c.before c.now old (take k puts) was first }

-- a change that is accepted
pub change_accepted : (old : List Object) (r : Request) (puts : List Object) (text : List ℕ) → is_change r.asked ≡ true → Accepts old r puts text → ChangeAccepted old r puts text
change_accepted old r puts text changes accepted = subst (λ b. MatchBool b (ChangeAccepted old r puts text) ((puts ≡ []) × Prints old r.asked text)) changes accepted

-- no object of an accepted change meets a name that is held
accepted_free : (old : List Object) (r : Request) (puts : List Object) (text : List ℕ) (k : ℕ) → ChangeAccepted old r puts text → k < length puts → IsHeldAt k puts old → ⊥
accepted_free old r puts text k a below held =
    change_named old a.change k a.after a.no_limit (subst (λ l. k < length l) a.puts_are below) (subst (λ l. IsHeldAt k l old) a.puts_are held)

pub got_nothing : (c : Change) (asked : Asked) → c.holds ≡ c.held → GotBefore asked c
got_nothing c (create json) same = same
got_nothing c append same = same
got_nothing c (restore version) same = same
got_nothing c (scan options) same = λ old was. inl same
got_nothing c (schema version) same = same
got_nothing c versions same = same

-- what fails to print is a text whole
write_failed : (c : Change) (r : Request) (asked : Asked) → is_change asked ≡ true → WithText c r (λ text. GotPart text c.held c.holds) → WriteFails asked c r
write_failed c r (create json) changes got = got
write_failed c r append changes got = got
write_failed c r (restore version) changes got = got
write_failed c r (scan options) changes got = absurd (cc changes)
write_failed c r (schema version) changes got = got
write_failed c r versions changes got = got

-- an accepted change is applied, or a part of it
pub change_served : (r : Request) (c : Change) (planned : Planned) (result : Result Unit Fault) → is_change r.asked ≡ true → IsAccepted c.before r planned.objects.items (version_text planned.version)
    → Applies planned.objects.items planned.version c result → Served c r result
change_served r c planned (Ok _) changes accepted (grew, prints) = with_text c r planned.objects.items (version_text planned.version) (λ text. c.holds ≡ and_then_bytes c.held text) accepted grew prints
change_served r c planned (Err fault.WriteFault) changes accepted (grew, got) = write_failed c r r.asked changes (with_text c r planned.objects.items (version_text planned.version) (λ text. GotPart text c.held c.holds) accepted grew got)
change_served r c planned (Err (fault.StoreFault name)) changes accepted (first, same) = (inr (first_applied c r planned.objects.items (version_text planned.version) (λ k n. k ≤ n) accepted first), got_nothing c r.asked same)
change_served r c planned (Err fault.Memory) changes accepted (left, same) = (
  elim left [
    | inl unchanged ↦ inl unchanged
    | inr first ↦ inr (first_applied c r planned.objects.items (version_text planned.version) (λ k n. k < n) accepted first)
  ],
  got_nothing c r.asked same,
)
change_served r c planned (Err (fault.Raced name)) changes accepted ((k, below, first, held), same) = (
  (changes, λ old was. accepted_free old r planned.objects.items (version_text planned.version) k (change_accepted old r planned.objects.items (version_text planned.version) changes (accepted old was)) below (held old was)),
  inr (first_applied c r planned.objects.items (version_text planned.version) (λ k n. k < n) accepted (k, below, first)),
  same,
)
change_served r c planned (Err f) changes accepted applied = absurd applied

-- a command that is refused before anything is put or printed
pub unplanned_served : (r : Request) (c : Change) (f : Fault) → Plans c.before r (Err f) → c.now ≡ c.before → c.holds ≡ c.held → Served c r (Err f)
unplanned_served r c (fault.StoreFault name) plans same bytes = (inl same, got_nothing c r.asked bytes)
unplanned_served r c fault.Memory plans same bytes = (inl same, got_nothing c r.asked bytes)
unplanned_served r c (fault.Outside name why place) plans same bytes = (plans, same, got_nothing c r.asked bytes)
unplanned_served r c fault.WriteFault plans same bytes = absurd plans
unplanned_served r c (fault.Raced name) plans same bytes = absurd plans
unplanned_served r c f plans same bytes = (plans, same, bytes)

-- the puts of a change stopped
pub uncommitted : (c : Change) (puts : List Object) (version : ℕ) (f : CommitFault) → Commits puts c.before c.now (Err f) → c.holds ≡ c.held → Applies puts version c (Err (of_commit f))
uncommitted c puts version (unmade.AlreadyThere newest) commits bytes = absurd commits
uncommitted c puts version (unmade.Limit which number) commits bytes = absurd commits
uncommitted c puts version (unmade.Raced name) (k, below, named, first, held) bytes = ((k, below, first, held), bytes)
uncommitted c puts version (unmade.Store name) (k, below, named, left) bytes = (
  elim left [
    | inl first ↦ (k, omega (arith, below), first)
    | inr first ↦ (k + 1, omega (arith, below), first)
  ],
  bytes,
)
uncommitted c puts version unmade.Memory (k, below, first) bytes = (inr (k, below, first), bytes)

-- all was put, and the reply was written, or a front of it
pub put_replied : (c : Change) (puts : List Object) (version : ℕ) (result : Result Unit Fault) → c.now ≡ and_then c.before puts → PrintsReply (version_text version) c.held c.holds result → Applies puts version c result
put_replied c puts version (Ok _) grew prints = (grew, prints)
put_replied c puts version (Err fault.WriteFault) grew prints = (grew, prints)
put_replied c puts version (Err f) grew prints = absurd prints

-- an accepted change, on the objects that it was planned on
pub applied_served : (r : Request) (before mid now : Option (List Object)) (held holds : Option (List ℕ)) (planned : Planned) (result : Result Unit Fault) → is_change r.asked ≡ true → mid ≡ before → Plans before r (Ok planned)
    → Applies planned.objects.items planned.version (record { before = mid; now = now; held = held; holds = holds }) result → Served (record { before = before; now = now; held = held; holds = holds }) r result
applied_served r before mid now held holds planned result changes same plans applies =
    change_served r (record { before = before; now = now; held = held; holds = holds }) planned result changes plans
    (subst (λ o. Applies planned.objects.items planned.version (record { before = o; now = now; held = held; holds = holds }) result) same applies)

-- what is planned isn't refused by the sink
pub plans_unwritten : (before : Option (List Object)) (r : Request) (result : Result Unit Fault) (f : Fault) (a : ℕ) → result ≡ Err f → Plans before r (Err f) → HasCause (IsErrOf result fault.WriteFault) a a
plans_unwritten before r result f a is plans = record { later = omega arith; rose = λ unwritten. absurd (subst (λ g. Plans before r (Err g)) (one_fault result f fault.WriteFault is unwritten) plans) }

-- ---- what is printed

-- the text of a command that changes nothing was written, or a front of it
pub text_served : (c : Change) (r : Request) (text : List ℕ) (result : Result Unit Fault) → is_change r.asked ≡ false → c.now ≡ c.before → ForSome c.before (λ all. Prints all r.asked text) → PrintsReply text c.held c.holds result
    → (WithText c r (λ text. GotPart text c.held c.holds) → WriteFails r.asked c r) → Served c r result
text_served c r text (Ok _) still same says prints fails = λ old was. (all_applied old c r [] text (printed old was) (unchanged c old same was), prints) where
  printed : (old : List Object) → c.before ≡ Some old → Accepts old r [] text
  printed old was = subst (λ b. MatchBool b (ChangeAccepted old r [] text) ((◌≡◌ {A = List Object} [] []) × Prints old r.asked text)) (sym still) (refl, says old was)
text_served c r text (Err fault.WriteFault) still same says prints fails = fails (λ old was. (all_applied old c r [] text (printed old was) (unchanged c old same was), prints)) where
  printed : (old : List Object) → c.before ≡ Some old → Accepts old r [] text
  printed old was = subst (λ b. MatchBool b (ChangeAccepted old r [] text) ((◌≡◌ {A = List Object} [] []) × Prints old r.asked text)) (sym still) (refl, says old was)
text_served c r text (Err f) still same says prints fails = absurd prints
