-- What is behind a run of one command, on any folder.
use Rattle.std.proofs.Common.{◌≡◌, inl, inr, refl, sym, ◌∙◌, ap, subst, ℕ, List, [], ◌∷◌, ◌++◌, length, append-nil, arith}
use Rattle.std.specs.Prelude.{Option, Some, None, Result, Ok, Err}
use Rattle.std.proofs.lemmas.List.{take_all}
use Rattle.std.proofs.lemmas.Option.{same_Some}
use Rattle.lan_store.specs.Objects.{and_then}
use Rattle.lan_store.specs.Streams.{and_then_bytes}
use Rattle.lan_store.specs.declared.name.Object.{Object}
use Rattle.lance_cli.specs.Commands.{Asked, Request, asked_of}
use Rattle.lance_cli.specs.Laws.{ServedAlone, IsOfOne}
use Rattle.lance_cli.specs.Puts.{IsAccepted}
use Rattle.lance_cli.specs.Replies.{Mode, single, batch, generate, text_by, Tells, alone}
use Rattle.lance_cli.specs.Runs.{Entry, OnTrail, NoneLeft, NextRefused, Ran}
use Rattle.lance_cli.specs.Served.{Served}
use Rattle.lance_cli.specs.Steps.{Step, Trail, requests_in, put_in, said_in}
use Rattle.lance_cli.specs.declared.fault.Fault.{Fault}
use Rattle.lance_cli.specs.declared.fault.Fault.TheVariants as fault

none_more : (o : Option (List Object)) → and_then o [] ≡ o
none_more None = refl
none_more (Some objects) = ap (λ (l : List Object). Some l) (append-nil objects)

none_behind : (o : Option (List ℕ)) → and_then_bytes o [] ≡ o
none_behind None = refl
none_behind (Some bytes) = ap (λ (l : List ℕ). Some l) (append-nil bytes)

-- words tell a list of one, which is that of the command by itself
record TellsOne (words : List (List ℕ)) (input : List ℕ) (mode : Mode) (requests : List Request) : Type 0 where
  pub one : Request
  pub is : requests ≡ one ∷ []
  pub single_is : mode ≡ single
  pub alone_is : (asked : Asked) → asked_of words ≡ Some asked → one ≡ alone asked input

tells_one : (words : List (List ℕ)) (input : List ℕ) (mode : Mode) (requests : List Request) → Tells words input mode requests → TellsOne words input mode requests
tells_one words input single [] tells = absurd tells
tells_one words input single (r ∷ []) (asked, is) = record { one = r; is = refl; single_is = refl; alone_is = λ other also. is ∙ ap (λ a. alone a input) (same_Some r.asked other (sym asked ∙ also)) }
tells_one words input single (r ∷ (s ∷ more)) tells = absurd tells
tells_one words input batch [] tells = absurd tells
tells_one words input batch (r ∷ []) tells = absurd tells
tells_one words input batch (r ∷ (s ∷ more)) tells = absurd tells
tells_one words input generate [] tells = absurd tells
tells_one words input generate (r ∷ []) tells = absurd tells
tells_one words input generate (r ∷ (s ∷ more)) tells = absurd tells

-- ---- the one that is next

next_is : (e : Entry) (input : List ℕ) (asked : Asked) (now : Option (List Object)) (held holds : Option (List ℕ)) (f : Fault) (mode : Mode) (steps : List Step) (left : List Request) (one : Request) → requests_in steps ++ left ≡ one ∷ [] → one ≡ alone asked input
    → NextRefused now holds f mode (and_then e.objects (put_in steps)) (and_then_bytes held (said_in mode steps)) left → Served (record { before = e.objects; now = now; held = held; holds = holds }) (alone asked input) (Err f)
next_is e input asked now held holds f mode steps [] one are is next = absurd next
next_is e input asked now held holds f mode [] (r ∷ left) one are is next =
    let same : r ≡ alone asked input = cc are ∙ is in
    subst (λ q. Served (record { before = e.objects; now = now; held = held; holds = holds }) q (Err f)) same
    (subst (λ o. Served (record { before = o; now = now; held = held; holds = holds }) r (Err f)) (none_more e.objects)
    (subst (λ h. Served (record { before = and_then e.objects []; now = now; held = h; holds = holds }) r (Err f)) (none_behind held) next))
next_is e input asked now held holds f mode (step ∷ []) (r ∷ left) one are is next = absurd (cc are)
next_is e input asked now held holds f mode (step ∷ (other ∷ steps)) (r ∷ left) one are is next = absurd (cc are)

refused_alone : (e : Entry) (asked : Asked) (now : Option (List Object)) (held holds : Option (List ℕ)) (f : Fault) → asked_of e.words ≡ Some asked → OnTrail e held (NextRefused now holds f) → ServedAlone e asked now held holds (Err f)
refused_alone e asked now held holds f is on =
    let tells = tells_one e.words on.input on.mode (requests_in on.steps ++ on.left) on.went.tells in
    record { input = on.input; is_heard = on.is_heard; served = next_is e on.input asked now held holds f on.mode on.steps on.left tells.one tells.is (tells.alone_is asked is) on.holds }

-- ---- the one that is done

done_is : (e : Entry) (old : List Object) (input : List ℕ) (asked : Asked) (now : Option (List Object)) (held holds : Option (List ℕ)) (steps : List Step) (left : List Request) (one : Request) → e.objects ≡ Some old → requests_in steps ++ left ≡ one ∷ [] → one ≡ alone asked input
    → Trail single e.objects steps → NoneLeft now holds single (and_then e.objects (put_in steps)) (and_then_bytes held (said_in single steps)) left → Served (record { before = e.objects; now = now; held = held; holds = holds }) (alone asked input) (Ok tt)
done_is e old input asked now held holds [] left one was are is trail all = absurd (cc (sym all.0 ∙ are))
done_is e old input asked now held holds (step ∷ (other ∷ steps)) left one was are is trail all = absurd (cc are)
done_is e old input asked now held holds (step ∷ []) left one was are is trail all = go step.answer refl where
  go : (answer : Result (List ℕ) Fault) → step.answer ≡ answer → Served (record { before = e.objects; now = now; held = held; holds = holds }) (alone asked input) (Ok tt)
  go (Err f) said = absurd (cc (subst (λ a. Trail single e.objects (record step { answer = a } ∷ [])) said trail).1)
  go (Ok text) said =
      let accepted : IsAccepted e.objects step.request step.puts text = (subst (λ a. Trail single e.objects (record step { answer = a } ∷ [])) said trail).0 in
      let same : step.request ≡ alone asked input = cc are ∙ is in
      λ all_objects told. (
        record {
          puts = step.puts;
          text = text;
          accepted = subst (λ r. IsAccepted e.objects r step.puts text) same accepted all_objects told;
          k = length step.puts;
          stopped = refl;
          grew = all.1 ∙ ap (λ o. and_then o (step.puts ++ [])) told ∙ ap (λ l. Some (all_objects ++ l)) (append-nil step.puts ∙ sym (take_all (length step.puts) step.puts (omega arith)));
        },
        all.2 ∙ ap (λ a. and_then_bytes held (text_by single a ++ [])) said ∙ ap (and_then_bytes held) (append-nil text),
      )

done_alone : (e : Entry) (asked : Asked) (old : List Object) (now : Option (List Object)) (held holds : Option (List ℕ)) → asked_of e.words ≡ Some asked → e.objects ≡ Some old → OnTrail e held (NoneLeft now holds) → ServedAlone e asked now held holds (Ok tt)
done_alone e asked old now held holds is was on =
    let tells = tells_one e.words on.input on.mode (requests_in on.steps ++ on.left) on.went.tells in
    record {
      input = on.input;
      is_heard = on.is_heard;
      served = done_is e old on.input asked now held holds on.steps on.left tells.one was tells.is (tells.alone_is asked is) (subst (λ m. Trail m e.objects on.steps) tells.single_is on.went.trail)
          (subst (λ m. NoneLeft now holds m (and_then e.objects (put_in on.steps)) (and_then_bytes held (said_in m on.steps)) on.left) tells.single_is on.holds);
    }

-- ---- every answer

pub ran_alone : (e : Entry) (asked : Asked) (now : Option (List Object)) (held holds : Option (List ℕ)) (result : Result Unit Fault) → asked_of e.words ≡ Some asked → Ran e now held holds result → IsOfOne e asked now held holds result
ran_alone e asked now held holds (Ok tt) is ran = λ old was. done_alone e asked old now held holds is was (ran.0 old was)
ran_alone e asked now held holds (Err fault.Usage) is ran = absurd (cc (sym is ∙ ran.0))
ran_alone e asked now held holds (Err fault.InputTooLong) is ran = inl (tt, ran.1)
ran_alone e asked now held holds (Err fault.ReadFault) is ran = inl (tt, ran.1)
ran_alone e asked now held holds (Err fault.Memory) is ran = elim ran [ inl before ↦ inl (tt, before) | inr on ↦ inr (refused_alone e asked now held holds fault.Memory is on) ]
ran_alone e asked now held holds (Err f) is ran = inr (refused_alone e asked now held holds f is ran)
