-- What a run does to the tables, from what its command read, put and answered.
use Rattle.std.proofs.Common.{◌≡◌, inl, inr, refl, sym, ◌∙◌, ap, subst, ℕ, ◌^◌, ◌<◌, ◌≤◌, List, [], ◌∷◌, ◌++◌, length, take, arith, append-nil, true, false, drop}
use Rattle.std.specs.Prelude.{Bool, ◌&&◌, nat_lt, cond, IsTrue, IsSomeAnd, Option, Some, None, Vec, Result, Ok, Err, option_map}
use Rattle.std.specs.Option.{ForSome}
use Rattle.std.specs.declared.alloc.Global.{Global}
use Rattle.std.proofs.lemmas.Bool.Decides.{nat_tests}
use Rattle.std.proofs.lemmas.List.{take_all, drop_all}
use Rattle.std.proofs.lemmas.Option.{same_Some}
use Rattle.lan_model.specs.Dataset.{Dataset}
use Rattle.lan_rows.specs.Lines.{cut}
use Rattle.lan_store.specs.Objects.{and_then}
use Rattle.lan_store.specs.Streams.{and_then_bytes, TookFront}
use Rattle.lan_store.specs.declared.name.Object.{Object}
use Rattle.lan_read.proofs.LawTerms.{table_stays}
use Rattle.lance_cli.specs.Chain.{Link, outcomes_of}
use Rattle.lance_cli.specs.Changes.{Change}
use Rattle.lance_cli.specs.Commands.{Asked, create, append, restore, scan, schema, versions, asked_of, reads_input, Request}
use Rattle.lance_cli.specs.Inputs.{IsInput, ReadsInput, TakesText}
use Rattle.lance_cli.specs.Replies.{Mode, single, answer_to, alone}
use Rattle.lance_cli.specs.Runs.{Entry, wants_input, heard, IsLong, Keeps, Kept, IsRun, Done, IsDone, StoppedIn, Stops, Moments, expected, Decided, OnTrail, NoneLeft, NextRefused, Ran, Ordered, TakenToEnd, TakenBy}
use Rattle.lance_cli.specs.Puts.{Accepts}
use Rattle.lance_cli.specs.Served.{Applied, Stopped, WithText, WriteFails, Served}
use Rattle.lance_cli.specs.Reports.{GotPart}
use Rattle.lance_cli.specs.Steps.{Step}
use Rattle.lan_store.specs.Telling.{Telling}
use Rattle.lance_cli.specs.Words.{ByWords, WordsFirst}
use Rattle.lance_cli.specs.declared.fault.Fault.{Fault}
use Rattle.lance_cli.specs.declared.fault.Fault.TheVariants as fault
use Rattle.lance_cli.proofs.Ends.{moments_hold}
use Rattle.lance_cli.proofs.OneLink.{One, one_of, link_done, link_stopped, link_decided}

-- ---- what stood

keeps : (old new more : List Object) → new ≡ old ++ more → Keeps old new
keeps old new more is = record { grew = (more, is); stands = λ version t stands. rw is (table_stays old more version t stands) }

told_keeps : (old more : List Object) (now : Option (List Object)) → now ≡ Some (old ++ more) → IsSomeAnd now (Keeps old)
told_keeps old more now is = rw is (keeps old (old ++ more) more refl)

pub unchanged_kept : (before now : Option (List Object)) → now ≡ before → Kept before now
unchanged_kept before now same = λ old was. told_keeps old [] now (same ∙ was ∙ ap (λ l. Some l) (sym (append-nil old)))

applied_keeps : (c : Change) (r : Request) (cut : ℕ → ℕ → Type 0) (old : List Object) → Applied old c r cut → IsSomeAnd c.now (Keeps old)
applied_keeps c r cut old a = told_keeps old (take a.k a.puts) c.now a.grew

stopped_kept : (c : Change) (r : Request) (cut : ℕ → ℕ → Type 0) → Stopped c r cut → Kept c.before c.now
stopped_kept c r cut (inl same) = unchanged_kept c.before c.now same
stopped_kept c r cut (inr applied) = λ old was. applied_keeps c r cut old (applied old was)

text_kept : (c : Change) (r : Request) → WithText c r (λ text. GotPart text c.held c.holds) → Kept c.before c.now
text_kept c r fails = λ old was. applied_keeps c r (λ k n. k ≡ n) old (fails old was).0

write_kept : (asked : Asked) (c : Change) (r : Request) → WriteFails asked c r → Kept c.before c.now
write_kept (scan options) c r fails = unchanged_kept c.before c.now fails.0
write_kept (create json) c r fails = text_kept c r fails
write_kept append c r fails = text_kept c r fails
write_kept (restore version) c r fails = text_kept c r fails
write_kept (schema version) c r fails = text_kept c r fails
write_kept versions c r fails = text_kept c r fails

pub served_kept : (c : Change) (r : Request) (result : Result Unit Fault) → Served c r result → Kept c.before c.now
served_kept c r (Ok t) served = λ old was. applied_keeps c r (λ k n. k ≡ n) old (served old was).0
served_kept c r (Err fault.WriteFault) served = write_kept r.asked c r served
served_kept c r (Err (fault.StoreFault name)) served = stopped_kept c r (λ k n. k ≤ n) served.0
served_kept c r (Err fault.Memory) served = stopped_kept c r (λ k n. k < n) served.0
served_kept c r (Err (fault.Raced name)) served = stopped_kept c r (λ k n. k < n) served.1
served_kept c r (Err (fault.Outside name why place)) served = unchanged_kept c.before c.now served.1
served_kept c r (Err fault.Usage) served = absurd served.0
served_kept c r (Err (fault.BadInput line why)) served = unchanged_kept c.before c.now served.1
served_kept c r (Err fault.InputTooLong) served = absurd served.0
served_kept c r (Err fault.NoDataset) served = unchanged_kept c.before c.now served.1
served_kept c r (Err (fault.AlreadyThere version)) served = unchanged_kept c.before c.now served.1
served_kept c r (Err (fault.NoVersion asked newest)) served = unchanged_kept c.before c.now served.1
served_kept c r (Err (fault.RowOutOfRange row rows)) served = absurd served.0
served_kept c r (Err (fault.NoColumn name)) served = unchanged_kept c.before c.now served.1
served_kept c r (Err (fault.ColumnThere name)) served = absurd served.0
served_kept c r (Err (fault.LastColumn name)) served = absurd served.0
served_kept c r (Err (fault.NoNullable name)) served = absurd served.0
served_kept c r (Err (fault.CountDiffers rows lines)) served = absurd served.0
served_kept c r (Err (fault.Limit which number)) served = unchanged_kept c.before c.now served.1
served_kept c r (Err fault.ReadFault) served = absurd served.0

-- ---- the words and the input

-- where the words ask for nothing, there is no run of them
pub no_run : (words : List (List ℕ)) (input : List ℕ) (old : List Object) (mode : Mode) (d : Dataset) (links : List Link) → asked_of words ≡ None → IsRun words input old mode d links → ⊥
no_run words input old mode d links none r = let one = one_of words input old mode d links r in cc (sym none ∙ one.asked)

heard_as : (b : Bool) (given left : Option (List ℕ)) (text : Vec ℕ Global) (all : List ℕ) → TakesText b given left (Ok text) → cond b given (Some []) ≡ Some all → text.items ≡ all
heard_as true given left text all took told = (took.all all told).0
heard_as false given left text all took told = took.0 ∙ same_Some [] all told

-- what was read is what is heard
pub heard_is : (e : Entry) (asked : Asked) (left : Option (List ℕ)) (text : Vec ℕ Global) → asked_of e.words ≡ Some asked → TakesText (reads_input asked) e.input left (Ok text) → ForSome (heard e) (λ all. text.items ≡ all)
heard_is e asked left text is takes = λ all told. heard_as (reads_input asked) e.input left text all takes (ap (λ a. cond (wants_input a) e.input (Some [])) (sym is) ∙ told)

pub is_short : (b : Bool) (given left : Option (List ℕ)) (text : Vec ℕ Global) → TakesText b given left (Ok text) → length text.items ≤ 2 ^ 28
is_short true given left text takes = takes.short
is_short false given left text takes = omega (arith, ap length takes.0)

never_long : (e : Entry) (asked : Asked) (left : Option (List ℕ)) (text : Vec ℕ Global) → asked_of e.words ≡ Some asked → TakesText (reads_input asked) e.input left (Ok text) → IsLong e → ⊥
never_long e asked left text is takes (wants, long) = go (reads_input asked) takes (sym (ap wants_input is) ∙ wants) where
  none : (given : Option (List ℕ)) → IsInput given left text.items → IsSomeAnd given (λ input. 2 ^ 28 < length input) → ⊥
  none None took over = over
  none (Some input) took over = omega (arith, over, took.short, ap length (took.all input refl).0)

  go : (b : Bool) → TakesText b e.input left (Ok text) → b ≡ true → ⊥
  go true took wanted = none e.input took long
  go false took wanted = cc wanted

-- ---- on any folder

none_more : (o : Option (List Object)) → o ≡ and_then o []
none_more None = refl
none_more (Some objects) = ap (λ l. Some l) (sym (append-nil objects))

no_bytes : (o : Option (List ℕ)) → o ≡ and_then_bytes o []
no_bytes None = refl
no_bytes (Some bytes) = ap (λ l. Some l) (sym (append-nil bytes))

-- the one command is next
next_one : (e : Entry) (now : Option (List Object)) (held holds : Option (List ℕ)) (asked : Asked) (left : Option (List ℕ)) (text : Vec ℕ Global) (f : Fault) → asked_of e.words ≡ Some asked → TakesText (reads_input asked) e.input left (Ok text)
    → Served (record { before = e.objects; now = now; held = held; holds = holds }) (alone asked text.items) (Err f) → OnTrail e held (NextRefused now holds f)
next_one e now held holds asked left text f is takes served = record {
  input = text.items;
  is_heard = heard_is e asked left text is takes;
  short = is_short (reads_input asked) e.input left text takes;
  mode = single;
  steps = [];
  left = alone asked text.items ∷ [];
  went = record { tells = (is, refl); trail = tt };
  holds = subst (λ o. Served (record { before = o; now = now; held = and_then_bytes held []; holds = holds }) (alone asked text.items) (Err f)) (none_more e.objects)
      (subst (λ h. Served (record { before = e.objects; now = now; held = h; holds = holds }) (alone asked text.items) (Err f)) (no_bytes held) served);
}

-- the one command had its turn
over_one : (e : Entry) (now : Option (List Object)) (held holds : Option (List ℕ)) (asked : Asked) (left : Option (List ℕ)) (text : Vec ℕ Global) → asked_of e.words ≡ Some asked → TakesText (reads_input asked) e.input left (Ok text)
    → Served (record { before = e.objects; now = now; held = held; holds = holds }) (alone asked text.items) (Ok tt) → ForSome e.objects (λ old. OnTrail e held (NoneLeft now holds))
over_one e now held holds asked left text is takes served = λ old was.
    let (a, prints) = served old was in
    let step : Step = record { request = alone asked text.items; answer = Ok a.text; puts = a.puts } in
    record {
      input = text.items;
      is_heard = heard_is e asked left text is takes;
      short = is_short (reads_input asked) e.input left text takes;
      mode = single;
      steps = step ∷ [];
      left = [];
      went = record { tells = (is, refl); trail = ((λ all told. subst (λ l. Accepts l (alone asked text.items) a.puts a.text) (same_Some old all (sym was ∙ told)) a.accepted), refl, tt) };
      holds = (
        refl,
        a.grew ∙ ap (λ l. Some (old ++ l)) (take_all a.k a.puts (omega (arith, a.stopped))) ∙ sym (ap (λ o. and_then o a.puts) was) ∙ ap (λ l. and_then e.objects l) (sym (append-nil a.puts)),
        prints ∙ ap (λ l. and_then_bytes held l) (sym (append-nil a.text)),
      );
    }

pub served_ran : (e : Entry) (now : Option (List Object)) (held holds : Option (List ℕ)) (asked : Asked) (left : Option (List ℕ)) (text : Vec ℕ Global) (result : Result Unit Fault) → asked_of e.words ≡ Some asked → TakesText (reads_input asked) e.input left (Ok text)
    → Served (record { before = e.objects; now = now; held = held; holds = holds }) (alone asked text.items) result → Ran e now held holds result
served_ran e now held holds asked left text (Ok t) is takes served = (over_one e now held holds asked left text is takes served, (asked, is), never_long e asked left text is takes)
served_ran e now held holds asked left text (Err fault.Usage) is takes served = absurd served.0
served_ran e now held holds asked left text (Err fault.InputTooLong) is takes served = absurd served.0
served_ran e now held holds asked left text (Err fault.ReadFault) is takes served = absurd served.0
served_ran e now held holds asked left text (Err fault.Memory) is takes served = inr (next_one e now held holds asked left text fault.Memory is takes served)
served_ran e now held holds asked left text (Err f) is takes served = next_one e now held holds asked left text f is takes served

-- ---- where the versions that are read stand

-- a run's one link is of what was served
linked : (e : Entry) (asked : Asked) (left : Option (List ℕ)) (text : Vec ℕ Global) (old : List Object) (input : List ℕ) (mode : Mode) (d : Dataset) (links : List Link) → asked_of e.words ≡ Some asked → TakesText (reads_input asked) e.input left (Ok text) → heard e ≡ Some input
    → (one : One e.words input old mode d links) → alone asked text.items ≡ one.link.told.request
linked e asked left text old input mode d links is takes told one =
    let same : asked ≡ one.link.told.request.asked = same_Some asked one.link.told.request.asked (sym is ∙ one.asked) in
    ap (λ t. alone asked t) (heard_is e asked left text is takes input told) ∙ ap (λ a. alone a input) same ∙ sym one.request

served_link : (e : Entry) (now : Option (List Object)) (held holds : Option (List ℕ)) (asked : Asked) (left : Option (List ℕ)) (text : Vec ℕ Global) (result : Result Unit Fault) (old : List Object) (input : List ℕ) (mode : Mode) (d : Dataset) (links : List Link) → asked_of e.words ≡ Some asked
    → TakesText (reads_input asked) e.input left (Ok text) → Served (record { before = e.objects; now = now; held = held; holds = holds }) (alone asked text.items) result → heard e ≡ Some input → (one : One e.words input old mode d links)
    → Served (record { before = e.objects; now = now; held = held; holds = holds }) one.link.told.request result
served_link e now held holds asked left text result old input mode d links is takes served told one =
    subst (λ r. Served (record { before = e.objects; now = now; held = held; holds = holds }) r result) (linked e asked left text old input mode d links is takes told one) served

pub served_done : (e : Entry) (now : Option (List Object)) (held holds : Option (List ℕ)) (asked : Asked) (left : Option (List ℕ)) (text : Vec ℕ Global) (result : Result Unit Fault) → asked_of e.words ≡ Some asked → TakesText (reads_input asked) e.input left (Ok text)
    → Served (record { before = e.objects; now = now; held = held; holds = holds }) (alone asked text.items) result → Done e now held holds result
served_done e now held holds asked left text (Err f) is takes served = λ old was input told mode d links r. tt
served_done e now held holds asked left text (Ok t) is takes served = λ old was input told mode d links r.
    let one = one_of e.words input old mode d links r in
    let whole = link_done (record { before = e.objects; now = now; held = held; holds = holds }) old d one.link was one.agrees one.is (served_link e now held holds asked left text (Ok t) old input mode d links is takes served told one) in
    subst (λ m. IsDone m old d links now held holds) (sym one.mode_is) (subst (λ l. IsDone single old d l now held holds) (sym one.links_are) whole)

pub served_stops : (e : Entry) (now : Option (List Object)) (held holds : Option (List ℕ)) (asked : Asked) (left : Option (List ℕ)) (text : Vec ℕ Global) (result : Result Unit Fault) → asked_of e.words ≡ Some asked → TakesText (reads_input asked) e.input left (Ok text)
    → Served (record { before = e.objects; now = now; held = held; holds = holds }) (alone asked text.items) result → Stops e now held holds result
served_stops e now held holds asked left text (Ok t) is takes served = λ old was input told mode d links r. tt
served_stops e now held holds asked left text (Err f) is takes served = λ old was input told mode d links r.
    let one = one_of e.words input old mode d links r in
    let stopped = link_stopped (record { before = e.objects; now = now; held = held; holds = holds }) old d one.link f was one.agrees one.is (served_link e now held holds asked left text (Err f) old input mode d links is takes served told one) in
    subst (λ m. StoppedIn m old d links now held holds f) (sym one.mode_is) (subst (λ l. StoppedIn single old d l now held holds f) (sym one.links_are) stopped)

-- an input that isn't too long is answered as it is replied
expects : (e : Entry) (input : List ℕ) (answer : Result Unit Fault) → length input ≤ 2 ^ 28 → answer ≡ expected e input answer
expects e input answer short = go (wants_input (asked_of e.words)) where
  within : nat_lt (2 ^ 28) (length input) ≡ false
  within = grind (arith, nat_tests, short)

  go : (b : Bool) → answer ≡ cond (b && nat_lt (2 ^ 28) (length input)) (Err fault.InputTooLong) answer
  go true = rw within refl
  go false = refl

pub served_decided : (e : Entry) (now : Option (List Object)) (held holds : Option (List ℕ)) (asked : Asked) (left : Option (List ℕ)) (text : Vec ℕ Global) (result : Result Unit Fault) → asked_of e.words ≡ Some asked → TakesText (reads_input asked) e.input left (Ok text)
    → Served (record { before = e.objects; now = now; held = held; holds = holds }) (alone asked text.items) result → Decided e result
served_decided e now held holds asked left text result is takes served = λ old was input told mode d links r.
    let one = one_of e.words input old mode d links r in
    let decided = link_decided (record { before = e.objects; now = now; held = held; holds = holds }) old d one.link result was one.agrees one.is (served_link e now held holds asked left text result old input mode d links is takes served told one) in
    let same : length input ≤ 2 ^ 28 = subst (λ (t : List ℕ). length t ≤ 2 ^ 28) (heard_is e asked left text is takes input told) (is_short (reads_input asked) e.input left text takes) in
    elim decided [
      | inl is_answer ↦
          let whole : answer_to single (one.link.outcome ∷ []) ≡ answer_to mode (outcomes_of links) = ap (λ m. answer_to m (one.link.outcome ∷ [])) (sym one.mode_is) ∙ ap (λ l. answer_to mode (outcomes_of l)) (sym one.links_are) in
          inl (is_answer ∙ whole ∙ expects e input (answer_to mode (outcomes_of links)) same)
      | inr failed ↦ inr failed
    ]

pub moments_of : (e : Entry) (now : Option (List Object)) (held holds : Option (List ℕ)) (result : Result Unit Fault) → Done e now held holds result → Stops e now held holds result → Moments e now
moments_of e now held holds result is_done stops = moments_hold e now held holds result is_done stops

-- ---- the order of refusals

wants_none : (e : Entry) → asked_of e.words ≡ None → IsTrue (wants_input (asked_of e.words)) → ⊥
wants_none e none wants = let no : wants_input (asked_of e.words) ≡ false = ap wants_input none in cc (sym no ∙ wants)

pub served_order : (e : Entry) (asked : Asked) (left : Option (List ℕ)) (text : Vec ℕ Global) (before now : Telling) (result : Result Unit Fault) → asked_of e.words ≡ Some asked → TakesText (reads_input asked) e.input left (Ok text) → WordsFirst asked 0 before now result → Ordered e before now result
served_order e asked left text before now result is takes words fault.Usage early = absurd (cc (sym is ∙ early))
served_order e asked left text before now result is takes words fault.InputTooLong early = absurd (never_long e asked left text is takes early)
served_order e asked left text before now result is takes words f (other, other_is, by_words) =
    let same : other ≡ asked = same_Some other asked (sym other_is ∙ is) in
    let (quiet, answer) = words f (subst (λ a. ByWords a 0 f) same by_words) in
    (quiet, elim answer [ inl is_answer ↦ inl is_answer | inr memory ↦ inr (inr memory) ])

-- ---- the input

ended : (c : Change) (r : Request) (given left : Option (List ℕ)) (result : Result Unit Fault) → ForSome given (λ all. left ≡ Some []) → Served c r result → TakenToEnd given left result
ended c r given left (Err fault.InputTooLong) all served = absurd served.0
ended c r given left (Err fault.ReadFault) all served = absurd served.0
ended c r given left (Err fault.Memory) all served = λ input told. (length input, all input told ∙ sym (ap (option_map (drop (length input))) told ∙ ap (λ l. Some l) (drop_all (length input) input (omega arith))))
ended c r given left result all served = all

pub served_takes : (c : Change) (r : Request) (b : Bool) (given left : Option (List ℕ)) (text : Vec ℕ Global) (result : Result Unit Fault) → TakesText b given left (Ok text) → Served c r result → TakenBy b given left result
served_takes c r true given left text result takes served = ended c r given left result (λ all told. (takes.all all told).1) served
served_takes c r false given left text result takes served = takes.1

-- ---- where the words ask for nothing, or the input isn't read

pub unasked_order : (e : Entry) (before : Telling) → asked_of e.words ≡ None → Ordered e before before (Err fault.Usage)
unasked_order e before none fault.Usage early = (refl, inl refl)
unasked_order e before none fault.InputTooLong early = absurd (wants_none e none early.0)
unasked_order e before none f (asked, is, by_words) = absurd (cc (sym none ∙ is))

-- memory ran short before anything was read
pub short_ran : (e : Entry) (held : Option (List ℕ)) → Ran e e.objects held held (Err fault.Memory)
short_ran e held = inl (record { objects = refl; sink = refl })

pub short_stops : (e : Entry) (held : Option (List ℕ)) → Stops e e.objects held held (Err fault.Memory)
short_stops e held = λ old was input told mode d links r. inl (tt, record { objects = was; sink = refl })

pub short_order : (e : Entry) (before : Telling) → Ordered e before before (Err fault.Memory)
short_order e before f early = (refl, inr (inr refl))

none_taken : (given : Option (List ℕ)) → TookFront given given
none_taken None = (0, refl)
none_taken (Some input) = (0, refl)

pub short_takes : (b : Bool) (given : Option (List ℕ)) → TakenBy b given given (Err fault.Memory)
short_takes true given = λ input told. none_taken given
short_takes false given = refl

-- why the input wasn't read
pub record Unread (e : Entry) (asked : Asked) (left : Option (List ℕ)) (f : Fault) : Type 0 where
  pub is : asked_of e.words ≡ Some asked
  pub reads : reads_input asked ≡ true
  pub takes : ReadsInput e.input left (Err f)

pub unread_of : (e : Entry) (asked : Asked) (left : Option (List ℕ)) (f : Fault) → asked_of e.words ≡ Some asked → TakesText (reads_input asked) e.input left (Err f) → Unread e asked left f
unread_of e asked left f is takes = go (reads_input asked) refl takes where
  go : (b : Bool) → reads_input asked ≡ b → TakesText b e.input left (Err f) → Unread e asked left f
  go true reads took = record { is = is; reads = reads; takes = took }
  go false reads took = absurd took

wanted : (e : Entry) (asked : Asked) → asked_of e.words ≡ Some asked → reads_input asked ≡ true → IsTrue (wants_input (asked_of e.words))
wanted e asked is reads = ap wants_input is ∙ reads

pub unread_ran : (e : Entry) (asked : Asked) (left : Option (List ℕ)) (held : Option (List ℕ)) (f : Fault) → Unread e asked left f → Ran e e.objects held held (Err f)
unread_ran e asked left held fault.InputTooLong u = ((wanted e asked u.is u.reads, λ input told. (u.takes input told).long), record { objects = refl; sink = refl })
unread_ran e asked left held fault.ReadFault u = (wanted e asked u.is u.reads, record { objects = refl; sink = refl })
unread_ran e asked left held fault.Memory u = inl (record { objects = refl; sink = refl })
unread_ran e asked left held f u = absurd u.takes

pub unread_stops : (e : Entry) (asked : Asked) (left : Option (List ℕ)) (held : Option (List ℕ)) (f : Fault) → Unread e asked left f → Stops e e.objects held held (Err f)
unread_stops e asked left held fault.InputTooLong u = λ old was input told mode d links r. inl (tt, record { objects = was; sink = refl })
unread_stops e asked left held fault.ReadFault u = λ old was input told mode d links r. inl (tt, record { objects = was; sink = refl })
unread_stops e asked left held fault.Memory u = λ old was input told mode d links r. inl (tt, record { objects = was; sink = refl })
unread_stops e asked left held f u = absurd u.takes

-- too much of an input is answered as it is replied
too_long : (e : Entry) (asked : Asked) (input : List ℕ) (answer : Result Unit Fault) → asked_of e.words ≡ Some asked → reads_input asked ≡ true → 2 ^ 28 < length input → Err fault.InputTooLong ≡ expected e input answer
too_long e asked input answer is reads long = rw (wanted e asked is reads, over) refl where
  over : nat_lt (2 ^ 28) (length input) ≡ true
  over = grind (arith, nat_tests, long)

given_of : (e : Entry) (asked : Asked) (input : List ℕ) → asked_of e.words ≡ Some asked → reads_input asked ≡ true → heard e ≡ Some input → e.input ≡ Some input
given_of e asked input is reads told = ap (λ b. cond b e.input (Some [])) (sym (wanted e asked is reads)) ∙ told

pub unread_decided : (e : Entry) (asked : Asked) (left : Option (List ℕ)) (f : Fault) → Unread e asked left f → Decided e (Err f)
unread_decided e asked left fault.InputTooLong u = λ old was input told mode d links r. inl (too_long e asked input (answer_to mode (outcomes_of links)) u.is u.reads (u.takes input (given_of e asked input u.is u.reads told)).long)
unread_decided e asked left fault.ReadFault u = λ old was input told mode d links r. inr tt
unread_decided e asked left fault.Memory u = λ old was input told mode d links r. inr tt
unread_decided e asked left f u = absurd u.takes

-- a command that reads input decides nothing by its own words
no_words : (asked : Asked) (f : Fault) → reads_input asked ≡ true → ByWords asked 0 f → ⊥
no_words (create json) f reads by_words = cc reads
no_words append (fault.BadInput line why) reads by_words = by_words
no_words append f reads by_words = absurd by_words
no_words (restore version) f reads by_words = cc reads
no_words (scan options) f reads by_words = cc reads
no_words (schema version) f reads by_words = cc reads
no_words versions f reads by_words = cc reads

pub unread_order : (e : Entry) (asked : Asked) (left : Option (List ℕ)) (before : Telling) (f : Fault) → Unread e asked left f → Ordered e before before (Err f)
unread_order e asked left before f u fault.Usage early = absurd (cc (sym u.is ∙ early))
unread_order e asked left before fault.InputTooLong u fault.InputTooLong early = (refl, inl refl)
unread_order e asked left before fault.ReadFault u fault.InputTooLong early = (refl, inr (inl refl))
unread_order e asked left before fault.Memory u fault.InputTooLong early = (refl, inr (inr refl))
unread_order e asked left before f u fault.InputTooLong early = absurd u.takes
unread_order e asked left before f u g (other, other_is, by_words) =
    let same : other ≡ asked = same_Some other asked (sym other_is ∙ u.is) in
    absurd (no_words asked g u.reads (subst (λ a. ByWords a 0 g) same by_words))

unread_takes_as : (given left : Option (List ℕ)) (f : Fault) → ReadsInput given left (Err f) → TakenToEnd given left (Err f)
unread_takes_as given left fault.InputTooLong takes = takes
unread_takes_as given left fault.ReadFault takes = λ input told. takes
unread_takes_as given left fault.Memory takes = λ input told. takes
unread_takes_as given left f takes = absurd takes

pub unread_takes : (e : Entry) (asked : Asked) (left : Option (List ℕ)) (f : Fault) → Unread e asked left f → TakenBy (wants_input (asked_of e.words)) e.input left (Err f)
unread_takes e asked left f u = subst (λ b. TakenBy b e.input left (Err f)) (sym (wanted e asked u.is u.reads)) (unread_takes_as e.input left f u.takes)

pub takes_as : (e : Entry) (asked : Asked) (left : Option (List ℕ)) (text : Vec ℕ Global) (c : Change) (r : Request) (result : Result Unit Fault) → asked_of e.words ≡ Some asked → TakesText (reads_input asked) e.input left (Ok text) → Served c r result
    → TakenBy (wants_input (asked_of e.words)) e.input left result
takes_as e asked left text c r result is takes served = subst (λ a. TakenBy (wants_input a) e.input left result) (sym is) (served_takes c r (reads_input asked) e.input left text result takes served)
