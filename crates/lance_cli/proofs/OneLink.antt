-- What a run of one command did, of the one link of its chain.
use Rattle.std.proofs.Common.{◌≡◌, inl, inr, refl, sym, ◌∙◌, ap, subst, ℕ, ◌<◌, ◌≤◌, List, [], ◌∷◌, ◌++◌, length, take, map, arith, append-nil, true, false}
use Rattle.std.specs.Prelude.{Bool, MatchBool, IsTrue, ◌⊎◌, Some, Result, Ok, Err}
use Rattle.std.proofs.lemmas.List.{take_all}
use Rattle.lan_model.specs.Dataset.{Dataset}
use Rattle.lan_store.specs.Streams.{and_then_bytes}
use Rattle.lan_store.specs.declared.name.Name.{Name}
use Rattle.lan_store.specs.declared.name.Object.{Object}
use Rattle.lan_read.specs.Tables.{AgreesWith}
use Rattle.lance_cli.specs.Causes.{Cause}
use Rattle.lance_cli.specs.Chain.{Link, IsLink, Chain, puts_of}
use Rattle.lance_cli.specs.Changes.{Change}
use Rattle.lance_cli.specs.Commands.{Asked, create, append, restore, scan, schema, versions, asked_of, prints_rows, Request}
use Rattle.lance_cli.specs.Replies.{Told, Outcome, refused, done, Mode, single, batch, generate, said_by, goes_on, text_by, answer_to, left_by, replied, Tells, alone}
use Rattle.lance_cli.specs.Reports.{GotPart}
use Rattle.lance_cli.specs.Runs.{IsRun, IsDone, IsFailure, IsPart, StopsAt, StoppedIn, put_at}
use Rattle.lance_cli.specs.Served.{Applied, GotBefore, WithText, WriteFails, Served}
use Rattle.lance_cli.specs.declared.fault.Fault.{Fault}
use Rattle.lance_cli.specs.declared.fault.Fault.TheVariants as fault
use Rattle.lance_cli.proofs.Ends.{done_front, stopped_front}
use Rattle.lance_cli.proofs.Fronts.{Links, steps_agree}
use Rattle.lance_cli.proofs.Linked.{settled, refused_as, not_outside, no_front, rows_front, bytes_front, rows_none}

-- ---- the chain of one command

-- the one link of a run, and what it requests
pub record One (words : List (List ℕ)) (input : List ℕ) (old : List Object) (mode : Mode) (d : Dataset) (links : List Link) : Type 0 where
  pub link : Link
  pub links_are : links ≡ link ∷ []
  pub mode_is : mode ≡ single
  pub asked : asked_of words ≡ Some link.told.request.asked
  pub request : link.told.request ≡ alone link.told.request.asked input
  pub agrees : AgreesWith old d
  pub is : IsLink old d link

none_behind : (on : Bool) (mode : Mode) (old : List Object) (d : Dataset) (links : List Link) → MatchBool on (Chain mode old d [] links) (links ≡ []) → links ≡ []
none_behind true mode old d links none = none
none_behind false mode old d links none = none

pub one_of : (words : List (List ℕ)) (input : List ℕ) (old : List Object) (mode : Mode) (d : Dataset) (links : List Link) → IsRun words input old mode d links → One words input old mode d links
one_of words input old mode d links r = go mode r.told links r.tells r.chain where
  go : (mode : Mode) (told : List Told) (links : List Link) → Tells words input mode (map (λ t. t.request) told) → Chain mode old d told links → One words input old mode d links
  go single [] links tells chain = absurd tells
  go single (t ∷ []) [] tells chain = absurd chain
  go single (t ∷ []) (link ∷ links) (asked, request) (same, is, behind) =
      let none = none_behind (goes_on single (said_by link.outcome)) single (old ++ link.puts) (left_by d link.outcome) links behind in
      record {
        link = link;
        links_are = ap (λ l. link ∷ l) none;
        mode_is = refl;
        asked = asked ∙ ap (λ (t : Told). Some t.request.asked) (sym same);
        request = ap (λ (t : Told). t.request) same ∙ request ∙ ap (λ (t : Told). alone t.request.asked input) (sym same);
        agrees = r.agrees;
        is = is;
      }
  go single (t ∷ (u ∷ ts)) links tells chain = absurd tells
  go batch [] links tells chain = absurd tells
  go batch (t ∷ []) links tells chain = absurd tells
  go batch (t ∷ (u ∷ ts)) links tells chain = absurd tells
  go generate [] links tells chain = absurd tells
  go generate (t ∷ []) links tells chain = absurd tells
  go generate (t ∷ (u ∷ ts)) links tells chain = absurd tells

alone_links : (old : List Object) (d : Dataset) (link : Link) → IsLink old d link → Links old d (link ∷ [])
alone_links old d link is = (is, tt)

one_puts : (link : Link) → puts_of (link ∷ []) ≡ link.puts
one_puts link = append-nil link.puts

-- ---- an Ok

whole_text : (d : Dataset) (o : Outcome) (text : List ℕ) (later : Dataset) → o ≡ done text later → (replied single d (o ∷ [])).text ≡ text
whole_text d o text later same = ap (λ o. (replied single d (o ∷ [])).text) same ∙ append-nil (text ++ []) ∙ append-nil text

pub link_done : (c : Change) (old : List Object) (d : Dataset) (link : Link) → c.before ≡ Some old → AgreesWith old d → IsLink old d link → Served c link.told.request (Ok tt) → IsDone single old d (link ∷ []) c.now c.held c.holds
link_done c old d link was agrees is served =
    let (a, prints) = served old was in
    let s = settled old d link a.puts a.text agrees is a.accepted in
    record {
      answer = ap (λ o. answer_to single (o ∷ [])) s.replies;
      prints = prints ∙ ap (λ t. and_then_bytes c.held t) (sym (whole_text d link.outcome a.text s.later s.replies));
      puts = a.grew ∙ ap (λ l. Some (old ++ l)) (take_all a.k a.puts (omega (arith, a.stopped)) ∙ sym s.puts_are ∙ sym (one_puts link));
      agrees = steps_agree old d (link ∷ []) [] agrees (alone_links old d link is);
      stands = done_front old d (link ∷ []) agrees (alone_links old d link is);
    }

-- ---- a refusal

stopped_at : (c : Change) (old : List Object) (d : Dataset) (link : Link) (f : Fault) → AgreesWith old d → IsLink old d link → StopsAt single old [] link f c.now c.held c.holds → StoppedIn single old d (link ∷ []) c.now c.held c.holds f
stopped_at c old d link f agrees is s =
    let (m, so_many, stands) = stopped_front single old d [] [] link f c.now c.held c.holds agrees (alone_links old d link is) s in
    inr (inl ([], link, [], refl, record { stops = s; m = m; so_many = so_many; stands = stands }))

no_puts : (old : List Object) (puts : List Object) → old ≡ (old ++ puts_of []) ++ take 0 puts
no_puts old puts = sym (append-nil old) ∙ sym (append-nil (old ++ [])) ∙ ap (λ l. (old ++ []) ++ l) (sym (nothing puts)) where
  nothing : (l : List Object) → take 0 l ≡ []
  nothing [] = refl
  nothing (o ∷ os) = refl

some_puts : (old : List Object) (puts : List Object) → old ++ puts ≡ (old ++ puts_of []) ++ puts
some_puts old puts = ap (λ (l : List Object). l ++ puts) (sym (append-nil old))

-- of the link's puts so many stand, and of its text so many bytes
stops_with : (c : Change) (old : List Object) (link : Link) (f : Fault) (put : ℕ) → c.now ≡ Some (put_at old [] link put) → (got : GotPart (text_by single (said_by link.outcome)) c.held c.holds) → IsPart link put got.0 f → StopsAt single old [] link f c.now c.held c.holds
stops_with c old link f put now got part = record { put = put; printed = got.0; within = got.1; part = part; objects = now; sink = got.2 }

unchanged_at : (c : Change) (old : List Object) (link : Link) → c.before ≡ Some old → c.now ≡ c.before → c.now ≡ Some (put_at old [] link 0)
unchanged_at c old link was same = same ∙ was ∙ ap (λ l. Some l) (no_puts old link.puts)

applied_at : (c : Change) (old : List Object) (d : Dataset) (link : Link) (cut : ℕ → ℕ → Type 0) → AgreesWith old d → IsLink old d link → (a : Applied old c link.told.request cut) → (c.now ≡ Some (put_at old [] link a.k)) × cut a.k (length link.puts)
applied_at c old d link cut agrees is a =
    let s = settled old d link a.puts a.text agrees is a.accepted in (
      a.grew ∙ ap (λ l. Some l) (some_puts old (take a.k a.puts)) ∙ ap (λ l. Some ((old ++ puts_of []) ++ take a.k l)) (sym s.puts_are),
      subst (λ (l : List Object). cut a.k (length l)) (sym s.puts_are) a.stopped,
    )

-- what the sink got of a command's text
got_before : (asked : Asked) (c : Change) (old : List Object) (d : Dataset) (link : Link) → c.before ≡ Some old → AgreesWith old d → IsLink old d link → link.told.request.asked ≡ asked → GotBefore asked c
    → (got : GotPart (text_by single (said_by link.outcome)) c.held c.holds) × ((got.0 ≡ 0) ⊎ IsTrue (prints_rows asked))
got_before (scan options) c old d link was agrees is asked front = (rows_front old d link options c.held c.holds agrees is asked (front old was), inr refl)
got_before (create json) c old d link was agrees is asked same = (no_front c.held c.holds (text_by single (said_by link.outcome)) same, inl refl)
got_before append c old d link was agrees is asked same = (no_front c.held c.holds (text_by single (said_by link.outcome)) same, inl refl)
got_before (restore version) c old d link was agrees is asked same = (no_front c.held c.holds (text_by single (said_by link.outcome)) same, inl refl)
got_before (schema version) c old d link was agrees is asked same = (no_front c.held c.holds (text_by single (said_by link.outcome)) same, inl refl)
got_before versions c old d link was agrees is asked same = (no_front c.held c.holds (text_by single (said_by link.outcome)) same, inl refl)

-- a refusal that is replied
stops_replied : (c : Change) (old : List Object) (d : Dataset) (link : Link) (f : Fault) → c.before ≡ Some old → c.now ≡ c.before → c.holds ≡ c.held → IsPart link 0 0 f → StopsAt single old [] link f c.now c.held c.holds
stops_replied c old d link f was same bytes part = stops_with c old link f 0 (unchanged_at c old link was same) (no_front c.held c.holds (text_by single (said_by link.outcome)) bytes) part

stops_store : (c : Change) (old : List Object) (d : Dataset) (link : Link) (name : Name) → c.before ≡ Some old → AgreesWith old d → IsLink old d link → Served c link.told.request (Err (fault.StoreFault name)) → StopsAt single old [] link (fault.StoreFault name) c.now c.held c.holds
stops_store c old d link name was agrees is (left, got) =
    let (part, quiet) = got_before link.told.request.asked c old d link was agrees is refl got in
    elim left [
      | inl same ↦ stops_with c old link (fault.StoreFault name) 0 (unchanged_at c old link was same) part (omega arith, quiet)
      | inr applied ↦
          let a = applied old was in
          let (now, within) = applied_at c old d link (λ k n. k ≤ n) agrees is a in
          stops_with c old link (fault.StoreFault name) a.k now part (within, quiet)
    ]

stops_memory : (c : Change) (old : List Object) (d : Dataset) (link : Link) → c.before ≡ Some old → AgreesWith old d → IsLink old d link → Served c link.told.request (Err fault.Memory) → StopsAt single old [] link fault.Memory c.now c.held c.holds
stops_memory c old d link was agrees is (left, got) =
    let (part, quiet) = got_before link.told.request.asked c old d link was agrees is refl got in
    elim left [
      | inl same ↦ stops_with c old link fault.Memory 0 (unchanged_at c old link was same) part (inl refl, quiet)
      | inr applied ↦
          let a = applied old was in
          let (now, within) = applied_at c old d link (λ k n. k < n) agrees is a in
          stops_with c old link fault.Memory a.k now part (inr within, quiet)
    ]

-- all was put, and the sink got a front of the text
stops_text : (c : Change) (old : List Object) (d : Dataset) (link : Link) → c.before ≡ Some old → AgreesWith old d → IsLink old d link → WithText c link.told.request (λ text. GotPart text c.held c.holds) → StopsAt single old [] link fault.WriteFault c.now c.held c.holds
stops_text c old d link was agrees is fails =
    let (a, got) = fails old was in
    let s = settled old d link a.puts a.text agrees is a.accepted in
    let (now, all) = applied_at c old d link (λ k n. k ≡ n) agrees is a in
    stops_with c old link fault.WriteFault a.k now (subst (λ o. GotPart (text_by single (said_by o)) c.held c.holds) (sym s.replies) got) all

stops_write : (asked : Asked) (c : Change) (old : List Object) (d : Dataset) (link : Link) → c.before ≡ Some old → AgreesWith old d → IsLink old d link → link.told.request.asked ≡ asked → WriteFails asked c link.told.request → StopsAt single old [] link fault.WriteFault c.now c.held c.holds
stops_write (scan options) c old d link was agrees is asked (same, front) =
    let none = rows_none old d link options is asked in
    stops_with c old link fault.WriteFault 0 (unchanged_at c old link was same) (bytes_front old d link options c.held c.holds agrees is asked (front old was)) (ap length (sym none))
stops_write (create json) c old d link was agrees is asked fails = stops_text c old d link was agrees is fails
stops_write append c old d link was agrees is asked fails = stops_text c old d link was agrees is fails
stops_write (restore version) c old d link was agrees is asked fails = stops_text c old d link was agrees is fails
stops_write (schema version) c old d link was agrees is asked fails = stops_text c old d link was agrees is fails
stops_write versions c old d link was agrees is asked fails = stops_text c old d link was agrees is fails

cause_in : (c : Change) (old : List Object) (r : Request) (f : Fault) → c.before ≡ Some old → Cause c.before r f → Cause (Some old) r f
cause_in c old r f was cause = subst (λ o. Cause o r f) was cause

stops_as : (c : Change) (old : List Object) (d : Dataset) (link : Link) (f : Fault) → c.before ≡ Some old → AgreesWith old d → IsLink old d link → Served c link.told.request (Err f) → StopsAt single old [] link f c.now c.held c.holds
stops_as c old d link fault.WriteFault was agrees is served = stops_write link.told.request.asked c old d link was agrees is refl served
stops_as c old d link (fault.StoreFault name) was agrees is served = stops_store c old d link name was agrees is served
stops_as c old d link fault.Memory was agrees is served = stops_memory c old d link was agrees is served
stops_as c old d link (fault.Raced name) was agrees is (cause, left, bytes) = absurd (cause.1 old was)
stops_as c old d link (fault.Outside name why place) was agrees is (cause, same, got) = let (version, reads, none, stands) = cause.1 old was in absurd (not_outside old d link agrees is version reads none)
stops_as c old d link (fault.NoVersion version n) was agrees is (cause, same, bytes) =
    stops_replied c old d link (fault.NoVersion version n) was same bytes (refl, refl, refused_as old d link (fault.NoVersion version n) tt agrees is (cause_in c old link.told.request (fault.NoVersion version n) was cause))
stops_as c old d link (fault.NoColumn name) was agrees is (cause, same, bytes) =
    stops_replied c old d link (fault.NoColumn name) was same bytes (refl, refl, refused_as old d link (fault.NoColumn name) tt agrees is (cause_in c old link.told.request (fault.NoColumn name) was cause))
stops_as c old d link (fault.BadInput line why) was agrees is (cause, same, bytes) =
    stops_replied c old d link (fault.BadInput line why) was same bytes (refl, refl, refused_as old d link (fault.BadInput line why) tt agrees is (cause_in c old link.told.request (fault.BadInput line why) was cause))
stops_as c old d link fault.NoDataset was agrees is (cause, same, bytes) =
    stops_replied c old d link fault.NoDataset was same bytes (refl, refl, refused_as old d link fault.NoDataset tt agrees is (cause_in c old link.told.request fault.NoDataset was cause))
stops_as c old d link (fault.AlreadyThere version) was agrees is (cause, same, bytes) =
    stops_replied c old d link (fault.AlreadyThere version) was same bytes (refl, refl, refused_as old d link (fault.AlreadyThere version) tt agrees is (cause_in c old link.told.request (fault.AlreadyThere version) was cause))
stops_as c old d link (fault.Limit which number) was agrees is (cause, same, bytes) =
    stops_replied c old d link (fault.Limit which number) was same bytes (refl, refl, refused_as old d link (fault.Limit which number) tt agrees is (cause_in c old link.told.request (fault.Limit which number) was cause))
stops_as c old d link f was agrees is (cause, same, bytes) = absurd cause

pub link_stopped : (c : Change) (old : List Object) (d : Dataset) (link : Link) (f : Fault) → c.before ≡ Some old → AgreesWith old d → IsLink old d link → Served c link.told.request (Err f) → StoppedIn single old d (link ∷ []) c.now c.held c.holds f
link_stopped c old d link f was agrees is served = stopped_at c old d link f agrees is (stops_as c old d link f was agrees is served)

-- ---- the answer

refusal_is : (link : Link) (f : Fault) → link.outcome ≡ refused f → Err f ≡ answer_to single (link.outcome ∷ [])
refusal_is link f is = ap (λ o. answer_to single (o ∷ [])) (sym is)

pub link_decided : (c : Change) (old : List Object) (d : Dataset) (link : Link) (result : Result Unit Fault) → c.before ≡ Some old → AgreesWith old d → IsLink old d link → Served c link.told.request result → (result ≡ answer_to single (link.outcome ∷ [])) ⊎ IsFailure result
link_decided c old d link (Ok t) was agrees is served = inl (sym (link_done c old d link was agrees is served).answer)
link_decided c old d link (Err fault.WriteFault) was agrees is served = inr tt
link_decided c old d link (Err (fault.StoreFault name)) was agrees is served = inr tt
link_decided c old d link (Err fault.Memory) was agrees is served = inr tt
link_decided c old d link (Err (fault.Raced name)) was agrees is (cause, left, bytes) = absurd (cause.1 old was)
link_decided c old d link (Err (fault.Outside name why place)) was agrees is (cause, same, got) = let (version, reads, none, stands) = cause.1 old was in absurd (not_outside old d link agrees is version reads none)
link_decided c old d link (Err (fault.NoVersion version n)) was agrees is (cause, same, bytes) = inl (refusal_is link (fault.NoVersion version n) (refused_as old d link (fault.NoVersion version n) tt agrees is (cause_in c old link.told.request (fault.NoVersion version n) was cause)))
link_decided c old d link (Err (fault.NoColumn name)) was agrees is (cause, same, bytes) = inl (refusal_is link (fault.NoColumn name) (refused_as old d link (fault.NoColumn name) tt agrees is (cause_in c old link.told.request (fault.NoColumn name) was cause)))
link_decided c old d link (Err (fault.BadInput line why)) was agrees is (cause, same, bytes) = inl (refusal_is link (fault.BadInput line why) (refused_as old d link (fault.BadInput line why) tt agrees is (cause_in c old link.told.request (fault.BadInput line why) was cause)))
link_decided c old d link (Err fault.NoDataset) was agrees is (cause, same, bytes) = inl (refusal_is link fault.NoDataset (refused_as old d link fault.NoDataset tt agrees is (cause_in c old link.told.request fault.NoDataset was cause)))
link_decided c old d link (Err (fault.AlreadyThere version)) was agrees is (cause, same, bytes) = inl (refusal_is link (fault.AlreadyThere version) (refused_as old d link (fault.AlreadyThere version) tt agrees is (cause_in c old link.told.request (fault.AlreadyThere version) was cause)))
link_decided c old d link (Err (fault.Limit which number)) was agrees is (cause, same, bytes) = inl (refusal_is link (fault.Limit which number) (refused_as old d link (fault.Limit which number) tt agrees is (cause_in c old link.told.request (fault.Limit which number) was cause)))
link_decided c old d link (Err f) was agrees is (cause, same, bytes) = absurd cause
