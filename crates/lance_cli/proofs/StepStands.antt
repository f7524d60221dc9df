-- A link of each command: what its objects stand for, before its last object and with it.
use Rattle.std.proofs.Common.{◌≡◌, refl, sym, ◌∙◌, ap, subst, ℕ, ◌+◌, ◌<◌, List, [], ◌∷◌, ◌++◌, length, take, arith, append-nil, length-append, true, false}
use Rattle.std.specs.Prelude.{Bool, cond, ◌&&◌, nat_eq, MatchBool, Option, Some, None, option_and_then, Result, Ok, Err}
use Rattle.std.specs.List.{list_any}
use Rattle.std.proofs.lemmas.Option.{same_Some}
use Rattle.lan_model.specs.After.{Refusal}
use Rattle.lan_model.specs.Dataset.{Dataset, newest, table_at, with_version}
use Rattle.lan_model.specs.Table.{Table}
use Rattle.lan_store.specs.declared.name.Object.{Object}
use Rattle.lan_read.specs.Tables.{AgreesWith}
use Rattle.lan_commit.specs.Change.{Change, manifest_after}
use Rattle.lan_commit.specs.ChangePuts.{puts_of, limit_of}
use Rattle.lan_commit.specs.declared.limits.Which.{Which}
use Rattle.lan_commit.proofs.LawTerms.{change_agrees, change_unseen}
use Rattle.lance_cli.specs.Chain.{Link, PutsBy, IsLink, is_done}
use Rattle.lance_cli.specs.Commands.{Asked, create, append, restore, scan, schema, versions, is_change}
use Rattle.lance_cli.specs.Puts.{AsksChange, Shows}
use Rattle.lance_cli.specs.Replies.{Told, Outcome, refused, done, within, on_version, scan_reply, versions_reply, answer, reply, left_by}
use Rattle.lance_cli.specs.Reports.{schema_text}
use Rattle.lance_cli.specs.Scanning.{places_asked}
use Rattle.lance_cli.specs.declared.fault.Fault.{Fault}
use Rattle.lance_cli.specs.declared.fault.Fault.TheVariants as fault
use Rattle.lance_cli.proofs.Changing.{comes_after, made}

abbrev pub is_accepted : Asked → Outcome → Bool
is_accepted asked outcome = is_change asked && is_done outcome

-- the objects with the puts stand for the dataset after the outcome, and before the last of them for the one before it; an accepted change lists one version more
pub record Stepped (objects : List Object) (d : Dataset) (asked : Asked) (outcome : Outcome) (puts : List Object) : Type 0 where
  pub after : AgreesWith (objects ++ puts) (left_by d outcome)
  pub before : (k : ℕ) → k < length puts → AgreesWith (objects ++ take k puts) d
  pub same : is_accepted asked outcome ≡ false → left_by d outcome ≡ d
  pub more : is_accepted asked outcome ≡ true → length (left_by d outcome).listed ≡ length d.listed + 1

none_put : (objects puts : List Object) (d : Dataset) → puts ≡ [] → AgreesWith objects d → AgreesWith (objects ++ puts) d
none_put objects puts d none agrees = rw none (subst (λ (l : List Object). AgreesWith l d) (sym (append-nil objects)) agrees)

no_place : (puts : List Object) (k : ℕ) → puts ≡ [] → k < length puts → ⊥
no_place puts k none below = omega (arith, below, ap length none)

refused_step : (objects : List Object) (d : Dataset) (told : Told) (f : Fault) (puts : List Object) → AgreesWith objects d → puts ≡ [] → Stepped objects d told.request.asked (refused f) puts
refused_step objects d told f puts agrees none = record {
  after = none_put objects puts d none agrees;
  before = λ k below. absurd (no_place puts k none below);
  same = λ no_change. refl;
  more = λ accepted. absurd (never (is_change told.request.asked) accepted);
} where
  never : (b : Bool) → b && false ≡ true → ⊥
  never true is = cc is
  never false is = cc is

-- ---- a change

-- one that is done reaches no limit
pub within_done : (limit : Option (Which × ℕ)) (d later : Dataset) (text : List ℕ) → done text later ≡ within limit d → (limit ≡ None) × (later ≡ d)
within_done None d later text is = (refl, cc is)
within_done (Some limit) d later text is = absurd (cc is)

one_more : (d : Dataset) (version : ℕ) (t : Table) → length (with_version d version t).listed ≡ length d.listed + 1
one_more d version t = length-append d.listed (version ∷ [])

change_step : (objects : List Object) (d : Dataset) (told : Told) (asked : Asked) (text : List ℕ) (later : Dataset) (puts : List Object) (c : Change) → AgreesWith objects d → is_change asked ≡ true → told.shown.limit ≡ limit_of objects c → answer d told asked ≡ Some (done text later)
    → AsksChange objects told.request asked c → puts ≡ puts_of objects c → Stepped objects d asked (done text later) puts
change_step objects d told asked text later puts c agrees changes shows replied asks are =
    let m = made objects d told (done text later) asked c agrees replied asks (comes_after objects d told text later asked c agrees replied asks) in
    let number = (manifest_after objects c).version in
    let (unlimited, same) = within_done told.shown.limit (with_version d number m.table) later text m.replied in
    record {
      after = subst (λ l. AgreesWith (objects ++ l) later) (sym are) (subst (AgreesWith (objects ++ puts_of objects c)) (sym same) (change_agrees objects d c m.table agrees m.makes (sym shows ∙ unlimited)));
      before = λ k below. subst (λ l. AgreesWith (objects ++ take k l) d) (sym are) (change_unseen objects d c k agrees (subst (λ (l : List Object). k < length l) are below));
      same = λ no_change. absurd (cc (sym (ap (λ b. b && true) changes) ∙ no_change));
      more = λ accepted. ap (λ (l : Dataset). length l.listed) same ∙ one_more d number m.table;
    }

-- ---- a reading

read_step : (objects : List Object) (d : Dataset) (asked : Asked) (text : List ℕ) (later : Dataset) (puts : List Object) → is_change asked ≡ false → later ≡ d → AgreesWith objects d → puts ≡ [] → Stepped objects d asked (done text later) puts
read_step objects d asked text later puts reads same agrees none = record {
  after = rw same (none_put objects puts d none agrees);
  before = λ k below. absurd (no_place puts k none below);
  same = λ no_change. same;
  more = λ accepted. absurd (cc (sym (ap (λ b. b && true) reads) ∙ accepted));
}

-- what reads a version and answers by its table leaves the dataset as it is
abbrev LeavesSame : Dataset → (Table → Option Outcome) → Type 0
LeavesSame d read = (t : Table) (text : List ℕ) (later : Dataset) → read t ≡ Some (done text later) → later ≡ d

same_at : (d : Dataset) (read : Table → Option Outcome) (text : List ℕ) (later : Dataset) (o : Option Table) → LeavesSame d read → option_and_then read o ≡ Some (done text later) → later ≡ d
same_at d read text later None leaves is = absurd (cc is)
same_at d read text later (Some t) leaves is = leaves t text later is

same_after : (d : Dataset) (asked : Option ℕ) (read : Table → Option Outcome) (text : List ℕ) (later : Dataset) (o : Option ℕ) → LeavesSame d read → on_version d asked read o ≡ Some (done text later) → later ≡ d
same_after d asked read text later None leaves is = absurd (cc (same_Some (refused fault.NoDataset) (done text later) is))
same_after d None read text later (Some n) leaves is = same_at d read text later (table_at d n) leaves is
same_after d (Some number) read text later (Some n) leaves is = go (list_any (nat_eq number) d.listed) is where
  go : (b : Bool) → cond b (option_and_then read (table_at d number)) (Some (refused (fault.NoVersion number n))) ≡ Some (done text later) → later ≡ d
  go true at = same_at d read text later (table_at d number) leaves at
  go false none = absurd (cc (same_Some (refused (fault.NoVersion number n)) (done text later) none))

scan_same : (d : Dataset) (t : Table) (o : Result (List ℕ) Refusal) (text : List ℕ) (later : Dataset) → Some (scan_reply d t o) ≡ Some (done text later) → later ≡ d
scan_same d t (Ok places) text later is = cc (same_Some (scan_reply d t (Ok places)) (done text later) is)
scan_same d t (Err refusal) text later is = absurd (cc (same_Some (scan_reply d t (Err refusal)) (done text later) is))

listed_same : (d : Dataset) (listed : List ℕ) (text : List ℕ) (later : Dataset) → Some (versions_reply d listed) ≡ Some (done text later) → later ≡ d
listed_same d [] text later is = absurd (cc (same_Some (versions_reply d []) (done text later) is))
listed_same d (v ∷ vs) text later is = cc (same_Some (versions_reply d (v ∷ vs)) (done text later) is)

same_read : (d : Dataset) (told : Told) (asked : Asked) (text : List ℕ) (later : Dataset) → is_change asked ≡ false → answer d told asked ≡ Some (done text later) → later ≡ d
same_read d told (create json) text later reads replied = absurd (cc reads)
same_read d told append text later reads replied = absurd (cc reads)
same_read d told (restore version) text later reads replied = absurd (cc reads)
same_read d told (scan options) text later reads replied = same_after d options.version (λ t. Some (scan_reply d t (places_asked t.columns options.columns))) text later (newest d) (λ t text later is. scan_same d t (places_asked t.columns options.columns) text later is) replied
same_read d told (schema version) text later reads replied = same_after d version (λ t. Some (done (schema_text t.columns) d)) text later (newest d) (λ t text later is. cc (same_Some (done (schema_text t.columns) d) (done text later) is)) replied
same_read d told versions text later reads replied = listed_same d d.listed text later replied

-- ---- every command

done_step : (objects : List Object) (d : Dataset) (told : Told) (text : List ℕ) (later : Dataset) (puts : List Object) (b : Bool) → AgreesWith objects d → is_change told.request.asked ≡ b → reply d told ≡ Some (done text later)
    → MatchBool b ((c : Change) → AsksChange objects told.request told.request.asked c → told.shown.limit ≡ limit_of objects c) (told.shown.limit ≡ None)
    → MatchBool b ((c : Change) × AsksChange objects told.request told.request.asked c × (puts ≡ puts_of objects c)) (puts ≡ []) → Stepped objects d told.request.asked (done text later) puts
done_step objects d told text later puts true agrees changes replied shows (c, asks, are) = change_step objects d told told.request.asked text later puts c agrees changes (shows c asks) replied asks are
done_step objects d told text later puts false agrees reads replied shows none = read_step objects d told.request.asked text later puts reads (same_read d told told.request.asked text later reads replied) agrees none

step_of : (objects : List Object) (d : Dataset) (told : Told) (outcome : Outcome) (puts : List Object) → AgreesWith objects d → Shows objects told.request told.shown → reply d told ≡ Some outcome → PutsBy objects told.request outcome puts
    → Stepped objects d told.request.asked outcome puts
step_of objects d told (refused f) puts agrees shows replied none = refused_step objects d told f puts agrees none
step_of objects d told (done text later) puts agrees shows replied put = done_step objects d told text later puts (is_change told.request.asked) agrees refl replied shows put

pub step_stands : (objects : List Object) (d : Dataset) (link : Link) → AgreesWith objects d → IsLink objects d link → Stepped objects d link.told.request.asked link.outcome link.puts
step_stands objects d link agrees is = step_of objects d link.told link.outcome link.puts agrees is.shows is.replied is.puts
