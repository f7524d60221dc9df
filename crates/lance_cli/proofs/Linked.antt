-- What a command did is what is replied to it, where the versions that it reads stand.
use Rattle.std.proofs.Common.{◌≡◌, inl, inr, refl, sym, ◌∙◌, ap, subst, ℕ, List, [], ◌∷◌, ◌++◌, take, map, length, arith, append-nil, length-append, true, false}
use Rattle.std.specs.Prelude.{Bool, MatchBool, ◌⊎◌, ◌<◌, nat_eq, Option, Some, None, unwrap_or, Ok, Err}
use Rattle.std.specs.List.{list_any}
use Rattle.std.proofs.lemmas.Option.{same_Some}
use Rattle.std.proofs.lemmas.List.{take_all}
use Rattle.std.proofs.lemmas.List.Concat.{flat_map-append}
use Rattle.lan_model.specs.After as after
use Rattle.lan_model.specs.After.{Refusal}
use Rattle.lan_model.specs.Dataset.{Dataset, newest, with_version}
use Rattle.lan_model.specs.Plain.{PlainValue, unnumbered}
use Rattle.lan_model.specs.Table.{Table, Column}
use Rattle.lan_model.specs.Take.{scan_of}
use Rattle.lan_form.specs.Form.{form}
use Rattle.lan_rows.specs.Line.{line_of}
use Rattle.lan_rows.specs.Lines.{rows_of}
use Rattle.lan_store.specs.Streams.{and_then_bytes}
use Rattle.lan_store.specs.declared.name.Object.{Object}
use Rattle.lan_manifest.specs.Versions.{IsListed, IsNewest, NoneListed, AreListed}
use Rattle.lan_read.specs.Scanned.{fields_at}
use Rattle.lan_read.specs.Tables.{AgreesWith, StandsFor}
use Rattle.lan_read.proofs.LawTerms.{scanned_table, scanned_front}
use Rattle.lan_commit.specs.Change.{Change, manifest_after}
use Rattle.lan_commit.specs.ChangePuts.{puts_of, limit_of}
use Rattle.lan_commit.specs.declared.limits.Which.{Which}
use Rattle.lance_cli.specs.Causes.{Cause, Reads, BadInput, Makes, Limited, LacksVersion, LacksColumn}
use Rattle.lance_cli.specs.Chain.{Link, PutsBy, IsLink}
use Rattle.lance_cli.specs.Commands.{Asked, create, append, restore, scan, schema, versions, needs_dataset, is_change, Request}
use Rattle.lance_cli.specs.Options.{Options}
use Rattle.lance_cli.specs.Puts.{AsksChange, Puts, Accepts, ChangeAccepted, Prints}
use Rattle.lance_cli.specs.Replies.{Told, Outcome, refused, done, within, change_reply, create_reply, append_reply, on_version, scan_reply, versions_reply, answer, single, said_by, text_by}
use Rattle.lance_cli.specs.Reports.{GotPart, version_text, schema_text, versions_text}
use Rattle.lance_cli.specs.Scanning.{lines_at, places_asked}
use Rattle.lance_cli.specs.Served.{OnFront, PrintsRows, PrintsBytes}
use Rattle.lance_cli.specs.declared.fault.Fault.{Fault}
use Rattle.lance_cli.specs.declared.fault.Fault.TheVariants as fault
use Rattle.lance_cli.proofs.Changing.{made, one_change, there_reply, newest_read, lines_reply, restored_read}
use Rattle.lance_cli.proofs.Fronts.{take_within}
use Rattle.lance_cli.proofs.Listings.{one_listing}
use Rattle.lance_cli.proofs.VersionReply.{columns_of, lacking_replied, newest_at, newest_behind, newest_listed, newest_none, none_replied, not_among, some_newest, version_read}

-- what is replied to an accepted command, and what its link puts
pub record Settled (outcome : Outcome) (link_puts puts : List Object) (text : List ℕ) : Type 0 where
  pub later : Dataset
  pub replies : outcome ≡ done text later
  pub puts_are : link_puts ≡ puts

-- ---- a change

-- a change that reaches no limit is done
change_done : (old : List Object) (d : Dataset) (told : Told) (outcome : Outcome) (puts : List Object) (text : List ℕ) → AgreesWith old d → answer d told told.request.asked ≡ Some outcome → ((c : Change) → AsksChange old told.request told.request.asked c → told.shown.limit ≡ limit_of old c)
    → ChangeAccepted old told.request puts text → (later : Dataset) × (outcome ≡ done text later)
change_done old d told outcome puts text agrees replied shows a =
    let m = made old d told outcome told.request.asked a.change agrees replied a.asks a.after in
    let number = (manifest_after old a.change).version in
    let later = with_version d number m.table in
    let unlimited : told.shown.limit ≡ None = shows a.change a.asks ∙ a.no_limit in
    let printed : version_text (unwrap_or (newest later) 0) ≡ text = ap (λ o. version_text (unwrap_or o 0)) (newest_behind d.listed number) ∙ sym a.text_is in
    (later, m.replied ∙ ap (λ l. within l later) unlimited ∙ ap (λ t. done t later) printed)

change_settled : (old : List Object) (d : Dataset) (link : Link) (puts : List Object) (text : List ℕ) → AgreesWith old d → answer d link.told link.told.request.asked ≡ Some link.outcome → ((c : Change) → AsksChange old link.told.request link.told.request.asked c → link.told.shown.limit ≡ limit_of old c)
    → (put : (text : List ℕ) (later : Dataset) → link.outcome ≡ done text later → (c : Change) × AsksChange old link.told.request link.told.request.asked c × (link.puts ≡ puts_of old c)) → ChangeAccepted old link.told.request puts text → Settled link.outcome link.puts puts text
change_settled old d link puts text agrees replied shows put a =
    let (later, is) = change_done old d link.told link.outcome puts text agrees replied shows a in
    let (c, asks, are) = put text later is in
    record { later = later; replies = is; puts_are = are ∙ ap (puts_of old) (one_change old link.told.request link.told.request.asked c a.change asks a.asks) ∙ sym a.puts_are }

-- ---- a reading

scan_text : (d : Dataset) (t : Table) (columns : List Column) (options : Options) (places : List ℕ) (rows : List (List PlainValue)) → t.columns ≡ columns → places_asked columns options.columns ≡ Ok places → rows ≡ scan_of t places
    → scan_reply d t (places_asked t.columns options.columns) ≡ done (lines_at columns places rows) d
scan_text d t columns options places rows same asked are =
    ap (λ c. scan_reply d t (places_asked c options.columns)) same ∙ ap (scan_reply d t) asked ∙ ap (λ c. done (lines_at c places (scan_of t places)) d) same ∙ ap (λ r. done (lines_at columns places r) d) (sym are)

-- the versions are listed in one way
listed_one : (old : List Object) (d : Dataset) (listed : List ℕ) → AgreesWith old d → AreListed old listed → d.listed ≡ listed
listed_one old d listed agrees also = one_listing old d.listed listed agrees.listed also

-- what is printed is what is replied
read_done : (old : List Object) (d : Dataset) (told : Told) (outcome : Outcome) (asked : Asked) (text : List ℕ) → AgreesWith old d → answer d told asked ≡ Some outcome → Prints old asked text → outcome ≡ done text d
read_done old d told outcome (create json) text agrees replied prints = absurd prints
read_done old d told outcome append text agrees replied prints = absurd prints
read_done old d told outcome (restore version) text agrees replied prints = absurd prints
read_done old d told outcome (scan options) text agrees replied p =
    let m = p.manifest in
    let read = version_read old d options.version m.version (λ t. Some (scan_reply d t (places_asked t.columns options.columns))) outcome agrees p.reads.manifest.is_asked replied in
    let t = read.table in
    let has = p.reads.manifest.has in
    sym (same_Some (scan_reply d t (places_asked t.columns options.columns)) outcome read.reply)
    ∙ scan_text d t (map unnumbered m.fields) options p.places p.rows (columns_of old m.version t m read.stands has) p.reads.places_are (scanned_table old m.version t m p.places p.rows p.scanned has read.stands)
    ∙ ap (λ t. done t d) (sym p.text_is)
read_done old d told outcome (schema version) text agrees replied (m, is, text_is) =
    let read = version_read old d version m.version (λ t. Some (done (schema_text t.columns) d)) outcome agrees is.is_asked replied in
    sym (same_Some (done (schema_text read.table.columns) d) outcome read.reply) ∙ ap (λ c. done (schema_text c) d) (columns_of old m.version read.table m read.stands is.has) ∙ ap (λ t. done t d) (sym text_is)
read_done old d told outcome versions text agrees replied (listed, are, some, text_is) =
    same_Some outcome (done text d) (sym replied ∙ ap (λ l. Some (versions_reply d l)) (listed_one old d listed agrees are) ∙ go listed some text_is) where
      go : (listed : List ℕ) → 0 < length listed → text ≡ versions_text listed → Some (versions_reply d listed) ≡ Some (done text d)
      go [] some is = absurd (omega (arith, some))
      go (v ∷ vs) some is = ap (λ t. Some (done t d)) (sym is)

-- ---- every command

settled_as : (old : List Object) (d : Dataset) (link : Link) (puts : List Object) (text : List ℕ) (b : Bool) → AgreesWith old d → answer d link.told link.told.request.asked ≡ Some link.outcome
    → MatchBool b ((c : Change) → AsksChange old link.told.request link.told.request.asked c → link.told.shown.limit ≡ limit_of old c) (link.told.shown.limit ≡ None)
    → ((text : List ℕ) (later : Dataset) → link.outcome ≡ done text later → MatchBool b ((c : Change) × AsksChange old link.told.request link.told.request.asked c × (link.puts ≡ puts_of old c)) (link.puts ≡ []))
    → MatchBool b (ChangeAccepted old link.told.request puts text) ((puts ≡ []) × Prints old link.told.request.asked text) → Settled link.outcome link.puts puts text
settled_as old d link puts text true agrees replied shows put a = change_settled old d link puts text agrees replied shows put a
settled_as old d link puts text false agrees replied shows put (none, prints) =
    let is = read_done old d link.told link.outcome link.told.request.asked text agrees replied prints in
    record { later = d; replies = is; puts_are = put text d is ∙ sym none }

put_of : (old : List Object) (r : Request) (outcome : Outcome) (puts : List Object) (text : List ℕ) (later : Dataset) → PutsBy old r outcome puts → outcome ≡ done text later → Puts old r puts
put_of old r outcome puts text later put is = subst (λ o. PutsBy old r o puts) is put

-- an accepted command is replied with its text, and its link puts its objects
pub settled : (old : List Object) (d : Dataset) (link : Link) (puts : List Object) (text : List ℕ) → AgreesWith old d → IsLink old d link → Accepts old link.told.request puts text → Settled link.outcome link.puts puts text
settled old d link puts text agrees is a = settled_as old d link puts text (is_change link.told.request.asked) agrees is.replied is.shows (λ text later same. put_of old link.told.request link.outcome link.puts text later is.puts same) a

-- ---- refusals

bad_input : (old : List Object) (d : Dataset) (told : Told) (outcome : Outcome) (asked : Asked) (f : Fault) → AgreesWith old d → answer d told asked ≡ Some outcome → BadInput (Some old) told.request asked f → outcome ≡ refused f
bad_input old d told outcome (create json) f agrees replied (why, bad, is) = same_Some outcome (refused f) (sym replied ∙ ap (create_reply d told.request.line told.shown) bad ∙ ap (λ g. Some (refused g)) (sym is))
bad_input old d told outcome append f agrees replied bad =
    let (m, why, n, not, is) = bad old refl in
    let read = newest_read old d told outcome m agrees n replied in
    same_Some outcome (refused f) (sym (lines_reply old d told.shown told.request.lines outcome m n (Err why) read not) ∙ ap (λ g. Some (refused g)) (sym is))
bad_input old d told outcome (restore version) f agrees replied bad = absurd bad
bad_input old d told outcome (scan options) f agrees replied bad = absurd bad
bad_input old d told outcome (schema version) f agrees replied bad = absurd bad
bad_input old d told outcome versions f agrees replied bad = absurd bad

already_there : (old : List Object) (d : Dataset) (told : Told) (outcome : Outcome) (asked : Asked) (version : ℕ) → AgreesWith old d → answer d told asked ≡ Some outcome → Makes asked → IsNewest old version → outcome ≡ refused (fault.AlreadyThere version)
already_there old d told outcome (create json) version agrees replied (fields, takes) n =
    same_Some outcome (refused (fault.AlreadyThere version)) (sym replied ∙ there_reply d told.request.line told.shown (form json) (map unnumbered fields) version takes.form (newest_at old d version agrees n))
already_there old d told outcome append version agrees replied never n = absurd never
already_there old d told outcome (restore number) version agrees replied never n = absurd never
already_there old d told outcome (scan options) version agrees replied never n = absurd never
already_there old d told outcome (schema number) version agrees replied never n = absurd never
already_there old d told outcome versions version agrees replied never n = absurd never

limited : (old : List Object) (d : Dataset) (told : Told) (outcome : Outcome) (which : Which) (number : ℕ) (b : Bool) → is_change told.request.asked ≡ b → b ≡ true → AgreesWith old d → answer d told told.request.asked ≡ Some outcome
    → MatchBool b ((c : Change) → AsksChange old told.request told.request.asked c → told.shown.limit ≡ limit_of old c) (told.shown.limit ≡ None) → Limited told.request which number old → outcome ≡ refused (fault.Limit which number)
limited old d told outcome which number false changes never agrees replied shows limit = absurd (cc never)
limited old d told outcome which number true changes same agrees replied shows (c, asks, after, limit) =
    let m = made old d told outcome told.request.asked c agrees replied asks after in
    m.replied ∙ ap (λ l. within l (with_version d (manifest_after old c).version m.table)) (shows c asks ∙ limit)

restore_none : (d : Dataset) (told : Told) (version : ℕ) → newest d ≡ None → change_reply d told.shown (after.restore version) ≡ Some (refused fault.NoDataset)
restore_none d told version none = rw none refl

no_dataset : (old : List Object) (d : Dataset) (told : Told) (outcome : Outcome) (asked : Asked) → AgreesWith old d → answer d told asked ≡ Some outcome → needs_dataset asked ≡ true → NoneListed old → outcome ≡ refused fault.NoDataset
no_dataset old d told outcome (create json) agrees replied reads none = absurd (cc reads)
no_dataset old d told outcome append agrees replied reads none = none_replied old d None (λ t. append_reply d told.shown (rows_of t.columns told.request.lines)) outcome agrees none replied
no_dataset old d told outcome (restore version) agrees replied reads none = same_Some outcome (refused fault.NoDataset) (sym replied ∙ restore_none d told version (newest_none old d agrees none))
no_dataset old d told outcome (scan options) agrees replied reads none = none_replied old d options.version (λ t. Some (scan_reply d t (places_asked t.columns options.columns))) outcome agrees none replied
no_dataset old d told outcome (schema version) agrees replied reads none = none_replied old d version (λ t. Some (done (schema_text t.columns) d)) outcome agrees none replied
no_dataset old d told outcome versions agrees replied reads none = same_Some outcome (refused fault.NoDataset) (sym replied ∙ ap (λ l. Some (versions_reply d l)) (nothing d.listed (λ v listed. none v listed) agrees.listed)) where
  nothing : (listed : List ℕ) → ((v : ℕ) → IsListed old v → ⊥) → AreListed old listed → listed ≡ []
  nothing [] none are = refl
  nothing (v ∷ vs) none are = absurd (none v (are.only 0 v (omega arith)))

restore_lacks : (d : Dataset) (told : Told) (version n : ℕ) → newest d ≡ Some n → list_any (nat_eq version) d.listed ≡ false → change_reply d told.shown (after.restore version) ≡ Some (refused (fault.NoVersion version n))
restore_lacks d told version n last not = rw (last, not) refl

no_version : (old : List Object) (d : Dataset) (told : Told) (outcome : Outcome) (asked : Asked) (version n : ℕ) → AgreesWith old d → answer d told asked ≡ Some outcome → LacksVersion asked version n old → outcome ≡ refused (fault.NoVersion version n)
no_version old d told outcome (create json) version n agrees replied (named, not, is) = absurd (cc named)
no_version old d told outcome append version n agrees replied (named, not, is) = absurd (cc named)
no_version old d told outcome (restore number) version n agrees replied (named, not, is) =
    let same : number ≡ version = same_Some number version named in
    same_Some outcome (refused (fault.NoVersion version n))
    (sym replied ∙ ap (λ v. change_reply d told.shown (after.restore v)) same ∙ restore_lacks d told version n (newest_at old d n agrees is) (not_among old d version agrees not))
no_version old d told outcome (scan options) version n agrees replied (named, not, is) =
    lacking_replied old d version n (λ t. Some (scan_reply d t (places_asked t.columns options.columns))) outcome agrees not is (ap (λ v. on_version d v (λ t. Some (scan_reply d t (places_asked t.columns options.columns))) (newest d)) (sym named) ∙ replied)
no_version old d told outcome (schema asked) version n agrees replied (named, not, is) =
    lacking_replied old d version n (λ t. Some (done (schema_text t.columns) d)) outcome agrees not is (ap (λ v. on_version d v (λ t. Some (done (schema_text t.columns) d)) (newest d)) (sym named) ∙ replied)
no_version old d told outcome versions version n agrees replied (named, not, is) = absurd (cc named)

no_column : (old : List Object) (d : Dataset) (told : Told) (outcome : Outcome) (asked : Asked) (name : List ℕ) → AgreesWith old d → answer d told asked ≡ Some outcome → LacksColumn asked name old → outcome ≡ refused (fault.NoColumn name)
no_column old d told outcome (create json) name agrees replied lacks = absurd lacks
no_column old d told outcome append name agrees replied lacks = absurd lacks
no_column old d told outcome (restore version) name agrees replied lacks = absurd lacks
no_column old d told outcome (scan options) name agrees replied (m, is, lacks) =
    let read = version_read old d options.version m.version (λ t. Some (scan_reply d t (places_asked t.columns options.columns))) outcome agrees is.is_asked replied in
    let t = read.table in
    sym (same_Some (scan_reply d t (places_asked t.columns options.columns)) outcome read.reply)
    ∙ ap (λ c. scan_reply d t (places_asked c options.columns)) (columns_of old m.version t m read.stands is.has) ∙ ap (scan_reply d t) lacks
no_column old d told outcome (schema version) name agrees replied lacks = absurd lacks
no_column old d told outcome versions name agrees replied lacks = absurd lacks

-- where there is a reply, no version that is read is outside
restore_stands : (old : List Object) (d : Dataset) (told : Told) (outcome : Outcome) (number version : ℕ) → AgreesWith old d → change_reply d told.shown (after.restore number) ≡ Some outcome → IsListed old number → IsNewest old version ⊎ (version ≡ number) → (t : Table) × StandsFor old version t
restore_stands old d told outcome number version agrees replied listed which =
    let (n, last) = some_newest old d number agrees listed in
    let is : IsNewest old n = newest_listed old d (Some n) agrees last in
    let both = restored_read old d told.shown outcome n number agrees is listed replied in
    elim which [
      | inl newest ↦ let same : n ≡ version = omega (arith, is.newest version newest.listed, newest.newest n is.listed) in (both.before, subst (λ v. StandsFor old v both.before) same both.newest_stands)
      | inr same ↦ (both.table, subst (λ v. StandsFor old v both.table) (sym same) both.stands)
    ]

never_outside : (old : List Object) (d : Dataset) (told : Told) (outcome : Outcome) (asked : Asked) (version : ℕ) → AgreesWith old d → answer d told asked ≡ Some outcome → Reads old asked version → (t : Table) × StandsFor old version t
never_outside old d told outcome (create json) version agrees replied reads = absurd reads
never_outside old d told outcome append version agrees replied reads = let read = version_read old d None version (λ t. append_reply d told.shown (rows_of t.columns told.request.lines)) outcome agrees reads replied in (read.table, read.stands)
never_outside old d told outcome (restore number) version agrees replied (listed, which) = restore_stands old d told outcome number version agrees replied listed which
never_outside old d told outcome (scan options) version agrees replied reads = let read = version_read old d options.version version (λ t. Some (scan_reply d t (places_asked t.columns options.columns))) outcome agrees reads replied in (read.table, read.stands)
never_outside old d told outcome (schema asked) version agrees replied reads = let read = version_read old d asked version (λ t. Some (done (schema_text t.columns) d)) outcome agrees reads replied in (read.table, read.stands)
never_outside old d told outcome versions version agrees replied reads = absurd reads

pub not_outside : (old : List Object) (d : Dataset) (link : Link) → AgreesWith old d → IsLink old d link → (version : ℕ) → Reads old link.told.request.asked version → ((t : Table) → StandsFor old version t → ⊥) → ⊥
not_outside old d link agrees is version reads none = let (t, stands) = never_outside old d link.told link.outcome link.told.request.asked version agrees is.replied reads in none t stands

-- the refusals that a reply can be
abbrev pub IsReplyTo : Fault → Type 0
IsReplyTo (fault.BadInput line why) = Unit {0}
IsReplyTo fault.NoDataset = Unit {0}
IsReplyTo (fault.AlreadyThere version) = Unit {0}
IsReplyTo (fault.NoVersion version n) = Unit {0}
IsReplyTo (fault.NoColumn name) = Unit {0}
IsReplyTo (fault.Limit which number) = Unit {0}
IsReplyTo f = ⊥

-- a command that is refused is replied with that refusal
pub refused_as : (old : List Object) (d : Dataset) (link : Link) (f : Fault) → IsReplyTo f → AgreesWith old d → IsLink old d link → Cause (Some old) link.told.request f → link.outcome ≡ refused f
refused_as old d link (fault.BadInput line why) one agrees is cause = bad_input old d link.told link.outcome link.told.request.asked (fault.BadInput line why) agrees is.replied cause
refused_as old d link fault.NoDataset one agrees is cause = no_dataset old d link.told link.outcome link.told.request.asked agrees is.replied cause.0 (cause.1 old refl)
refused_as old d link (fault.AlreadyThere version) one agrees is cause = already_there old d link.told link.outcome link.told.request.asked version agrees is.replied cause.0 (cause.1 old refl)
refused_as old d link (fault.NoVersion version n) one agrees is cause = no_version old d link.told link.outcome link.told.request.asked version n agrees is.replied (cause.1 old refl)
refused_as old d link (fault.NoColumn name) one agrees is cause = no_column old d link.told link.outcome link.told.request.asked name agrees is.replied (cause old refl)
refused_as old d link (fault.Limit which number) one agrees is cause = limited old d link.told link.outcome which number (is_change link.told.request.asked) refl cause.0 agrees is.replied is.shows (cause.1 old refl)
refused_as old d link f one agrees is cause = absurd one

-- ---- a command that prints rows

pub no_bytes : (held : Option (List ℕ)) (text : List ℕ) → held ≡ and_then_bytes held (take 0 text)
no_bytes held text = none held ∙ ap (λ l. and_then_bytes held l) (sym (nothing text)) where
  none : (held : Option (List ℕ)) → held ≡ and_then_bytes held []
  none None = refl
  none (Some bytes) = ap (λ l. Some l) (sym (append-nil bytes))

  nothing : (l : List ℕ) → take 0 l ≡ []
  nothing [] = refl
  nothing (x ∷ xs) = refl

abbrev pub no_front : (held holds : Option (List ℕ)) (text : List ℕ) → holds ≡ held → GotPart text held holds
no_front held holds text same = (0, omega arith, same ∙ no_bytes held text)

-- a front of a front of a text is one of it
front_more : (text more whole : List ℕ) (held holds : Option (List ℕ)) → whole ≡ text ++ more → GotPart text held holds → GotPart whole held holds
front_more text more whole held holds is (k, within, got) =
    (k, omega (arith, within, ap length is, length-append text more), got ∙ ap (λ l. and_then_bytes held l) (sym (take_within text more k within)) ∙ ap (λ l. and_then_bytes held (take k l)) (sym is))

whole_front : (text more whole : List ℕ) (held holds : Option (List ℕ)) → whole ≡ text ++ more → holds ≡ and_then_bytes held text → GotPart whole held holds
whole_front text more whole held holds is got =
    front_more text more whole held holds is (length text, omega arith, got ∙ ap (λ l. and_then_bytes held l) (sym (take_all (length text) text (omega arith))))

-- what is replied to a scan begins with the lines of the first rows
record Reading (outcome : Outcome) (text : List ℕ) : Type 0 where
  pub more : List ℕ
  pub is : text_by single (said_by outcome) ≡ text ++ more

scan_reading : (old : List Object) (d : Dataset) (told : Told) (outcome : Outcome) (options : Options) (P : List ℕ → Type 0) → AgreesWith old d → answer d told (scan options) ≡ Some outcome → (p : OnFront old options P) → Reading outcome (lines_at (map unnumbered p.manifest.fields) p.places p.rows)
scan_reading old d told outcome options P agrees replied p =
    let m = p.manifest in
    let read = version_read old d options.version m.version (λ t. Some (scan_reply d t (places_asked t.columns options.columns))) outcome agrees p.reads.manifest.is_asked replied in
    let t = read.table in
    let has = p.reads.manifest.has in
    let columns : List Column = map unnumbered m.fields in
    let (later, front) = scanned_front old m.version t m p.places p.rows p.front has read.stands in
    let is : scan_reply d t (places_asked t.columns options.columns) ≡ done (lines_at columns p.places (scan_of t p.places)) d = scan_text d t columns options p.places (scan_of t p.places) (columns_of old m.version t m read.stands has) p.reads.places_are refl in
    record {
      more = lines_at columns p.places later;
      is = ap (λ o. text_by single (said_by o)) (sym (same_Some (scan_reply d t (places_asked t.columns options.columns)) outcome read.reply) ∙ is) ∙ ap (lines_at columns p.places) front ∙ flat_map-append (line_of (fields_at columns p.places)) p.rows later;
    }

-- the sink got a front of what is replied
pub rows_front : (old : List Object) (d : Dataset) (link : Link) (options : Options) (held holds : Option (List ℕ)) → AgreesWith old d → IsLink old d link → link.told.request.asked ≡ scan options → PrintsRows held holds options old → GotPart (text_by single (said_by link.outcome)) held holds
rows_front old d link options held holds agrees is asked (inl same) = no_front held holds (text_by single (said_by link.outcome)) same
rows_front old d link options held holds agrees is asked (inr p) =
    let r = scan_reading old d link.told link.outcome options (λ text. holds ≡ and_then_bytes held text) agrees (subst (λ a. answer d link.told a ≡ Some link.outcome) asked is.replied) p in
    whole_front (lines_at (map unnumbered p.manifest.fields) p.places p.rows) r.more (text_by single (said_by link.outcome)) held holds r.is p.got

pub bytes_front : (old : List Object) (d : Dataset) (link : Link) (options : Options) (held holds : Option (List ℕ)) → AgreesWith old d → IsLink old d link → link.told.request.asked ≡ scan options → PrintsBytes held holds options old → GotPart (text_by single (said_by link.outcome)) held holds
bytes_front old d link options held holds agrees is asked p =
    let r = scan_reading old d link.told link.outcome options (λ text. GotPart text held holds) agrees (subst (λ a. answer d link.told a ≡ Some link.outcome) asked is.replied) p in
    front_more (lines_at (map unnumbered p.manifest.fields) p.places p.rows) r.more (text_by single (said_by link.outcome)) held holds r.is p.got

-- it puts nothing
pub rows_none : (old : List Object) (d : Dataset) (link : Link) (options : Options) → IsLink old d link → link.told.request.asked ≡ scan options → link.puts ≡ []
rows_none old d link options is asked = go link.outcome is.puts where
  go : (outcome : Outcome) → PutsBy old link.told.request outcome link.puts → link.puts ≡ []
  go (refused f) none = none
  go (done text later) put = subst (λ a. MatchBool (is_change a) ((c : Change) × AsksChange old link.told.request a c × (link.puts ≡ puts_of old c)) (link.puts ≡ [])) asked put
