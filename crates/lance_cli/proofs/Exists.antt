-- A command has a link where the versions that it reads have tables, and a run its chain where they stand.
use Rattle.std.proofs.Common.{◌≡◌, inl, inr, refl, sym, ◌∙◌, ap, subst, ℕ, ◌+◌, List, [], ◌∷◌, map, true, false, arith}
use Rattle.std.specs.Prelude.{Bool, MatchBool, cond, nat_eq, ◌++◌, Option, Some, None, IsSome, option_and_then, Result, Ok, Err}
use Rattle.std.specs.List.{list_any}
use Rattle.std.proofs.lemmas.Bool.{cases_Bool}
use Rattle.std.proofs.lemmas.Bool.Decides.{nat_tests}
use Rattle.lan_model.specs.After as after
use Rattle.lan_model.specs.Dataset.{Dataset, newest, table_at, with_version}
use Rattle.lan_model.specs.Plain.{PlainField, PlainValue, unnumbered}
use Rattle.lan_model.specs.Table.{Column, Table}
use Rattle.lan_form.specs.Form.{form}
use Rattle.lan_form.specs.Judged.{Judged}
use Rattle.lan_rows.specs.Lines.{rows_of}
use Rattle.lan_rows.specs.declared.lines.LinesFault.{LinesFault}
use Rattle.lan_store.specs.declared.name.Object.{Object}
use Rattle.lan_manifest.specs.Manifests.{PlainManifest}
use Rattle.lan_manifest.specs.Versions.{IsListed, IsNewest}
use Rattle.lan_read.specs.Opening.{IsAskedFor}
use Rattle.lan_read.specs.Snapshots.{IsNewestManifest}
use Rattle.lan_read.specs.Tables.{AgreesWith, HasManifest, StandsFor}
use Rattle.lan_commit.specs.Change as change
use Rattle.lan_commit.specs.Change.{Change}
use Rattle.lan_commit.specs.ChangePuts.{puts_of, limit_of}
use Rattle.lan_commit.specs.First.{no_rows}
use Rattle.lan_commit.specs.declared.limits.Which.{Which}
use Rattle.lance_cli.specs.Causes.{Reads}
use Rattle.lance_cli.specs.Chain.{Link, PutsBy, IsLink, Chain}
use Rattle.lance_cli.specs.Commands.{Asked, create, append, restore, scan, schema, versions, asked_of, is_change, Request}
use Rattle.lance_cli.specs.Creates.{Takes}
use Rattle.lance_cli.specs.Faults.{of_form, of_lines}
use Rattle.lance_cli.specs.Laws.{RowsCanBeWritten, IsSound, HasTables, AllStand}
use Rattle.lance_cli.specs.Puts.{AsksChange, Puts, Shows}
use Rattle.lance_cli.specs.Replies.{Told, Shown, Outcome, refused, done, within, change_reply, create_reply, append_reply, scan_reply, versions_reply, on_version, reply, single, said_by, goes_on, left_by, alone}
use Rattle.lance_cli.specs.Reports.{schema_text}
use Rattle.lance_cli.specs.Runs.{IsRun}
use Rattle.lance_cli.specs.Scanning.{places_asked}
use Rattle.lance_cli.specs.declared.fault.Fault.TheVariants as fault
use Rattle.lance_cli.proofs.Changing.{after_append, appended, change_asked, created_reply, held_listed, newest_one, one_change, there_reply}
use Rattle.lance_cli.proofs.Datasets.{bare_dataset, dataset_with, dataset_with_both}
use Rattle.lance_cli.proofs.VersionReply.{found, is_among, listed_there, newest_listed}

abbrev shown_with : Option (Which × ℕ) → Shown
shown_with limit = record { limit = limit; conflict = None; zones = 0 }

abbrev told_with : Request → Option (Which × ℕ) → Told
told_with r limit = record { request = r; shown = shown_with limit }

abbrev HasLink : List Object → Dataset → Request → Type 0
HasLink objects d r = (link : Link) × (link.told.request ≡ r) × IsLink objects d link

link_with : (objects : List Object) (d : Dataset) (r : Request) (limit : Option (Which × ℕ)) (outcome : Outcome) (puts : List Object) → Shows objects r (shown_with limit) → reply d (told_with r limit) ≡ Some outcome → PutsBy objects r outcome puts → HasLink objects d r
link_with objects d r limit outcome puts shows replied put = (record { told = told_with r limit; outcome = outcome; puts = puts }, refl, record { shows = shows; replied = replied; puts = put })

-- ---- changes

-- what is shown of the one change that is asked for
shows_change : (objects : List Object) (r : Request) (c : Change) → AsksChange objects r r.asked c → Shows objects r (shown_with (limit_of objects c))
shows_change objects r c asks = go (is_change r.asked) (change_asked objects r r.asked c asks) where
  go : (b : Bool) → b ≡ true → MatchBool b ((e : Change) → AsksChange objects r r.asked e → limit_of objects c ≡ limit_of objects e) (limit_of objects c ≡ None)
  go true is = λ e also. ap (limit_of objects) (one_change objects r r.asked c e asks also)
  go false is = absurd (cc is)

puts_change : (objects : List Object) (r : Request) (c : Change) → AsksChange objects r r.asked c → Puts objects r (puts_of objects c)
puts_change objects r c asks = go (is_change r.asked) (change_asked objects r r.asked c asks) where
  go : (b : Bool) → b ≡ true → MatchBool b ((e : Change) × AsksChange objects r r.asked e × (puts_of objects c ≡ puts_of objects e)) (puts_of objects c ≡ [])
  go true is = (c, asks, refl)
  go false is = absurd (cc is)

-- an accepted change puts its objects, and one that reaches a limit none
put_within : (objects : List Object) (r : Request) (limit : Option (Which × ℕ)) (later : Dataset) (puts : List Object) → Puts objects r puts → (some : List Object) × PutsBy objects r (within limit later) some
put_within objects r None later puts put = (puts, put)
put_within objects r (Some limit) later puts put = ([], refl)

change_link : (objects : List Object) (d : Dataset) (r : Request) (c : Change) (later : Dataset) → AsksChange objects r r.asked c → reply d (told_with r (limit_of objects c)) ≡ Some (within (limit_of objects c) later) → HasLink objects d r
change_link objects d r c later asks replied =
    let put = put_within objects r (limit_of objects c) later (puts_of objects c) (puts_change objects r c asks) in
    link_with objects d r (limit_of objects c) (within (limit_of objects c) later) put.0 (shows_change objects r c asks) replied put.1

-- ---- create

create_new : (objects : List Object) (d : Dataset) (json : List ℕ) (line : ℕ) (lines : List (ℕ × List ℕ)) (fields : List (PlainField ℕ)) (takes : Takes json fields) (o : Option ℕ) → newest d ≡ o → HasLink objects d (record { asked = create json; line = line; lines = lines })
create_new objects d json line lines fields takes (Some version) there =
    let limit = limit_of objects (change.create fields) in
    link_with objects d (record { asked = create json; line = line; lines = lines }) limit (refused (fault.AlreadyThere version)) [] (shows_change objects (record { asked = create json; line = line; lines = lines }) (change.create fields) (fields, takes, refl))
    (there_reply d line (shown_with limit) (form json) (map unnumbered fields) version takes.form there) refl
create_new objects d json line lines fields takes None none =
    let limit = limit_of objects (change.create fields) in
    change_link objects d (record { asked = create json; line = line; lines = lines }) (change.create fields) (with_version d 1 (no_rows fields)) (fields, takes, refl) (created_reply d line (shown_with limit) (form json) (map unnumbered fields) takes.form none)

create_link : (objects : List Object) (d : Dataset) (json : List ℕ) (line : ℕ) (lines : List (ℕ × List ℕ)) (o : Judged (List Column)) → IsSound objects (record { asked = create json; line = line; lines = lines }) (create json) → form json ≡ o
    → HasLink objects d (record { asked = create json; line = line; lines = lines })
create_link objects d json line lines (Ok columns) sound is = let (fields, takes) = sound columns is in create_new objects d json line lines fields takes (newest d) refl
create_link objects d json line lines (Err f) sound is =
    link_with objects d (record { asked = create json; line = line; lines = lines }) None (refused (of_form line f)) [] (λ c asks. absurd (cc (sym is ∙ asks.1.form))) (ap (create_reply d line (shown_with None)) is) refl

-- ---- what reads versions

none_read : (d : Dataset) (asked : Option ℕ) (read : Table → Option Outcome) → newest d ≡ None → on_version d asked read (newest d) ≡ Some (refused fault.NoDataset)
none_read d asked read none = ap (on_version d asked read) none

-- a version's table
record OnTable (objects : List Object) (d : Dataset) (version : ℕ) : Type 0 where
  pub table : Table
  pub at : table_at d version ≡ Some table
  pub stands : StandsFor objects version table

on_table : (objects : List Object) (d : Dataset) (version : ℕ) (o : Option Table) → AgreesWith objects d → table_at d version ≡ o → IsSome o → OnTable objects d version
on_table objects d version None agrees at some = absurd (cc some)
on_table objects d version (Some t) agrees at some = record { table = t; at = at; stands = found objects d.stands version t agrees.stands at }

-- ---- append

append_rows : (objects : List Object) (d : Dataset) (line : ℕ) (lines : List (ℕ × List ℕ)) (version : ℕ) (on : OnTable objects d version) (m : PlainManifest) (rows : Result (List (List PlainValue)) LinesFault) → RowsCanBeWritten objects lines → newest d ≡ Some version → IsNewestManifest objects m
    → on.table.columns ≡ map unnumbered m.fields → rows_of (map unnumbered m.fields) lines ≡ rows → HasLink objects d (record { asked = append; line = line; lines = lines })
append_rows objects d line lines version on m (Ok rows) sound last n columns reads =
    let (can, few) = sound m rows n reads in
    let c = change.append m rows in
    let limit = limit_of objects c in
    change_link objects d (record { asked = append; line = line; lines = lines }) c (after_append d version on.table rows) (m, rows, record { newest = n; reads = reads; can = can; few = few }, refl)
    (ap (on_version d None (λ t. append_reply d (shown_with limit) (rows_of t.columns lines))) last ∙ ap (option_and_then (λ t. append_reply d (shown_with limit) (rows_of t.columns lines))) on.at
    ∙ ap (append_reply d (shown_with limit)) (ap (λ columns. rows_of columns lines) columns ∙ reads) ∙ appended d (shown_with limit) rows version on.table last on.at)
append_rows objects d line lines version on m (Err f) sound last n columns reads =
    link_with objects d (record { asked = append; line = line; lines = lines }) None (refused (of_lines f)) []
    (λ c asks. absurd (not_both asks.0 asks.1 (newest_one objects m asks.0 n asks.2.newest) asks.2.reads))
    (ap (on_version d None (λ t. append_reply d (shown_with None) (rows_of t.columns lines))) last ∙ ap (option_and_then (λ t. append_reply d (shown_with None) (rows_of t.columns lines))) on.at
    ∙ ap (append_reply d (shown_with None)) (ap (λ columns. rows_of columns lines) columns ∙ reads))
    refl where
      not_both : (other : PlainManifest) (others : List (List PlainValue)) → m ≡ other → rows_of (map unnumbered other.fields) lines ≡ Ok others → ⊥
      not_both other others same read = cc (sym reads ∙ ap (λ (n : PlainManifest). rows_of (map unnumbered n.fields) lines) same ∙ read)

append_link : (objects : List Object) (d : Dataset) (line : ℕ) (lines : List (ℕ × List ℕ)) (o : Option ℕ) → AgreesWith objects d → RowsCanBeWritten objects lines → HasTables objects d append → newest d ≡ o → HasLink objects d (record { asked = append; line = line; lines = lines })
append_link objects d line lines None agrees sound tables none =
    link_with objects d (record { asked = append; line = line; lines = lines }) None (refused fault.NoDataset) [] (λ c asks. absurd (newest_listed objects d None agrees none asks.0.version asks.2.newest.newest.listed))
    (none_read d None (λ t. append_reply d (shown_with None) (rows_of t.columns lines)) none) refl
append_link objects d line lines (Some version) agrees sound tables last =
    let is_newest : IsNewest objects version = newest_listed objects d (Some version) agrees last in
    let on = on_table objects d version (table_at d version) agrees refl (tables version is_newest) in
    let m = on.stands.manifest in
    let numbered : m.version ≡ version = on.stands.has.held.says.stands.numbered in
    let n : IsNewestManifest objects m = record { newest = subst (IsNewest objects) (sym numbered) is_newest; has = subst (λ v. HasManifest objects v m) (sym numbered) on.stands.has } in
    append_rows objects d line lines version on m (rows_of (map unnumbered m.fields) lines) sound last n on.stands.columns refl

-- ---- restore

restored_reply : (d : Dataset) (shown : Shown) (number n : ℕ) (t kept : Table) → newest d ≡ Some n → list_any (nat_eq number) d.listed ≡ true → table_at d n ≡ Some t → table_at d number ≡ Some kept
    → change_reply d shown (after.restore number) ≡ Some (within shown.limit (with_version d (n + 1) kept))
restored_reply d shown number n t kept last there at kept_at = rw (last, there, at, kept_at) refl

lacking_reply : (d : Dataset) (shown : Shown) (number n : ℕ) → newest d ≡ Some n → list_any (nat_eq number) d.listed ≡ false → change_reply d shown (after.restore number) ≡ Some (refused (fault.NoVersion number n))
lacking_reply d shown number n last none = rw (last, none) refl

nothing_reply : (d : Dataset) (shown : Shown) (number : ℕ) → newest d ≡ None → change_reply d shown (after.restore number) ≡ Some (refused fault.NoDataset)
nothing_reply d shown number none = rw none refl

-- whether a version is in the dataset's listing
is_in : (objects : List Object) (d : Dataset) (number : ℕ) (b : Bool) → AgreesWith objects d → list_any (nat_eq number) d.listed ≡ b → MatchBool b (IsListed objects number) (IsListed objects number → ⊥)
is_in objects d number true agrees there = listed_there objects d.listed number agrees.listed.only there
is_in objects d number false agrees none = λ listed. absurd (cc (sym none ∙ is_among objects d number agrees listed))

restore_both : (objects : List Object) (d : Dataset) (line : ℕ) (lines : List (ℕ × List ℕ)) (number n : ℕ) → AgreesWith objects d → HasTables objects d (restore number) → newest d ≡ Some n → list_any (nat_eq number) d.listed ≡ true → IsListed objects number → IsNewest objects n
    → HasLink objects d (record { asked = restore number; line = line; lines = lines })
restore_both objects d line lines number n agrees tables last there listed is_newest =
    let first = on_table objects d n (table_at d n) agrees refl (tables n (listed, inl is_newest)) in
    let kept = on_table objects d number (table_at d number) agrees refl (tables number (listed, inr refl)) in
    let m = first.stands.manifest in
    let o = kept.stands.manifest in
    let numbered : m.version ≡ n = first.stands.has.held.says.stands.numbered in
    let newest_m : IsNewestManifest objects m = record { newest = subst (IsNewest objects) (sym numbered) is_newest; has = subst (λ v. HasManifest objects v m) (sym numbered) first.stands.has } in
    let c = change.restore m o in
    change_link objects d (record { asked = restore number; line = line; lines = lines }) c (with_version d (n + 1) kept.table)
    (m, o, record { is_newest = newest_m; numbered = kept.stands.has.held.says.stands.numbered; has = kept.stands.has }, refl)
    (restored_reply d (shown_with (limit_of objects c)) number n first.table kept.table last there first.at kept.at)

restore_there : (objects : List Object) (d : Dataset) (line : ℕ) (lines : List (ℕ × List ℕ)) (number n : ℕ) (b : Bool) → AgreesWith objects d → HasTables objects d (restore number) → newest d ≡ Some n → IsNewest objects n → list_any (nat_eq number) d.listed ≡ b
    → MatchBool b (IsListed objects number) (IsListed objects number → ⊥) → HasLink objects d (record { asked = restore number; line = line; lines = lines })
restore_there objects d line lines number n true agrees tables last is_newest there listed = restore_both objects d line lines number n agrees tables last there listed is_newest
restore_there objects d line lines number n false agrees tables last is_newest none not =
    link_with objects d (record { asked = restore number; line = line; lines = lines }) None (refused (fault.NoVersion number n)) [] (λ c asks. absurd (not (held_listed objects number asks.1 asks.2.has)))
    (lacking_reply d (shown_with None) number n last none) refl

restore_link : (objects : List Object) (d : Dataset) (line : ℕ) (lines : List (ℕ × List ℕ)) (number : ℕ) (o : Option ℕ) → AgreesWith objects d → HasTables objects d (restore number) → newest d ≡ o → HasLink objects d (record { asked = restore number; line = line; lines = lines })
restore_link objects d line lines number None agrees tables none =
    link_with objects d (record { asked = restore number; line = line; lines = lines }) None (refused fault.NoDataset) [] (λ c asks. absurd (newest_listed objects d None agrees none asks.0.version asks.2.is_newest.newest.listed))
    (nothing_reply d (shown_with None) number none) refl
restore_link objects d line lines number (Some n) agrees tables last =
    restore_there objects d line lines number n (list_any (nat_eq number) d.listed) agrees tables last (newest_listed objects d (Some n) agrees last) refl (is_in objects d number (list_any (nat_eq number) d.listed) agrees refl)

-- ---- readings

-- there is a reply to what reads the version that is asked for by number, or the newest
reads_at : (objects : List Object) (d : Dataset) (asked : Option ℕ) (read : Table → Outcome) (o : Option ℕ) → AgreesWith objects d → ((version : ℕ) → IsAskedFor objects asked version → IsSome (table_at d version)) → newest d ≡ o → (outcome : Outcome) × (on_version d asked (λ t. Some (read t)) (newest d) ≡ Some outcome)
reads_at objects d asked read None agrees tables none = (refused fault.NoDataset, none_read d asked (λ t. Some (read t)) none)
reads_at objects d None read (Some n) agrees tables last =
    let on = on_table objects d n (table_at d n) agrees refl (tables n (newest_listed objects d (Some n) agrees last)) in
    (read on.table, ap (on_version d None (λ t. Some (read t))) last ∙ ap (option_and_then (λ t. Some (read t))) on.at)
reads_at objects d (Some number) read (Some n) agrees tables last = go (list_any (nat_eq number) d.listed) refl (is_in objects d number (list_any (nat_eq number) d.listed) agrees refl) where
  go : (b : Bool) → list_any (nat_eq number) d.listed ≡ b → MatchBool b (IsListed objects number) (IsListed objects number → ⊥) → (outcome : Outcome) × (on_version d (Some number) (λ t. Some (read t)) (newest d) ≡ Some outcome)
  go true there listed =
      let on = on_table objects d number (table_at d number) agrees refl (tables number (listed, refl)) in (
        read on.table,
        ap (on_version d (Some number) (λ t. Some (read t))) last
            ∙ ap (λ b. cond b (option_and_then (λ t. Some (read t)) (table_at d number)) (Some (refused (fault.NoVersion number n)))) there ∙ ap (option_and_then (λ t. Some (read t))) on.at,
      )
  go false none not = (
    refused (fault.NoVersion number n),
    ap (on_version d (Some number) (λ t. Some (read t))) last ∙ ap (λ b. cond b (option_and_then (λ t. Some (read t)) (table_at d number)) (Some (refused (fault.NoVersion number n)))) none,
  )

-- what changes nothing puts nothing
shows_none : (objects : List Object) (r : Request) (limit : Option (Which × ℕ)) (b : Bool) → b ≡ false → limit ≡ None → MatchBool b ((e : Change) → AsksChange objects r r.asked e → limit ≡ limit_of objects e) (limit ≡ None)
shows_none objects r limit true is none = absurd (cc is)
shows_none objects r limit false is none = none

puts_none : (objects : List Object) (r : Request) (puts : List Object) (b : Bool) → b ≡ false → puts ≡ [] → MatchBool b ((e : Change) × AsksChange objects r r.asked e × (puts ≡ puts_of objects e)) (puts ≡ [])
puts_none objects r puts true is none = absurd (cc is)
puts_none objects r puts false is none = none

put_none : (objects : List Object) (r : Request) (o : Outcome) → is_change r.asked ≡ false → PutsBy objects r o []
put_none objects r (refused f) reads = refl
put_none objects r (done text later) reads = puts_none objects r [] (is_change r.asked) reads refl

read_link : (objects : List Object) (d : Dataset) (r : Request) (outcome : Outcome) → is_change r.asked ≡ false → reply d (told_with r None) ≡ Some outcome → HasLink objects d r
read_link objects d r outcome reads replied = link_with objects d r None outcome [] (shows_none objects r None (is_change r.asked) reads refl) replied (put_none objects r outcome reads)

-- ---- every command

pub has_link : (objects : List Object) (d : Dataset) (asked : Asked) (line : ℕ) (lines : List (ℕ × List ℕ)) → AgreesWith objects d → IsSound objects (record { asked = asked; line = line; lines = lines }) asked → HasTables objects d asked → HasLink objects d (record { asked = asked; line = line; lines = lines })
has_link objects d (create json) line lines agrees sound tables = create_link objects d json line lines (form json) sound refl
has_link objects d append line lines agrees sound tables = append_link objects d line lines (newest d) agrees sound tables refl
has_link objects d (restore number) line lines agrees sound tables = restore_link objects d line lines number (newest d) agrees tables refl
has_link objects d (scan options) line lines agrees sound tables =
    let (outcome, is) = reads_at objects d options.version (λ t. scan_reply d t (places_asked t.columns options.columns)) (newest d) agrees tables refl in
    read_link objects d (record { asked = scan options; line = line; lines = lines }) outcome refl is
has_link objects d (schema version) line lines agrees sound tables =
    let (outcome, is) = reads_at objects d version (λ t. done (schema_text t.columns) d) (newest d) agrees tables refl in
    read_link objects d (record { asked = schema version; line = line; lines = lines }) outcome refl is
has_link objects d versions line lines agrees sound tables = read_link objects d (record { asked = versions; line = line; lines = lines }) (versions_reply d d.listed) refl refl

-- ---- runs

-- a dataset with the tables of the versions that a command reads
record WithTables (objects : List Object) (asked : Asked) : Type 0 where
  pub dataset : Dataset
  pub agrees : AgreesWith objects dataset
  pub tables : HasTables objects dataset asked

itself : (n : ℕ) → nat_eq n n ≡ true
itself n = grind (arith, nat_tests)

first_there : (listed : List ℕ) (version : ℕ) (t : Table) (others : List (ℕ × Table)) → IsSome (table_at (record { listed = listed; stands = (version, t) ∷ others }) version)
first_there listed version t others = rw (itself version) refl

second_there : (listed : List ℕ) (v w : ℕ) (t u : Table) → IsSome (table_at (record { listed = listed; stands = (v, t) ∷ ((w, u) ∷ []) }) w)
second_there listed v w t u = elim (cases_Bool (nat_eq v w)) [ inl same ↦ rw same refl | inr other ↦ rw (other, itself w) refl ]

-- a dataset with the table of the version that is asked for
asked_tables : (objects : List Object) (asked : Option ℕ) (o : Option ℕ) (d : Dataset) → AgreesWith objects d → newest d ≡ o → ((version : ℕ) → IsAskedFor objects asked version → (t : Table) × StandsFor objects version t)
    → (later : Dataset) × AgreesWith objects later × ((version : ℕ) → IsAskedFor objects asked version → IsSome (table_at later version))
asked_tables objects None None d agrees none stands = (d, agrees, λ version is. absurd (newest_listed objects d None agrees none version is.listed))
asked_tables objects None (Some n) d agrees last stands =
    let is_newest : IsNewest objects n = newest_listed objects d (Some n) agrees last in
    let (t, at) = stands n is_newest in (
      record { listed = d.listed; stands = (n, t) ∷ [] },
      dataset_with objects d n t agrees at,
      λ version is. (
          let same : n ≡ version = omega (arith, is_newest.newest version is.listed, is.newest n is_newest.listed) in
          subst (λ v. IsSome (table_at (record { listed = d.listed; stands = (n, t) ∷ [] }) v)) same (first_there d.listed n t [])
          ),
    )
asked_tables objects (Some number) o d agrees last stands = go (list_any (nat_eq number) d.listed) (is_in objects d number (list_any (nat_eq number) d.listed) agrees refl) where
  go : (b : Bool) → MatchBool b (IsListed objects number) (IsListed objects number → ⊥) → (later : Dataset) × AgreesWith objects later × ((version : ℕ) → IsAskedFor objects (Some number) version → IsSome (table_at later version))
  go false not = (d, agrees, λ version is. absurd (not (subst (IsListed objects) is.1 is.0)))
  go true listed =
      let (t, at) = stands number (listed, refl) in (
        record { listed = d.listed; stands = (number, t) ∷ [] },
        dataset_with objects d number t agrees at,
        λ version is. subst (λ v. IsSome (table_at (record { listed = d.listed; stands = (number, t) ∷ [] }) v)) (sym is.1) (first_there d.listed number t []),
      )

-- and one with those that a restore reads
restore_tables : (objects : List Object) (number : ℕ) (o : Option ℕ) (d : Dataset) (b : Bool) → AgreesWith objects d → newest d ≡ o → MatchBool b (IsListed objects number) (IsListed objects number → ⊥) → AllStand objects (restore number) → WithTables objects (restore number)
restore_tables objects number o d false agrees last not stands = record { dataset = d; agrees = agrees; tables = λ version reads. absurd (not reads.0) }
restore_tables objects number None d true agrees none listed stands = absurd (newest_listed objects d None agrees none number listed)
restore_tables objects number (Some n) d true agrees last listed stands =
    let is_newest : IsNewest objects n = newest_listed objects d (Some n) agrees last in
    let (t, at) = stands n (listed, inl is_newest) in
    let (u, kept) = stands number (listed, inr refl) in
    let later : Dataset = record { listed = d.listed; stands = (n, t) ∷ ((number, u) ∷ []) } in
    record {
      dataset = later;
      agrees = dataset_with_both objects d n number t u agrees at kept;
      tables = λ version reads. elim reads.1 [
        | inl newest ↦
            let same : n ≡ version = omega (arith, is_newest.newest version newest.listed, newest.newest n is_newest.listed) in
            subst (λ v. IsSome (table_at later v)) same (first_there d.listed n t ((number, u) ∷ []))
        | inr same ↦ subst (λ v. IsSome (table_at later v)) (sym same) (second_there d.listed n number t u)
      ];
    }

with_asked : (objects : List Object) (asked : Asked) (version : Option ℕ) → ((v : ℕ) → Reads objects asked v → IsAskedFor objects version v) → ((v : ℕ) → IsAskedFor objects version v → Reads objects asked v) → AllStand objects asked → WithTables objects asked
with_asked objects asked version reads asks stands =
    let (d, agrees) = bare_dataset objects in
    let (later, also, tables) = asked_tables objects version (newest d) d agrees refl (λ v is. stands v (asks v is)) in
    record { dataset = later; agrees = also; tables = λ v is. tables v (reads v is) }

with_none : (objects : List Object) (asked : Asked) → ((v : ℕ) → Reads objects asked v → ⊥) → WithTables objects asked
with_none objects asked none = let (d, agrees) = bare_dataset objects in record { dataset = d; agrees = agrees; tables = λ v reads. absurd (none v reads) }

with_tables : (objects : List Object) (asked : Asked) → AllStand objects asked → WithTables objects asked
with_tables objects (create json) stands = with_none objects (create json) (λ v reads. reads)
with_tables objects append stands = with_asked objects append None (λ v is. is) (λ v is. is) stands
with_tables objects (restore number) stands = let (d, agrees) = bare_dataset objects in restore_tables objects number (newest d) d (list_any (nat_eq number) d.listed) agrees refl (is_in objects d number (list_any (nat_eq number) d.listed) agrees refl) stands
with_tables objects (scan options) stands = with_asked objects (scan options) options.version (λ v is. is) (λ v is. is) stands
with_tables objects (schema version) stands = with_asked objects (schema version) version (λ v is. is) (λ v is. is) stands
with_tables objects versions stands = with_none objects versions (λ v reads. reads)

abbrev no_links : List Link
no_links = []

none_more : (b : Bool) (objects : List Object) (d : Dataset) → MatchBool b (Chain single objects d [] no_links) (no_links ≡ [])
none_more true objects d = refl
none_more false objects d = refl

pub has_run : (words : List (List ℕ)) (input : List ℕ) (objects : List Object) (asked : Asked) → asked_of words ≡ Some asked → IsSound objects (alone asked input) asked → AllStand objects asked → (d : Dataset) × (links : List Link) × IsRun words input objects single d links
has_run words input objects asked is sound stands =
    let w = with_tables objects asked stands in
    let r = alone asked input in
    let (link, same, linked) = has_link objects w.dataset asked r.line r.lines w.agrees sound w.tables in (
      w.dataset,
      link ∷ [],
      record {
        agrees = w.agrees;
        told = link.told ∷ [];
        tells = (is ∙ ap (λ (r : Request). Some r.asked) (sym same), same ∙ ap (λ (r : Request). alone r.asked input) (sym same));
        chain = (refl, linked, none_more (goes_on single (said_by link.outcome)) (objects ++ link.puts) (left_by w.dataset link.outcome));
      },
    )
