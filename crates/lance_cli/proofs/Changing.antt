-- A change that a command asks for, where the objects agree with a dataset: that there is one, the table that it makes, and what is replied.
use Rattle.std.proofs.Common.{◌≡◌, refl, sym, ◌∙◌, ap, subst, ℕ, ◌+◌, List, [], ◌∷◌, ◌++◌, map, arith, true}
use Rattle.std.specs.Prelude.{nat_eq, Option, Some, None, IsSome, option_map, option_and_then, Result, Ok}
use Rattle.std.specs.List.{list_any}
use Rattle.std.proofs.lemmas.Option.{same_Some}
use Rattle.lan_model.specs.After as after
use Rattle.lan_model.specs.After.{Command, after as after_command, created, restored, after_newest}
use Rattle.lan_model.specs.Dataset.{Dataset, newest, table_at, with_version}
use Rattle.lan_model.specs.Plain.{PlainField, PlainValue, fields_from, unnumbered}
use Rattle.lan_model.specs.Table.{Table, Column}
use Rattle.lan_form.specs.Form.{form}
use Rattle.lan_form.specs.Judged.{Judged}
use Rattle.lan_rows.specs.Lines.{rows_of}
use Rattle.lan_rows.specs.declared.lines.LinesFault.{LinesFault}
use Rattle.lan_schema.specs.Renumber.{all_numbered}
use Rattle.lan_store.specs.declared.name.Object.{Object}
use Rattle.lan_manifest.specs.Manifests.{PlainManifest}
use Rattle.lan_manifest.specs.Versions.{IsListed, IsNewest, NoneListed}
use Rattle.lan_read.specs.Snapshots.{IsNewestManifest}
use Rattle.lan_read.specs.Tables.{AgreesWith, HasManifest, StandsFor}
use Rattle.lan_read.proofs.LawTerms.{one_manifest_held}
use Rattle.lan_commit.specs.Change as change
use Rattle.lan_commit.specs.Change.{Change, manifest_after}
use Rattle.lan_commit.specs.First.{no_rows}
use Rattle.lan_commit.specs.Makes.{Makes, ComesAfter}
use Rattle.lance_cli.specs.Commands.{Asked, create, append, restore, scan, schema, versions, is_change, Request}
use Rattle.lance_cli.specs.Creates.{Takes}
use Rattle.lance_cli.specs.Puts.{AsksChange, ReadsRows, ReadsBoth}
use Rattle.lance_cli.specs.Replies.{Told, Shown, Outcome, refused, done, within, changed_to, change_reply, create_reply, append_reply, answer}
use Rattle.lance_cli.specs.declared.fault.Fault.TheVariants as fault
use Rattle.lance_cli.proofs.VersionReply.{Read, columns_of, found, is_among, newest_at, newest_listed, newest_none, version_read}

-- ---- one change

-- fields that are listed in one way are the same
same_list : (xs ys : List (PlainField ℕ)) → fields_from xs ≡ fields_from ys → xs ≡ ys
same_list [] [] same = refl
same_list [] (y ∷ ys) same = absurd (cc same)
same_list (x ∷ xs) [] same = absurd (cc same)
same_list (x ∷ xs) (y ∷ ys) same =
    let first : x ≡ y = cc same in
    let others : xs ≡ ys = same_list xs ys (cc same) in
    cc (first, others)

-- a text is the schema of one list of fields
pub one_schema : (json : List ℕ) (xs ys : List (PlainField ℕ)) → Takes json xs → Takes json ys → xs ≡ ys
one_schema json xs ys a b =
    let columns : map unnumbered xs ≡ map unnumbered ys = cc (sym a.form ∙ b.form) in
    same_list xs ys (a.numbered ∙ ap (λ (c : List Column). all_numbered (fields_from c) 0) columns ∙ sym b.numbered)

pub newest_one : (old : List Object) (m n : PlainManifest) → IsNewestManifest old m → IsNewestManifest old n → m ≡ n
newest_one old m n a b =
    let same : n.version ≡ m.version = omega (arith, a.newest.newest n.version b.newest.listed, b.newest.newest m.version a.newest.listed) in
    one_manifest_held old m.version m n a.has (subst (λ v. HasManifest old v n) same b.has)

-- a command asks for one change
pub one_change : (old : List Object) (r : Request) (asked : Asked) (c e : Change) → AsksChange old r asked c → AsksChange old r asked e → c ≡ e
one_change old r (create json) c e (xs, takes, is) (ys, takes_too, is_too) = is ∙ ap change.create (one_schema json xs ys takes takes_too) ∙ sym is_too
one_change old r append c e (m, rows, reads, is) (n, others, reads_too, is_too) =
    let same = newest_one old m n reads.newest reads_too.newest in
    let rows_same : rows ≡ others = cc (sym reads.reads ∙ ap (λ (n : PlainManifest). rows_of (map unnumbered n.fields) r.lines) same ∙ reads_too.reads) in
    is ∙ ap (λ n. change.append n rows) same ∙ ap (change.append n) rows_same ∙ sym is_too
one_change old r (restore version) c e (m, kept, reads, is) (n, others, reads_too, is_too) =
    let same = newest_one old m n reads.is_newest reads_too.is_newest in
    let old_same = one_manifest_held old version kept others reads.has reads_too.has in
    is ∙ ap (λ n. change.restore n kept) same ∙ ap (change.restore n) old_same ∙ sym is_too
one_change old r (scan options) c e asks also = absurd asks
one_change old r (schema version) c e asks also = absurd asks
one_change old r versions c e asks also = absurd asks

-- what asks for a change is a change
pub change_asked : (old : List Object) (r : Request) (asked : Asked) (c : Change) → AsksChange old r asked c → is_change asked ≡ true
change_asked old r (create json) c asks = refl
change_asked old r append c asks = refl
change_asked old r (restore version) c asks = refl
change_asked old r (scan options) c asks = absurd asks
change_asked old r (schema version) c asks = absurd asks
change_asked old r versions c asks = absurd asks

-- ---- what is replied to it

-- the table that the change makes, and the reply: the dataset with it, or the limit
pub record Made (old : List Object) (d : Dataset) (shown : Shown) (outcome : Outcome) (c : Change) : Type 0 where
  pub table : Table
  pub makes : Makes old c table
  pub replied : outcome ≡ within shown.limit (with_version d (manifest_after old c).version table)

-- ---- create

pub created_reply : (d : Dataset) (line : ℕ) (shown : Shown) (o : Judged (List Column)) (columns : List Column) → o ≡ Ok columns → newest d ≡ None
    → create_reply d line shown o ≡ Some (within shown.limit (with_version d 1 (record { columns = columns; rows = [] })))
created_reply d line shown o columns is none = rw (is, none) refl

pub there_reply : (d : Dataset) (line : ℕ) (shown : Shown) (o : Judged (List Column)) (columns : List Column) (version : ℕ) → o ≡ Ok columns → newest d ≡ Some version → create_reply d line shown o ≡ Some (refused (fault.AlreadyThere version))
there_reply d line shown o columns version is there = rw (is, there) refl

create_made : (old : List Object) (d : Dataset) (told : Told) (outcome : Outcome) (json : List ℕ) (fields : List (PlainField ℕ)) → AgreesWith old d → answer d told (create json) ≡ Some outcome → Takes json fields → NoneListed old → Made old d told.shown outcome (change.create fields)
create_made old d told outcome json fields agrees replied takes none = record {
  table = no_rows fields;
  makes = (none, takes.stored, refl);
  replied = same_Some outcome (within told.shown.limit (with_version d 1 (no_rows fields))) (sym replied ∙ created_reply d told.request.line told.shown (form json) (map unnumbered fields) takes.form (newest_none old d agrees none));
}

-- ---- append

-- the dataset with the rows more
abbrev pub after_append : Dataset → ℕ → Table → List (List PlainValue) → Dataset
after_append d version t rows = with_version d (version + 1) (record t { rows = t.rows ++ rows })

after_is : (d : Dataset) (rows : List (List PlainValue)) (version : ℕ) (t : Table) → newest d ≡ Some version → table_at d version ≡ Some t → after_command d (after.append rows) ≡ Some (Ok (after_append d version t rows))
after_is d rows version t is_newest at = rw (is_newest, at) refl

pub appended : (d : Dataset) (shown : Shown) (rows : List (List PlainValue)) (version : ℕ) (t : Table) → newest d ≡ Some version → table_at d version ≡ Some t → append_reply d shown (Ok rows) ≡ Some (within shown.limit (after_append d version t rows))
appended d shown rows version t is_newest at = ap (option_map (changed_to shown)) (after_is d rows version t is_newest at)

pub newest_read : (old : List Object) (d : Dataset) (told : Told) (outcome : Outcome) (m : PlainManifest) → AgreesWith old d → IsNewestManifest old m → answer d told append ≡ Some outcome → Read old d m.version (λ t. append_reply d told.shown (rows_of t.columns told.request.lines)) outcome
newest_read old d told outcome m agrees n replied = version_read old d None m.version (λ t. append_reply d told.shown (rows_of t.columns told.request.lines)) outcome agrees n.newest replied

-- the reply where the lines are read by the newest manifest's fields
pub lines_reply : (old : List Object) (d : Dataset) (shown : Shown) (lines : List (ℕ × List ℕ)) (outcome : Outcome) (m : PlainManifest) → IsNewestManifest old m → (rows : Result (List (List PlainValue)) LinesFault)
    → (read : Read old d m.version (λ t. append_reply d shown (rows_of t.columns lines)) outcome) → rows_of (map unnumbered m.fields) lines ≡ rows → append_reply d shown rows ≡ Some outcome
lines_reply old d shown lines outcome m n rows read is =
    ap (append_reply d shown) (sym (ap (λ columns. rows_of columns lines) (columns_of old m.version read.table m read.stands n.has) ∙ is)) ∙ read.reply

append_number : (old : List Object) (m : PlainManifest) (rows : List (List PlainValue)) → (manifest_after old (change.append m rows)).version ≡ m.version + 1
append_number old m [] = refl
append_number old m (row ∷ rows) = refl

append_made : (old : List Object) (d : Dataset) (told : Told) (outcome : Outcome) (m : PlainManifest) (rows : List (List PlainValue)) → AgreesWith old d → answer d told append ≡ Some outcome → ReadsRows old told.request.lines m rows → Made old d told.shown outcome (change.append m rows)
append_made old d told outcome m rows agrees replied reads =
    let read = newest_read old d told outcome m agrees reads.newest replied in
    let t = read.table in
    let reply = lines_reply old d told.shown told.request.lines outcome m reads.newest (Ok rows) read reads.reads in
    let last = newest_at old d m.version agrees reads.newest.newest in
    let later : Table = record t { rows = t.rows ++ rows } in
    record {
      table = later;
      makes = (t, reads.newest, read.stands, reads.can, reads.few, refl);
      replied = same_Some outcome (within told.shown.limit (with_version d (m.version + 1) later)) (sym reply ∙ appended d told.shown rows m.version t last read.at)
          ∙ ap (λ v. within told.shown.limit (with_version d v later)) (sym (append_number old m rows));
    }

-- ---- restore

-- both tables stand, and the reply is with the old one again
pub record Restored (old : List Object) (d : Dataset) (shown : Shown) (outcome : Outcome) (n number : ℕ) : Type 0 where
  pub table : Table
  pub at : table_at d number ≡ Some table
  pub stands : StandsFor old number table
  pub before : Table
  pub newest_stands : StandsFor old n before
  pub reply : outcome ≡ within shown.limit (with_version d (n + 1) table)

restored_is : (d : Dataset) (number n : ℕ) (a b : Option Table) → newest d ≡ Some n → list_any (nat_eq number) d.listed ≡ true → table_at d n ≡ a → table_at d number ≡ b
    → after_command d (after.restore number) ≡ option_and_then (λ t. option_map (λ kept. Ok (with_version d (n + 1) kept)) b) a
restored_is d number n None b last there at kept_at = rw (last, there, at) refl
restored_is d number n (Some t) b last there at kept_at = rw (last, there, at, kept_at) refl

pub restored_read : (old : List Object) (d : Dataset) (shown : Shown) (outcome : Outcome) (n number : ℕ) → AgreesWith old d → IsNewest old n → IsListed old number → change_reply d shown (after.restore number) ≡ Some outcome → Restored old d shown outcome n number
restored_read old d shown outcome n number agrees is_newest listed replied = go (table_at d n) (table_at d number) refl refl where
  go : (a b : Option Table) → table_at d n ≡ a → table_at d number ≡ b → Restored old d shown outcome n number
  go None b at kept_at = absurd (cc (sym (ap (option_map (changed_to shown)) (restored_is d number n None b (newest_at old d n agrees is_newest) (is_among old d number agrees listed) at kept_at)) ∙ replied))
  go (Some t) None at kept_at = absurd (cc (sym (ap (option_map (changed_to shown)) (restored_is d number n (Some t) None (newest_at old d n agrees is_newest) (is_among old d number agrees listed) at kept_at)) ∙ replied))
  go (Some t) (Some kept) at kept_at = record {
    table = kept;
    at = kept_at;
    stands = found old d.stands number kept agrees.stands kept_at;
    before = t;
    newest_stands = found old d.stands n t agrees.stands at;
    reply = same_Some outcome (within shown.limit (with_version d (n + 1) kept))
        (sym replied ∙ ap (option_map (changed_to shown)) (restored_is d number n (Some t) (Some kept) (newest_at old d n agrees is_newest) (is_among old d number agrees listed) at kept_at));
  }

pub held_listed : (old : List Object) (version : ℕ) (m : PlainManifest) → HasManifest old version m → IsListed old version
held_listed old version m has = (has.is_version, subst IsSome (sym has.held.held) refl)

restore_made : (old : List Object) (d : Dataset) (told : Told) (outcome : Outcome) (number : ℕ) (n kept : PlainManifest) → AgreesWith old d → answer d told (restore number) ≡ Some outcome → ReadsBoth old number n kept → Made old d told.shown outcome (change.restore n kept)
restore_made old d told outcome number n kept agrees replied reads =
    let read = restored_read old d told.shown outcome n.version number agrees reads.is_newest.newest (held_listed old number kept reads.has) replied in
    record {
      table = read.table;
      makes = (reads.is_newest, subst (λ v. HasManifest old v kept) (sym reads.numbered) reads.has, subst (λ v. StandsFor old v read.table) (sym reads.numbered) read.stands);
      replied = read.reply;
    }

-- ---- every change

pub made : (old : List Object) (d : Dataset) (told : Told) (outcome : Outcome) (asked : Asked) (c : Change) → AgreesWith old d → answer d told asked ≡ Some outcome → AsksChange old told.request asked c → ComesAfter old c → Made old d told.shown outcome c
made old d told outcome (create json) c agrees replied (fields, takes, is) after = subst (Made old d told.shown outcome) (sym is) (create_made old d told outcome json fields agrees replied takes (subst (ComesAfter old) is after))
made old d told outcome append c agrees replied (m, rows, reads, is) after = subst (Made old d told.shown outcome) (sym is) (append_made old d told outcome m rows agrees replied reads)
made old d told outcome (restore number) c agrees replied (n, kept, reads, is) after = subst (Made old d told.shown outcome) (sym is) (restore_made old d told outcome number n kept agrees replied reads)
made old d told outcome (scan options) c agrees replied asks after = absurd asks
made old d told outcome (schema version) c agrees replied asks after = absurd asks
made old d told outcome versions c agrees replied asks after = absurd asks

-- where it is done, nothing was in its way
created_alone : (d : Dataset) (line : ℕ) (shown : Shown) (o : Judged (List Column)) (columns : List Column) (text : List ℕ) (later : Dataset) (n : Option ℕ) → o ≡ Ok columns → newest d ≡ n → create_reply d line shown o ≡ Some (done text later) → n ≡ None
created_alone d line shown o columns text later None is last replied = refl
created_alone d line shown o columns text later (Some version) is last replied = absurd (cc (same_Some (refused (fault.AlreadyThere version)) (done text later) (sym (there_reply d line shown o columns version is last) ∙ replied)))

pub comes_after : (old : List Object) (d : Dataset) (told : Told) (text : List ℕ) (later : Dataset) (asked : Asked) (c : Change) → AgreesWith old d → answer d told asked ≡ Some (done text later) → AsksChange old told.request asked c → ComesAfter old c
comes_after old d told text later (create json) c agrees replied (fields, takes, is) =
    let none = created_alone d told.request.line told.shown (form json) (map unnumbered fields) text later (newest d) takes.form refl replied in
    subst (ComesAfter old) (sym is) (newest_listed old d None agrees none)
comes_after old d told text later append c agrees replied (m, rows, reads, is) = subst (ComesAfter old) (sym is) reads.newest
comes_after old d told text later (restore number) c agrees replied (n, kept, reads, is) = subst (ComesAfter old) (sym is) reads.is_newest
comes_after old d told text later (scan options) c agrees replied asks = absurd asks
comes_after old d told text later (schema version) c agrees replied asks = absurd asks
comes_after old d told text later versions c agrees replied asks = absurd asks
