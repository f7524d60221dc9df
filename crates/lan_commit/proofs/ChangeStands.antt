-- A change that reaches no limit: with its objects the next version stands, and before its manifest nothing of it is seen.
use Rattle.std.proofs.Common.{◌≡◌, refl, sym, ◌∙◌, subst, ℕ, ◌+◌, ◌^◌, ◌<◌, ◌≤◌, List, [], ◌∷◌, ◌++◌, length, take, arith, lit<, append-nil, false}
use Rattle.std.specs.Prelude.{Option, None, IsSome, nat_lt}
use Rattle.std.specs.List.{AllByRecursion, list_any}
use Rattle.std.proofs.lemmas.Bool.{or_parts}
use Rattle.std.proofs.lemmas.Bool.Decides.{nat_tests}
use Rattle.lan_model.specs.Dataset.{Dataset, with_version}
use Rattle.lan_model.specs.Plain.{PlainField, PlainValue, fields_from}
use Rattle.lan_model.specs.Table.{Table}
use Rattle.lan_store.specs.declared.name.Object.{Object}
use Rattle.lan_store.specs.Objects.{object}
use Rattle.lan_store.proofs.LawTerms.{first_held, held_behind}
use Rattle.lan_fresh.specs.Fresh.{file_path, fresh_file, fresh_fragment}
use Rattle.lan_fresh.proofs.LawTerms.{fresh_is_free, path_is_path}
use Rattle.lan_manifest.specs.Manifests.{PlainManifest, framed, manifest_object, manifest_text}
use Rattle.lan_manifest.specs.Versions.{IsListed, IsNewest, IsVersion, NoneListed, manifest_name}
use Rattle.lan_manifest.proofs.ObjectBack.{framed_long}
use Rattle.lan_read.specs.Changes.{new_fragment}
use Rattle.lan_read.specs.Listings.{IsFileOfRows, file_of_fields}
use Rattle.lan_read.specs.Rows.{FragmentGives, IsHeld, data_name}
use Rattle.lan_read.specs.Snapshots.{IsNewestManifest}
use Rattle.lan_read.specs.Tables.{AgreesWith, HasManifest, StandsFor}
use Rattle.lan_read.proofs.LawTerms.{agreement_stays, append_stands, create_stands, fragment_written, restore_stands, table_stays}
use Rattle.lan_commit.specs.Change.{Change, create, append, restore, manifest_after, next_as, next_of}
use Rattle.lan_commit.specs.ChangePuts.{data_object, files_of, limit_of, puts_of, rows_text}
use Rattle.lan_commit.specs.First.{first_manifest, no_rows}
use Rattle.lan_commit.specs.Limits.{bytes_limit}
use Rattle.lan_commit.specs.Makes.{CanBeStored, Makes}
use Rattle.lan_commit.specs.Shredded.{CanBeWritten}
use Rattle.lan_commit.proofs.LeafDepths.{all_counted}
use Rattle.lan_commit.proofs.ListedIds.{ids_once, once_pairs}
use Rattle.lan_commit.proofs.ListedMore.{ListNothing, front_nothing, is_held, last_held, listed_before, listed_one_more, listed_same, none_held}
use Rattle.lan_commit.proofs.ManifestRules.{IsSound, sound_stands, stands_sound}
use Rattle.lan_commit.proofs.NextRules.{file_sound, first_sound, next_sound, restored_sound}
use Rattle.lan_commit.proofs.NoLimit.{no_limit_reached, no_version_limit, not_reached}
use Rattle.lan_commit.proofs.WrittenRows.{rows_file}

-- ---- the objects of a change

abbrev IsShort : Object → Type 0
IsShort o = length o.bytes ≤ 2 ^ 30

shorts : (os : List Object) → list_any (λ (o : Object). nat_lt (2 ^ 30) (length o.bytes)) os ≡ false → AllByRecursion IsShort os
shorts [] none = tt
shorts (o ∷ os) none = let (here, later) = or_parts (nat_lt (2 ^ 30) (length o.bytes)) (list_any (λ (o : Object). nat_lt (2 ^ 30) (length o.bytes)) os) none in (short here, shorts os later) where
  short : nat_lt (2 ^ 30) (length o.bytes) ≡ false → length o.bytes ≤ 2 ^ 30
  short e = grind (arith, nat_tests, e)

all_short : (os : List Object) → bytes_limit os ≡ None → AllByRecursion IsShort os
all_short os none = shorts os (not_reached _ _ _ _ none).0

-- its data files list no version
pub files_nothing : (objects : List Object) (change : Change) → ListNothing (files_of objects change)
files_nothing objects (create fields) = tt
files_nothing objects (append newest []) = tt
files_nothing objects (append newest (row ∷ rows)) = (refl, tt)
files_nothing objects (restore newest old) = tt

-- a sound manifest that is put last is the objects'
has_new : (objects files : List Object) (m : PlainManifest) → IsSound m → IsVersion m.version → ListNothing files → object objects (manifest_name m.version) ≡ None → length (manifest_object m).bytes ≤ 2 ^ 30 → HasManifest (objects ++ (files ++ manifest_object m ∷ [])) m.version m
has_new objects files m sound is_version nothing none small =
    let free : object (objects ++ files) (manifest_name m.version) ≡ None =
    none_held (object (objects ++ files) (manifest_name m.version)) (λ held. none_some (object objects (manifest_name m.version)) none (listed_before objects files m.version nothing held)) in
    record {
      is_version = is_version;
      held = record {
        bytes = framed (manifest_text m);
        held = last_held objects files (manifest_object m) free;
        size = small;
        says = sound_stands m 0 sound (omega (arith, is_version.1)) (omega (arith, small, framed_long (manifest_text m)));
      };
    } where
      none_some : (o : Option (List ℕ)) → o ≡ None → IsSome o → ⊥
      none_some o none held = absurd (cc (none, held))

-- the version behind the newest isn't held
next_free : (objects : List Object) (newest : PlainManifest) → IsNewest objects newest.version → newest.version + 1 < 2 ^ 53 → object objects (manifest_name (newest.version + 1)) ≡ None
next_free objects newest is small =
    none_held (object objects (manifest_name (newest.version + 1))) (λ held. let at = is.newest (newest.version + 1) ((omega arith, small), held) in omega (arith, at))

-- ---- the next version stands

-- the objects have the next manifest, and stand for this table at its version
abbrev pub Stands : List Object → PlainManifest → Table → Type 0
Stands objects m t = HasManifest objects m.version m × StandsFor objects m.version t

sound_of : (objects : List Object) (version : ℕ) (m : PlainManifest) → HasManifest objects version m → IsSound m
sound_of objects version m has = stands_sound _ version m has.held.says

create_made : (objects : List Object) (fields : List (PlainField ℕ)) → NoneListed objects → CanBeStored fields → limit_of objects (create fields) ≡ None → Stands (objects ++ puts_of objects (create fields)) (first_manifest fields) (no_rows fields)
create_made objects fields none can short =
    let m = first_manifest fields in
    let one : IsVersion 1 = (omega arith, lit< tt) in
    let free : object objects (manifest_name 1) ≡ None = none_held (object objects (manifest_name 1)) (λ held. none 1 (one, held)) in
    let has = has_new objects [] m (first_sound fields can.told can.table can.apart) one tt free (all_short (manifest_object m ∷ []) short).0 in
    (has, create_stands (objects ++ manifest_object m ∷ []) 1 m has refl)

restore_made : (objects : List Object) (newest old : PlainManifest) (t : Table) → IsNewestManifest objects newest → HasManifest objects old.version old → StandsFor objects old.version t → limit_of objects (restore newest old) ≡ None
    → Stands (objects ++ puts_of objects (restore newest old)) (next_as newest old) t
restore_made objects newest old t is was stands none =
    let m = next_as newest old in
    let limits = no_version_limit newest (bytes_limit (manifest_object m ∷ [])) none in
    let sound = restored_sound newest old (sound_of objects newest.version newest is.has) (sound_of objects old.version old was) in
    let has = has_new objects [] m sound (omega arith, limits.0) tt (next_free objects newest is.newest limits.0) (all_short (manifest_object m ∷ []) limits.1).0 in
    (has, restore_stands objects (manifest_object m ∷ []) old.version (newest.version + 1) t old m stands was has refl refl)

-- without rows the newest table again
version_made : (objects : List Object) (newest : PlainManifest) (t : Table) → IsNewestManifest objects newest → StandsFor objects newest.version t → limit_of objects (append newest []) ≡ None
    → Stands (objects ++ puts_of objects (append newest [])) (next_of newest) (record t { rows = t.rows ++ [] })
version_made objects newest t is stands none =
    let m = next_of newest in
    let limits = no_version_limit newest (bytes_limit (manifest_object m ∷ [])) none in
    let has = has_new objects [] m (next_sound newest (sound_of objects newest.version newest is.has)) (omega arith, limits.0) tt (next_free objects newest is.newest limits.0) (all_short (manifest_object m ∷ []) limits.1).0 in
    let same = restore_stands objects (manifest_object m ∷ []) newest.version (newest.version + 1) t newest m stands is.has has refl refl in
    (has, subst (λ rows. StandsFor (objects ++ manifest_object m ∷ []) (newest.version + 1) (record t { rows = rows })) (sym (append-nil t.rows)) same)

-- the new fragment gives the rows
rows_given : (objects more : List Object) (newest : PlainManifest) (number : ℕ) (rows : List (List PlainValue)) → IsSound newest → CanBeWritten newest.fields rows → length rows < 2 ^ 31 → object objects (data_name (file_path number)) ≡ None
    → length (rows_text newest.fields rows) ≤ 2 ^ 30 → FragmentGives (objects ++ data_object number newest.fields rows ∷ more) newest.fields (new_fragment (fresh_fragment newest) (file_of_fields (file_path number) newest.fields) (length rows)) rows
rows_given objects more newest number rows sound can few free small =
    let file = data_object number newest.fields rows in
    let held : IsHeld (objects ++ file ∷ more) (data_name (file_path number)) (λ bytes. IsFileOfRows newest.fields bytes rows) = record {
      bytes = rows_text newest.fields rows;
      held = held_behind objects (file ∷ more) file.name free ∙ first_held file more;
      size = small;
      says = rows_file newest.fields rows sound.table can few small;
    } in
    fragment_written (objects ++ file ∷ more) (file_path number) newest.fields (fresh_fragment newest) rows sound.table.each (once_pairs _ (ids_once (fields_from newest.fields) 0 sound.apart)) can.fit held

rows_made : (objects : List Object) (newest : PlainManifest) (t : Table) (row : List PlainValue) (rows : List (List PlainValue)) → IsNewestManifest objects newest → StandsFor objects newest.version t → CanBeWritten newest.fields (row ∷ rows) → length (row ∷ rows) < 2 ^ 31
    → limit_of objects (append newest (row ∷ rows)) ≡ None → Stands (objects ++ puts_of objects (append newest (row ∷ rows))) (manifest_after objects (append newest (row ∷ rows))) (record t { rows = t.rows ++ row ∷ rows })
rows_made objects newest t row rows is stands can few none =
    let change = append newest (row ∷ rows) in
    let number = fresh_file objects in
    let m = manifest_after objects change in
    let file = data_object number newest.fields (row ∷ rows) in
    let limits = no_limit_reached objects newest (length rows) (bytes_limit (puts_of objects change)) none in
    let sizes = all_short (file ∷ manifest_object m ∷ []) limits.4 in
    let sound = sound_of objects newest.version newest is.has in
    let leaves = all_counted (fields_from newest.fields) 0 in
    let next = file_sound newest (file_path number) (length (row ∷ rows)) sound limits.0 limits.1 few (path_is_path number limits.3) (omega (arith, leaves, sound.table.leaves)) in
    let has = has_new objects (file ∷ []) m next (omega arith, limits.2) (refl, tt) (next_free objects newest is.newest limits.2) sizes.1.0 in
    let gives = rows_given objects (manifest_object m ∷ []) newest number (row ∷ rows) sound can few (fresh_is_free objects limits.3) sizes.0 in
    (has, append_stands objects (file ∷ manifest_object m ∷ []) newest.version (newest.version + 1) t newest m (new_fragment (fresh_fragment newest) (file_of_fields (file_path number) newest.fields) (length (row ∷ rows))) (row ∷ rows) stands is.has has refl refl gives)

append_made : (objects : List Object) (newest : PlainManifest) (before t : Table) (rows : List (List PlainValue)) → IsNewestManifest objects newest → StandsFor objects newest.version before → CanBeWritten newest.fields rows → length rows < 2 ^ 31
    → t ≡ record before { rows = before.rows ++ rows } → limit_of objects (append newest rows) ≡ None → Stands (objects ++ puts_of objects (append newest rows)) (manifest_after objects (append newest rows)) t
append_made objects newest before t [] is stands can few same none = subst (Stands (objects ++ puts_of objects (append newest [])) (next_of newest)) (sym same) (version_made objects newest before is stands none)
append_made objects newest before t (row ∷ rows) is stands can few same none =
    subst (Stands (objects ++ puts_of objects (append newest (row ∷ rows))) (manifest_after objects (append newest (row ∷ rows)))) (sym same) (rows_made objects newest before row rows is stands can few none)

-- a change stands
pub change_stands : (objects : List Object) (change : Change) (t : Table) → Makes objects change t → limit_of objects change ≡ None
    → HasManifest (objects ++ puts_of objects change) (manifest_after objects change).version (manifest_after objects change) × StandsFor (objects ++ puts_of objects change) (manifest_after objects change).version t
change_stands objects (create fields) t (none, can, same) short = subst (Stands (objects ++ puts_of objects (create fields)) (first_manifest fields)) (sym same) (create_made objects fields none can short)
change_stands objects (append newest rows) t (before, is, stands, can, few, same) none = append_made objects newest before t rows is stands can few same none
change_stands objects (restore newest old) t (is, was, stands) none = restore_made objects newest old t is was stands none

-- ---- what is listed

pub next_later : (objects : List Object) (change : Change) (t : Table) → Makes objects change t → (w : ℕ) → IsListed objects w → w < (manifest_after objects change).version
next_later objects (create fields) t (none, can, same) w listed = absurd (none w listed)
next_later objects (append newest []) t (before, is, stands, can, few, same) w listed = let at = is.newest.newest w listed in omega (arith, at)
next_later objects (append newest (row ∷ rows)) t (before, is, stands, can, few, same) w listed = let at = is.newest.newest w listed in omega (arith, at)
next_later objects (restore newest old) t (is, was, stands) w listed = let at = is.newest.newest w listed in omega (arith, at)

-- the objects agree with the dataset with its version more
pub change_agrees : (objects : List Object) (d : Dataset) (change : Change) (t : Table) → AgreesWith objects d → Makes objects change t → limit_of objects change ≡ None → AgreesWith (objects ++ puts_of objects change) (with_version d (manifest_after objects change).version t)
change_agrees objects d change t agrees makes none =
    let m = manifest_after objects change in
    let (has, stands) = change_stands objects change t makes none in
    let held : IsSome (object (objects ++ puts_of objects change) (manifest_name m.version)) = is_held (object (objects ++ puts_of objects change) (manifest_name m.version)) has.held.bytes has.held.held in
    agreement_stays objects (puts_of objects change) m.version t d agrees
    (listed_one_more objects (files_of objects change) (manifest_object m) d.listed m.version agrees.listed (files_nothing objects change) refl has.is_version held (next_later objects change t makes)) stands

-- ---- before its manifest

-- objects that list no version change no dataset
nothing_seen : (objects files : List Object) (d : Dataset) → ListNothing files → AgreesWith objects d → AgreesWith (objects ++ files) d
nothing_seen objects files d nothing agrees = record {
  listed = listed_same objects files d.listed nothing agrees.listed;
  stands = λ k p below. table_stays objects files _ _ (agrees.stands k p below);
}

pub change_unseen : (objects : List Object) (d : Dataset) (change : Change) (k : ℕ) → AgreesWith objects d → k < length (puts_of objects change) → AgreesWith (objects ++ take k (puts_of objects change)) d
change_unseen objects d change k agrees below =
    nothing_seen objects (take k (puts_of objects change)) d (front_nothing (files_of objects change) (manifest_object (manifest_after objects change)) k (files_nothing objects change) below) agrees
