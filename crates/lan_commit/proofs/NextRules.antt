-- The manifest that a change makes keeps to the rules, where no limit of a number is reached.
use Rattle.std.proofs.Common.{◌≡◌, inl, inr, refl, sym, ◌∙◌, ap, subst, ℕ, suc, ◌+◌, ◌^◌, ◌<◌, max, Bool, true, false, List, [], ◌∷◌, ◌++◌, length, map, arith, append-nil, length-append}
use Rattle.std.specs.Prelude.{ℤ, ◌&&◌, ◌||◌, ◌⊎◌, Option, Some, None, IfSome, All, IsTrue, nat_eq, unwrap_or}
use Rattle.std.specs.List.{AllByRecursion}
use Rattle.std.proofs.lemmas.Bool.{cases_Bool, eqb-true, or_parts}
use Rattle.std.proofs.lemmas.List.{length-map}
use Rattle.std.proofs.lemmas.List.Elements.{All-nil, All-cons}
use Rattle.lan_levels.specs.EachLeaf.{leaf_count_of}
use Rattle.lan_model.specs.Plain.{PlainField, fields_from}
use Rattle.lan_schema.specs.Forest.{AreDistinct}
use Rattle.lan_schema.specs.Written.{AreTableFields, CanTellAll, trees_of}
use Rattle.lan_fresh.specs.Fresh.{above, fresh_fragment, greatest_of, with_greatest}
use Rattle.lan_manifest.specs.declared.manifest.DataFile.{DataFile}
use Rattle.lan_manifest.specs.declared.manifest.Fragment.{Fragment}
use Rattle.lan_manifest.specs.FragmentRules.{are_indexed, deleted_fit, has_id, HaveIds, is_current, is_whole, KeepEach, listed_ids, lists_fit, may_lack, repeats, type_fits}
use Rattle.lan_manifest.specs.ManifestObjects.{KeepsRules}
use Rattle.lan_manifest.specs.Manifests.{PlainManifest, has_deletions}
use Rattle.lan_manifest.specs.Paths.{IsPath}
use Rattle.lan_manifest.specs.SchemaLeaves.{all_leaf_ids, is_listed, shape_of, tops_of}
use Rattle.lan_manifest.proofs.PathTexts.{path_is_text}
use Rattle.lan_manifest.proofs.ObjectBack.{FileFits, flag_known, FragmentFits, said_file, said_fragment, said_manifest}
use Rattle.lan_read.specs.Changes.{new_fragment}
use Rattle.lan_read.specs.Listings.{all_listings, columns_in, file_of_fields, ids_in}
use Rattle.lan_commit.specs.Change.{next_as, next_of}
use Rattle.lan_commit.specs.First.{first_manifest}
use Rattle.lan_commit.specs.Greatest.{greatest_written, ids_of, old_ids}
use Rattle.lan_commit.proofs.GreatestIds.{fresh_is_greatest}
use Rattle.lan_commit.proofs.ListedIds.{columns_ints, each_given, ids_ints, ids_once, lists_indexed, lists_long, no_repeats}
use Rattle.lan_commit.proofs.ManifestRules.{IsSound}

-- ---- a fragment behind others

only : {X : Type 0} (x : X) (P : X → Type 0) → P x → All P (x ∷ [])
only {X} x P p = All-cons P x [] p (All-nil P)

more : {X Y : Type 0} (g : X → Y) (P : Y → Type 0) (xs : List X) (x : X) → All P (map g xs) → P (g x) → All P (map g (xs ++ x ∷ []))
more {X} {Y} g P [] x all one = only (g x) P one
more {X} {Y} g P (y ∷ xs) x all one = All-cons P (g y) (map g (xs ++ x ∷ [])) (all 0 (g y) (omega arith)) (more g P xs x (λ j e within. all (suc j) e (omega (arith, within))) one)

no_either : (a b : Bool) → a ≡ false → b ≡ false → (a || b) ≡ false
no_either true b h k = absurd (cc h)
no_either false b h k = k

not_id : (a b : ℕ) → (a ≡ b → ⊥) → nat_eq a b ≡ false
not_id a b other = elim (cases_Bool (nat_eq a b)) [ inl is ↦ absurd (other (eqb-true a b is)) | inr differs ↦ differs ]

has_id_more : (fs : List Fragment) (f : Fragment) (id : ℕ) → has_id (map said_fragment fs) id ≡ false → (f.id ≡ id → ⊥) → has_id (map said_fragment (fs ++ f ∷ [])) id ≡ false
has_id_more [] f id h other = no_either (nat_eq f.id id) false (not_id f.id id other) refl
has_id_more (g ∷ fs) f id h other =
    let (here, later) = or_parts (nat_eq g.id id) (has_id (map said_fragment fs) id) h in
    no_either (nat_eq g.id id) (has_id (map said_fragment (fs ++ f ∷ [])) id) here (has_id_more fs f id later other)

ids_more : (fs : List Fragment) (f : Fragment) → HaveIds (map said_fragment fs) → f.id < 2 ^ 32 → AllByRecursion (λ (g : Fragment). g.id < f.id) fs → HaveIds (map said_fragment (fs ++ f ∷ []))
ids_more [] f ids small below = (small, refl, tt)
ids_more (g ∷ fs) f ids small below = (ids.0, has_id_more fs f g.id ids.1 (λ is. omega (arith, is, below.0)), ids_more fs f ids.2 small below.1)

fits_more : (fs : List Fragment) (f : Fragment) → AllByRecursion FragmentFits fs → FragmentFits f → AllByRecursion FragmentFits (fs ++ f ∷ [])
fits_more [] f fits one = (one, tt)
fits_more (g ∷ fs) f fits one = (fits.0, fits_more fs f fits.1 one)

-- ---- the new fragment keeps each rule

both_hold : (a b : Bool) → a ≡ true → b ≡ true → (a && b) ≡ true
both_hold true b h k = k
both_hold false b h k = absurd (cc h)

-- the ids of the one file
one_listed : (fields : List (PlainField ℕ)) (path : List ℕ) → (file_of_fields path fields).ids ++ [] ≡ ids_in (all_listings (fields_from fields) 0)
one_listed fields path = append-nil (ids_in (all_listings (fields_from fields) 0))

fits_lists : (fields : List (PlainField ℕ)) (path : List ℕ) → AreDistinct (trees_of (fields_from fields)) → IsTrue (lists_fit (is_listed (all_leaf_ids (fields_from fields))) (file_of_fields path fields))
fits_lists fields path apart =
    let ls = all_listings (fields_from fields) 0 in
    both_hold _ (are_indexed (is_listed (all_leaf_ids (fields_from fields))) (ids_in ls) (columns_in ls)) (lists_long ls) (lists_indexed (fields_from fields) 0 apart)

gives_once : (fields : List (PlainField ℕ)) (path : List ℕ) → AreDistinct (trees_of (fields_from fields)) → repeats (is_listed (all_leaf_ids (fields_from fields))) ((file_of_fields path fields).ids ++ []) ≡ false
gives_once fields path apart =
    let leaf = is_listed (all_leaf_ids (fields_from fields)) in
    ap (repeats leaf) (one_listed fields path) ∙ no_repeats leaf (ids_in (all_listings (fields_from fields) 0)) (ids_once (fields_from fields) 0 apart)

gives_whole : (fields : List (PlainField ℕ)) (path : List ℕ) → AreTableFields (fields_from fields) → All (λ top. IsTrue (is_whole (is_listed ((file_of_fields path fields).ids ++ [])) top)) (tops_of (fields_from fields))
gives_whole fields path table =
    subst (λ (zs : List ℤ). All (λ top. IsTrue (is_whole (is_listed zs) top)) (tops_of (fields_from fields))) (sym (one_listed fields path)) (λ k d below. (each_given (fields_from fields) 0 table.each k d below).0)

lacks_none : (fields : List (PlainField ℕ)) (path : List ℕ) → AreTableFields (fields_from fields) → All (λ top. IsTrue (may_lack (is_listed ((file_of_fields path fields).ids ++ [])) top)) (tops_of (fields_from fields))
lacks_none fields path table =
    subst (λ (zs : List ℤ). All (λ top. IsTrue (may_lack (is_listed zs) top)) (tops_of (fields_from fields))) (sym (one_listed fields path)) (λ k d below. (each_given (fields_from fields) 0 table.each k d below).1)

-- with that fragment more each keeps the rules
abbrev with_new : PlainManifest → ℕ → List ℕ → ℕ → Option ℕ → PlainManifest
with_new m id path rows greatest = record m { version = m.version + 1; fragments = m.fragments ++ new_fragment id (file_of_fields path m.fields) rows ∷ []; greatest = greatest }

file_keeps : (m : PlainManifest) (id : ℕ) (path : List ℕ) (rows : ℕ) (greatest : Option ℕ) → IsSound m → IsPath path → rows < 2 ^ 31 → length m.fragments < 65536 → id < 2 ^ 32 → AllByRecursion (λ (g : Fragment). g.id < id) m.fragments
    → KeepsRules (m.version + 1) (shape_of (fields_from m.fields)) (said_manifest (with_new m id path rows greatest))
unfolding KeepEach
file_keeps m id path rows greatest s is_path small few fresh below =
    let fs = m.fragments in
    let file : DataFile = file_of_fields path m.fields in
    let f : Fragment = new_fragment id file rows in
    let leaf = is_listed (all_leaf_ids (fields_from m.fields)) in
    let tops = tops_of (fields_from m.fields) in
    let each = s.keeps.each in
    record {
      numbered = refl;
      flags = flag_known (has_deletions (with_new m id path rows greatest));
      few = omega (arith, few, length-map (fs ++ f ∷ []) said_fragment, length-append fs (f ∷ []));
      ids = ids_more fs f s.keeps.ids fresh below;
      each = (
        more said_fragment (λ t. t.row_ids ≡ false) fs f each.0 refl,
        (
          more said_fragment (λ t. (t.rows < 2 ^ 31) × IsTrue (deleted_fit t.rows t.deletion)) fs f each.1.0 (small, refl),
          (
            more said_fragment (λ t. All (λ u. IsPath u.file.path) t.files) fs f each.1.1.0 (only (said_file file) (λ u. IsPath u.file.path) is_path),
            (
              more said_fragment (λ t. All (λ u. IsTrue (lists_fit leaf u.file)) t.files) fs f each.1.1.1.0 (only (said_file file) (λ u. IsTrue (lists_fit leaf u.file)) (fits_lists m.fields path s.apart)),
              (
                more said_fragment (λ t. All (λ u. IsTrue (is_current u)) t.files) fs f each.1.1.1.1.0 (only (said_file file) (λ u. IsTrue (is_current u)) refl),
                (
                  more said_fragment (λ t. IsTrue (type_fits t.deletion)) fs f each.1.1.1.1.1.0 refl,
                  (
                    more said_fragment (λ t. repeats leaf (listed_ids t.files) ≡ false) fs f each.1.1.1.1.1.1.0 (gives_once m.fields path s.apart),
                    (
                      more said_fragment (λ t. All (λ top. IsTrue (is_whole (is_listed (listed_ids t.files)) top)) tops) fs f each.1.1.1.1.1.1.1.0 (gives_whole m.fields path s.table),
                      (
                        more said_fragment (λ t. (t.rows ≡ 0) ⊎ All (λ top. IsTrue (may_lack (is_listed (listed_ids t.files)) top)) tops) fs f each.1.1.1.1.1.1.1.1.0 (inr (lacks_none m.fields path s.table)),
                        tt,
                      ),
                    ),
                  ),
                ),
              ),
            ),
          ),
        ),
      );
    }

first_keeps : (fields : List (PlainField ℕ)) → KeepsRules 1 (shape_of (fields_from fields)) (said_manifest (first_manifest fields))
unfolding KeepEach
first_keeps fields = record {
  numbered = refl;
  flags = flag_known (has_deletions (first_manifest fields));
  few = omega arith;
  ids = tt;
  each = (
    λ k d below. absurd (omega (arith, below)),
    (
      λ k d below. absurd (omega (arith, below)),
      (
        λ k d below. absurd (omega (arith, below)),
        (
          λ k d below. absurd (omega (arith, below)),
          (
            λ k d below. absurd (omega (arith, below)),
            (
              λ k d below. absurd (omega (arith, below)),
              (
                λ k d below. absurd (omega (arith, below)),
                (
                  λ k d below. absurd (omega (arith, below)),
                  (
                    λ k d below. absurd (omega (arith, below)),
                    tt,
                  ),
                ),
              ),
            ),
          ),
        ),
      ),
    ),
  );
}

-- ---- fragment ids

above_each : (fs : List Fragment) (most : ℕ) → unwrap_or (greatest_of (map (λ f. f.id) fs)) 0 < most → AllByRecursion (λ (g : Fragment). g.id < most) fs
above_each [] most small = tt
above_each (f ∷ fs) most small = (omega (arith, small), above_each fs most (omega (arith, small)))

-- a fresh id is above those that were given
fresh_above : (given : Option ℕ) (fs : List Fragment) → AllByRecursion (λ (g : Fragment). g.id < above (greatest_of (with_greatest given (map (λ f. f.id) fs))) 0) fs
fresh_above None [] = tt
fresh_above None (f ∷ fs) = above_each (f ∷ fs) _ (omega arith)
fresh_above (Some id) fs = above_each fs _ (omega arith)

below_append : (ms ns : List ℕ) → AllByRecursion (λ (n : ℕ). n < 2 ^ 32) ms → AllByRecursion (λ (n : ℕ). n < 2 ^ 32) ns → AllByRecursion (λ (n : ℕ). n < 2 ^ 32) (ms ++ ns)
below_append [] ns a b = b
below_append (m ∷ ms) ns a b = (a.0, below_append ms ns a.1 b)

greatest_below : (ns : List ℕ) → AllByRecursion (λ (n : ℕ). n < 2 ^ 32) ns → IfSome (greatest_of ns) (λ n. n < 2 ^ 32)
greatest_below [] each = tt
greatest_below (n ∷ ns) each = go (greatest_of ns) each.0 (greatest_below ns each.1) where
  go : (known : Option ℕ) → n < 2 ^ 32 → IfSome known (λ n. n < 2 ^ 32) → max n (unwrap_or known 0) < 2 ^ 32
  go None small later = omega (arith, small)
  go (Some m) small later = omega (arith, small, later)

fragment_ids : (fs : List Fragment) → HaveIds (map said_fragment fs) → AllByRecursion (λ (n : ℕ). n < 2 ^ 32) (map (λ (f : Fragment). f.id) fs)
fragment_ids [] ids = tt
fragment_ids (f ∷ fs) ids = (ids.0, fragment_ids fs ids.2)

ids_below : (given : Option ℕ) (ids : List ℕ) → IfSome given (λ (id : ℕ). id < 2 ^ 32) → AllByRecursion (λ (n : ℕ). n < 2 ^ 32) ids → AllByRecursion (λ (n : ℕ). n < 2 ^ 32) (with_greatest given ids)
ids_below None ids known each = each
ids_below (Some id) ids known each = (known, each)

sound_ids : (m : PlainManifest) → IsSound m → AllByRecursion (λ (n : ℕ). n < 2 ^ 32) (ids_of m)
sound_ids m s = ids_below m.greatest (map (λ (f : Fragment). f.id) m.fragments) s.greatest (fragment_ids m.fragments s.keeps.ids)

old_below : (old : Option PlainManifest) → IfSome old IsSound → AllByRecursion (λ (n : ℕ). n < 2 ^ 32) (old_ids old)
old_below None s = tt
old_below (Some m) s = sound_ids m s

written_below : (newest : PlainManifest) (old : Option PlainManifest) → IsSound newest → IfSome old IsSound → IfSome (greatest_written newest old []) (λ id. id < 2 ^ 32)
written_below newest old s t = greatest_below (ids_of newest ++ old_ids old) (below_append (ids_of newest) (old_ids old) (sound_ids newest s) (old_below old t))

-- ---- the manifests

abbrev again : PlainManifest → ℕ → Option ℕ → PlainManifest
again m version greatest = record m { version = version; greatest = greatest }

-- the rules speak of no other version
same_keeps : (m : PlainManifest) (version : ℕ) (greatest : Option ℕ) → IsSound m → KeepsRules version (shape_of (fields_from m.fields)) (said_manifest (again m version greatest))
same_keeps m version greatest s = record { numbered = refl; flags = flag_known (has_deletions m); few = s.keeps.few; ids = s.keeps.ids; each = s.keeps.each }

pub next_sound : (m : PlainManifest) → IsSound m → IsSound (next_of m)
next_sound m s = record { told = s.told; table = s.table; apart = s.apart; fit = s.fit; keeps = same_keeps m (m.version + 1) _ s; greatest = written_below m None s tt }

pub restored_sound : (newest old : PlainManifest) → IsSound newest → IsSound old → IsSound (next_as newest old)
restored_sound newest old s t = record { told = t.told; table = t.table; apart = t.apart; fit = t.fit; keeps = same_keeps old (newest.version + 1) _ t; greatest = written_below newest (Some old) s t }

pub first_sound : (fields : List (PlainField ℕ)) → CanTellAll (fields_from fields) → AreTableFields (fields_from fields) → AreDistinct (trees_of (fields_from fields)) → IsSound (first_manifest fields)
first_sound fields told table apart = record { told = told; table = table; apart = apart; fit = tt; keeps = first_keeps fields; greatest = tt }

pub file_sound : (m : PlainManifest) (path : List ℕ) (rows : ℕ) → IsSound m → length m.fragments < 65536 → fresh_fragment m < 2 ^ 32 → rows < 2 ^ 31 → IsPath path → leaf_count_of (fields_from m.fields) < 2 ^ 31
    → IsSound (with_new m (fresh_fragment m) path rows (greatest_written m None (fresh_fragment m ∷ [])))
file_sound m path rows s few fresh small is_path leaves =
    let file : DataFile = file_of_fields path m.fields in
    let fits : FileFits file = record { path = path_is_text path is_path; ids = ids_ints (fields_from m.fields) 0 s.told; columns = columns_ints (fields_from m.fields) 0 (omega (arith, leaves)) } in
    record {
      told = s.told;
      table = s.table;
      apart = s.apart;
      fit = fits_more m.fragments (new_fragment (fresh_fragment m) file rows) s.fit (record { id = omega (arith, fresh); rows = omega (arith, small); files = (fits, tt); deletion = tt });
      keeps = file_keeps m (fresh_fragment m) path rows _ s is_path small few fresh (fresh_above m.greatest m.fragments);
      greatest = subst (λ (o : Option ℕ). IfSome o (λ id. id < 2 ^ 32)) (sym (fresh_is_greatest m)) fresh;
    }
