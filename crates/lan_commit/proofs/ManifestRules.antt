-- What a manifest keeps to that some object stands for, and that it can be written.
use Rattle.std.proofs.Common.{◌≡◌, ℕ, suc, ◌^◌, ◌<◌, Bool, true, false, cond, List, [], ◌∷◌, length, map, Option, Some, None, Result, Ok, Err, refl, sym, ap, subst, ◌∙◌, arith}
use Rattle.std.specs.Prelude.{nat_eq, nat_lt, option_map, All, IsTrue, IfSome}
use Rattle.std.specs.List.{AllByRecursion}
use Rattle.std.specs.Result.{result_ok}
use Rattle.std.proofs.lemmas.Bool.{and_parts, eqb-true, ltb-true}
use Rattle.lan_bytes.specs.Placed.{Placed}
use Rattle.lan_model.specs.Plain.{fields_from}
use Rattle.lan_wire.specs.declared.item.Item.{Item}
use Rattle.lan_wire.specs.declared.item.WireFault.{WireFault}
use Rattle.lan_wire.specs.Messages.{ReadEach}
use Rattle.lan_wire.specs.Readers.{then_read, out_of_range, num_of}
use Rattle.lan_wire.specs.Values.{last_under, small_if, parts_under}
use Rattle.lan_wire.proofs.LawTerms.{num_fits, text_fits, signeds_fit}
use Rattle.lan_schema.specs.Written.{CanTellAll, AreTableFields, trees_of}
use Rattle.lan_schema.specs.Forest.{AreDistinct}
use Rattle.lan_schema.proofs.LawTerms.{read_fields}
use Rattle.lan_manifest.specs.declared.manifest.Fragment.{Fragment}
use Rattle.lan_manifest.specs.FragmentRules.{deleted_fit, is_current, type_fits, KeepEach, HaveIds}
use Rattle.lan_manifest.specs.ManifestMessages.{SaysFile, SaysDeletions, SaysFragment}
use Rattle.lan_manifest.specs.ManifestObjects.{KeepsRules, fragment_of, IsManifestObject}
use Rattle.lan_manifest.specs.Manifests.{PlainManifest, has_deletions, manifest_text, framed}
use Rattle.lan_manifest.specs.SchemaLeaves.{shape_of}
use Rattle.lan_manifest.specs.Stage.{is_read_type}
use Rattle.lan_manifest.proofs.ObjectBack.{said_file, FileFits, said_deletion, DeletionFits, DeletionsFit, said_fragment, FragmentFits, flag_known, said_manifest, ManifestFits, object_back, fragments_again}
use Rattle.lan_manifest.proofs.WrittenAgain.{front_short}

-- what holds of a manifest of whatever version, as it is written
pub record IsSound (m : PlainManifest) : Type 0 where
  pub told : CanTellAll (fields_from m.fields)
  pub table : AreTableFields (fields_from m.fields)
  pub apart : AreDistinct (trees_of (fields_from m.fields))
  pub fit : AllByRecursion FragmentFits m.fragments
  pub keeps : KeepsRules m.version (shape_of (fields_from m.fields)) (said_manifest m)
  pub greatest : IfSome m.greatest (λ id. id < 2 ^ 32)

-- such a manifest is read back
pub sound_stands : (m : PlainManifest) (at : ℕ) → IsSound m → m.version < 2 ^ 64 → length (manifest_text m) < 2 ^ 32 → IsManifestObject (record { base = at; bytes = framed (manifest_text m) }) m.version m
sound_stands m at s few small =
    let fits : ManifestFits m = record {
      fields = record { low = omega arith; up = omega arith; fits = omega (arith, small, front_short m); told = s.told; table = s.table; apart = s.apart };
      fragments = s.fit;
      version = few;
      greatest = s.greatest;
      short = small;
    } in
    object_back at m.version m fits refl s.keeps (fragments_again m.fragments)

-- ---- what an object stands for is such a manifest

file_fits : (part : Placed) (s : _) → SaysFile part s → FileFits s.file
file_fits part s p = subst (λ t. FileFits t.file) (sym p.said) (record { path = text_fits 1 p.items; ids = signeds_fit 2 p.items; columns = signeds_fit 3 p.items })

files_fit : (messages : List Placed) (fs : List _) → ReadEach SaysFile messages fs → AllByRecursion FileFits (map (λ s. s.file) fs)
files_fit [] fs r = subst (λ gs. AllByRecursion FileFits (map (λ s. s.file) gs)) (sym r) tt
files_fit (part ∷ messages) fs r = subst (λ gs. AllByRecursion FileFits (map (λ s. s.file) gs)) (sym r.2) (file_fits part r.0 r.3, files_fit messages r.1 r.4)

current : (s : _) → IsTrue (is_current s) → said_file s.file ≡ s
current s is =
    let both = and_parts (nat_eq s.major 2) (nat_eq s.minor 1) is in
    let major : 2 ≡ s.major = sym (eqb-true s.major 2 both.0) in
    let minor : 1 ≡ s.minor = sym (eqb-true s.minor 1 both.1) in
    λ i. record { file = s.file; major = major i; minor = minor i }

files_same : (fs : List _) → All (λ s. IsTrue (is_current s)) fs → map said_file (map (λ s. s.file) fs) ≡ fs
files_same [] all = refl
files_same (s ∷ ss) all = λ i. current s (all 0 s (omega arith)) i ∷ files_same ss (λ k d below. all (suc k) d (omega (arith, below))) i

read_type : (kind : ℕ) → IsTrue (is_read_type kind) → kind ≡ 0
read_type kind h = absurd cc

deletion_same : (d : Option _) → IsTrue (type_fits d) → option_map said_deletion (option_map (λ e. e.deletion) d) ≡ d
deletion_same None h = refl
deletion_same (Some d) h = let kind : 0 ≡ d.kind = sym (read_type d.kind h) in λ i. Some (record { kind = kind i; deletion = d.deletion })

deletions_fit : (items : List Item) (d : Option _) → SaysDeletions items d → DeletionsFit (option_map (λ e. e.deletion) d)
deletions_fit items None p = tt
deletions_fit items (Some d) p =
    let part = p.part in
    let its = p.holds.items in
    let spelled = p.holds.reads.spelled in
    subst (λ e. DeletionFits e.deletion) (sym p.holds.said) (record { read_version = num_fits 2 part.base part.bytes its spelled; id = num_fits 3 part.base part.bytes its spelled; rows = num_fits 4 part.base part.bytes its spelled })

fragment_fits : (part : Placed) (f : _) → SaysFragment part f → f.id < 2 ^ 32 → f.rows < 2 ^ 31 → FragmentFits (fragment_of f)
fragment_fits part f p id rows = record {
  id = omega (arith, id);
  rows = omega (arith, rows);
  files = files_fit (parts_under 2 p.0.items) f.files p.0.said.files;
  deletion = deletions_fit p.0.items f.deletion p.0.said.deletion;
}

fragment_same : (part : Placed) (f : _) → SaysFragment part f → f.row_ids ≡ false → All (λ s. IsTrue (is_current s)) f.files → IsTrue (type_fits f.deletion) → said_fragment (fragment_of f) ≡ f
fragment_same part f p none now read =
    let files = files_same f.files now in
    let deletion = deletion_same f.deletion read in
    λ i. record { id = f.id; files = files i; deletion = deletion i; rows = f.rows; row_ids = sym none i }

fragments_fit : (messages : List Placed) (fs : List _) → ReadEach SaysFragment messages fs → HaveIds fs → All (λ f. (f.rows < 2 ^ 31) × IsTrue (deleted_fit f.rows f.deletion)) fs → AllByRecursion FragmentFits (map fragment_of fs)
fragments_fit [] fs r ids rows = subst (λ gs. AllByRecursion FragmentFits (map fragment_of gs)) (sym r) tt
fragments_fit (part ∷ messages) fs r ids rows =
    let own : HaveIds (r.0 ∷ r.1) = subst (λ gs. HaveIds gs) r.2 ids in
    let counts = subst (λ gs. All (λ f. (f.rows < 2 ^ 31) × IsTrue (deleted_fit f.rows f.deletion)) gs) r.2 rows in
    subst (λ gs. AllByRecursion FragmentFits (map fragment_of gs)) (sym r.2) (fragment_fits part r.0 r.3 own.0 (counts 0 r.0 (omega arith)).0, fragments_fit messages r.1 r.4 own.2 (λ k d below. counts (suc k) d (omega (arith, below))))

fragments_same : (messages : List Placed) (fs : List _) → ReadEach SaysFragment messages fs → All (λ f. f.row_ids ≡ false) fs → All (λ f. All (λ s. IsTrue (is_current s)) f.files) fs → All (λ f. IsTrue (type_fits f.deletion)) fs → map said_fragment (map fragment_of fs) ≡ fs
fragments_same [] fs r none now read = subst (λ gs. map said_fragment (map fragment_of gs) ≡ gs) (sym r) refl
fragments_same (part ∷ messages) fs r none now read =
    let a = subst (λ gs. All (λ f. f.row_ids ≡ false) gs) r.2 none in
    let b = subst (λ gs. All (λ f. All (λ s. IsTrue (is_current s)) f.files) gs) r.2 now in
    let c = subst (λ gs. All (λ f. IsTrue (type_fits f.deletion)) gs) r.2 read in
    let first = fragment_same part r.0 r.3 (a 0 r.0 (omega arith)) (b 0 r.0 (omega arith)) (c 0 r.0 (omega arith)) in
    let later = fragments_same messages r.1 r.4 (λ k d below. a (suc k) d (omega (arith, below))) (λ k d below. b (suc k) d (omega (arith, below))) (λ k d below. c (suc k) d (omega (arith, below))) in
    subst (λ gs. map said_fragment (map fragment_of gs) ≡ gs) (sym r.2) (λ i. first i ∷ later i)

small_or : (b : Bool) (n : ℕ) (wrong : WireFault) → nat_lt n (2 ^ 32) ≡ b → IfSome (result_ok (cond b (Ok n) (Err wrong))) (λ n. n < 2 ^ 32)
small_or true n wrong e = ltb-true n (2 ^ 32) e
small_or false n wrong e = tt

small_read : (item : Item) (r : Result ℕ WireFault) → IfSome (result_ok (then_read (λ n. cond (nat_lt n (2 ^ 32)) (Ok n) (Err (out_of_range item))) r)) (λ n. n < 2 ^ 32)
small_read item (Ok n) = small_or (nat_lt n (2 ^ 32)) n (out_of_range item) refl
small_read item (Err fault) = tt

maybe_small_fits : (o : Option Item) → IfSome (small_if o) (λ n. n < 2 ^ 32)
maybe_small_fits None = tt
maybe_small_fits (Some item) = small_read item (num_of item)

pub stands_sound : (object : Placed) (version : ℕ) (m : PlainManifest) → IsManifestObject object version m → IsSound m
unfolding KeepEach
stands_sound object version m o =
    let p = o.stands in
    let w = p.whole in
    let items = p.said.items in
    let each = p.keeps.each in
    let parts = parts_under 2 items in
    let read = p.said.said.fragments in
    let same : map said_fragment m.fragments ≡ w.fragments = ap (λ (fs : List Fragment). map said_fragment fs) p.fragments ∙ fragments_same parts w.fragments read each.0 each.1.1.1.1.0 each.1.1.1.1.1.0 in
    let keeps = subst (λ fs. KeepsRules version (shape_of (fields_from m.fields)) (record { fragments = fs; version = w.version; flags = w.flags; greatest = w.greatest })) (sym same) p.keeps in
    let t = read_fields o.message 1 (fields_from m.fields) p.fields in
    record {
      told = t.told;
      table = t.table;
      apart = t.apart;
      fit = subst (λ (fs : List Fragment). AllByRecursion FragmentFits fs) (sym p.fragments) (fragments_fit parts w.fragments read p.keeps.ids each.1.0);
      keeps = record {
        numbered = refl;
        flags = flag_known (has_deletions m);
        few = keeps.few;
        ids = keeps.ids;
        each = keeps.each;
      };
      greatest = subst (λ (g : Option ℕ). IfSome g (λ id. id < 2 ^ 32)) (sym (p.greatest ∙ p.said.said.greatest)) (maybe_small_fits (last_under 11 items));
    }
