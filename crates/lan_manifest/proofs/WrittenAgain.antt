-- What an object stands for is written as an object that stands for it.
use Rattle.std.proofs.Common.{◌≡◌, ℕ, zero, suc, ◌+◌, ◌^◌, ◌<◌, ◌≤◌, Bool, true, false, cond, List, [], ◌∷◌, ◌++◌, length, map, Option, Some, None, Result, Ok, Err, refl, sym, ap, subst, ◌∙◌, length-append, arith}
use Rattle.std.specs.Prelude.{◌&&◌, nat_eq, nat_lt, negsuc, flat_map, option_map, All, IsTrue, IfSome}
use Rattle.std.specs.List.{AllByRecursion}
use Rattle.std.specs.Result.{result_ok}
use Rattle.std.proofs.lemmas.Bool.{eqb-true, ltb-true}
use Rattle.lan_bytes.specs.Placed.{Placed}
use Rattle.lan_model.specs.Plain.{fields_from}
use Rattle.lan_wire.specs.declared.item.Item.{Item}
use Rattle.lan_wire.specs.declared.item.WireFault.{WireFault}
use Rattle.lan_wire.specs.Messages.{ReadEach}
use Rattle.lan_wire.specs.Readers.{then_read, out_of_range, num_of}
use Rattle.lan_wire.specs.Spelling.{part_item, num_field}
use Rattle.lan_wire.specs.Values.{last_under, small_if, parts_under}
use Rattle.lan_wire.specs.Written.{flag_number}
use Rattle.lan_wire.proofs.LawTerms.{num_fits, text_fits, signeds_fit}
use Rattle.lan_schema.specs.FieldTree.{all_messages}
use Rattle.lan_schema.proofs.LawTerms.{read_fields}
use Rattle.lan_manifest.specs.declared.keeping.FragmentRule.TheVariants.{RowIds, Rows, FileVersion, DeletionType}
use Rattle.lan_manifest.specs.declared.keeping.TheConstants.{FRAGMENT_RULES}
use Rattle.lan_manifest.specs.declared.manifest.Fragment.{Fragment}
use Rattle.lan_manifest.specs.declared.said.SaidFile.{SaidFile}
use Rattle.lan_manifest.specs.declared.said.SaidDeletion.{SaidDeletion}
use Rattle.lan_manifest.specs.declared.said.SaidFragment.{SaidFragment}
use Rattle.lan_manifest.specs.FragmentRules.{is_current, type_fits, Keeps, KeepEach, HaveIds}
use Rattle.lan_manifest.specs.ManifestMessages.{SaysFile, SaysDeletions, SaysFragment}
use Rattle.lan_manifest.specs.ManifestObjects.{KeepsRules, fragment_of, IsManifestObject}
use Rattle.lan_manifest.specs.Manifests.{PlainManifest, fragment_text, greatest_text, has_deletions, manifest_text, framed}
use Rattle.lan_manifest.specs.SchemaLeaves.{LeafShape, shape_of}
use Rattle.lan_manifest.specs.Stage.{is_read_type}
use Rattle.lan_manifest.proofs.ObjectBack.{said_file, FileFits, said_deletion, DeletionFits, DeletionsFit, said_fragment, FragmentFits, flag_known, said_manifest, ManifestFits, object_back, fragments_again}

by_recursion : {X : Type 0} (P : X → Type 0) (xs : List X) → All P xs → AllByRecursion P xs
by_recursion {X} P [] all = tt
by_recursion {X} P (x ∷ xs) all = (all 0 x (omega arith), by_recursion P xs (λ k d below. all (suc k) d (omega (arith, below))))

-- ---- files

file_fits : (part : Placed) (s : SaidFile) → SaysFile part s → FileFits s.file
file_fits part s p = subst (λ (t : SaidFile). FileFits t.file) (sym p.said) (record { path = text_fits 1 p.items; ids = signeds_fit 2 p.items; columns = signeds_fit 3 p.items })

files_fit : (messages : List Placed) (fs : List SaidFile) → ReadEach SaysFile messages fs → AllByRecursion FileFits (map (λ (s : SaidFile). s.file) fs)
files_fit [] fs r = subst (λ (gs : List SaidFile). AllByRecursion FileFits (map (λ (s : SaidFile). s.file) gs)) (sym r) tt
files_fit (part ∷ messages) fs r = subst (λ (gs : List SaidFile). AllByRecursion FileFits (map (λ (s : SaidFile). s.file) gs)) (sym r.2) (file_fits part r.0 r.3, files_fit messages r.1 r.4)

both_true : (a b : Bool) → (a && b) ≡ true → (a ≡ true) × (b ≡ true)
both_true true b e = (refl, e)
both_true false b e = absurd cc

current : (s : SaidFile) → IsTrue (is_current s) → said_file s.file ≡ s
current s is =
    let both = both_true (nat_eq s.major 2) (nat_eq s.minor 1) is in
    let major : 2 ≡ s.major = sym (eqb-true s.major 2 both.0) in
    let minor : 1 ≡ s.minor = sym (eqb-true s.minor 1 both.1) in
    λ i. record { file = s.file; major = major i; minor = minor i }

files_same : (fs : List SaidFile) → AllByRecursion (λ s. IsTrue (is_current s)) fs → map said_file (map (λ (s : SaidFile). s.file) fs) ≡ fs
files_same [] all = refl
files_same (s ∷ ss) all = λ i. current s all.0 i ∷ files_same ss all.1 i

-- ---- fragments

-- what the rules say of a fragment that its message needn't
record Kept (f : SaidFragment) : Type 0 where
  id : f.id < 2 ^ 32
  rows : f.rows < 2 ^ 31
  no_row_ids : f.row_ids ≡ false
  current : All (λ s. IsTrue (is_current s)) f.files
  read : IsTrue (type_fits f.deletion)

-- a deletion file that is read has type 0
read_type : (kind : ℕ) → IsTrue (is_read_type kind) → kind ≡ 0
read_type kind h = absurd cc

deletion_same : (d : Option SaidDeletion) → IsTrue (type_fits d) → option_map said_deletion (option_map (λ (e : SaidDeletion). e.deletion) d) ≡ d
deletion_same None h = refl
deletion_same (Some d) h = let kind : 0 ≡ d.kind = sym (read_type d.kind h) in λ i. Some (record { kind = kind i; deletion = d.deletion })

deletions_fit : (items : List Item) (d : Option SaidDeletion) → SaysDeletions items d → DeletionsFit (option_map (λ (e : SaidDeletion). e.deletion) d)
deletions_fit items None p = tt
deletions_fit items (Some d) p =
    let part = p.part in
    let its = p.holds.items in
    let spelled = p.holds.reads.spelled in
    subst (λ (e : SaidDeletion). DeletionFits e.deletion) (sym p.holds.said) (record { read_version = num_fits 2 part.base part.bytes its spelled; id = num_fits 3 part.base part.bytes its spelled; rows = num_fits 4 part.base part.bytes its spelled })

fragment_fits : (part : Placed) (f : SaidFragment) → SaysFragment part f → Kept f → FragmentFits (fragment_of f)
fragment_fits part f p k = record {
  id = omega (arith, k.id);
  rows = omega (arith, k.rows);
  files = files_fit (parts_under 2 p.0.items) f.files p.0.said.files;
  deletion = deletions_fit p.0.items f.deletion p.0.said.deletion;
}

fragment_same : (f : SaidFragment) → Kept f → said_fragment (fragment_of f) ≡ f
fragment_same f k =
    let files = files_same f.files (by_recursion (λ s. IsTrue (is_current s)) f.files k.current) in
    let deletion = deletion_same f.deletion k.read in
    let row_ids : false ≡ f.row_ids = sym k.no_row_ids in
    λ i. record { id = f.id; files = files i; deletion = deletion i; rows = f.rows; row_ids = row_ids i }

fragments_fit : (messages : List Placed) (fs : List SaidFragment) → ReadEach SaysFragment messages fs → AllByRecursion Kept fs → AllByRecursion FragmentFits (map fragment_of fs)
fragments_fit [] fs r kept = subst (λ (gs : List SaidFragment). AllByRecursion FragmentFits (map fragment_of gs)) (sym r) tt
fragments_fit (part ∷ messages) fs r kept =
    let k : AllByRecursion Kept (r.0 ∷ r.1) = subst (λ (gs : List SaidFragment). AllByRecursion Kept gs) r.2 kept in
    subst (λ (gs : List SaidFragment). AllByRecursion FragmentFits (map fragment_of gs)) (sym r.2) (fragment_fits part r.0 r.3 k.0, fragments_fit messages r.1 r.4 k.1)

fragments_same : (fs : List SaidFragment) → AllByRecursion Kept fs → map said_fragment (map fragment_of fs) ≡ fs
fragments_same [] kept = refl
fragments_same (f ∷ fs) kept = λ i. fragment_same f kept.0 i ∷ fragments_same fs kept.1 i

kept_from : (shape : LeafShape) (fs : List SaidFragment) → HaveIds fs → All (Keeps RowIds shape) fs → All (Keeps Rows shape) fs → All (Keeps FileVersion shape) fs → All (Keeps DeletionType shape) fs → AllByRecursion Kept fs
kept_from shape [] ids a b c d = tt
kept_from shape (f ∷ fs) ids a b c d = (
  record { id = ids.0; rows = (b 0 f (omega arith)).0; no_row_ids = a 0 f (omega arith); current = c 0 f (omega arith); read = d 0 f (omega arith) },
  kept_from shape fs ids.2 (λ k e below. a (suc k) e (omega (arith, below))) (λ k e below. b (suc k) e (omega (arith, below))) (λ k e below. c (suc k) e (omega (arith, below))) (λ k e below. d (suc k) e (omega (arith, below))),
)

kept_all : (shape : LeafShape) (fs : List SaidFragment) → HaveIds fs → KeepEach FRAGMENT_RULES shape fs → AllByRecursion Kept fs
unfolding KeepEach
kept_all shape fs ids k = kept_from shape fs ids k.0 k.1.0 k.1.1.1.1.0 k.1.1.1.1.1.0

-- ---- the whole

small_or : (b : Bool) (n : ℕ) (wrong : WireFault) → nat_lt n (2 ^ 32) ≡ b → IfSome (result_ok (cond b (Ok n) (Err wrong))) (λ n. n < 2 ^ 32)
small_or true n wrong e = ltb-true n (2 ^ 32) e
small_or false n wrong e = tt

small_read : (item : Item) (r : Result ℕ WireFault) → IfSome (result_ok (then_read (λ n. cond (nat_lt n (2 ^ 32)) (Ok n) (Err (out_of_range item))) r)) (λ n. n < 2 ^ 32)
small_read item (Ok n) = small_or (nat_lt n (2 ^ 32)) n (out_of_range item) refl
small_read item (Err fault) = tt

maybe_small_fits : (o : Option Item) → IfSome (small_if o) (λ n. n < 2 ^ 32)
maybe_small_fits None = tt
maybe_small_fits (Some item) = small_read item (num_of item)

pub front_short : (m : PlainManifest) → length (all_messages 1 (negsuc 0) (fields_from m.fields)) ≤ length (manifest_text m)
unfolding manifest_text
front_short m =
    let flag = flag_number (has_deletions m) in
    let rest = flat_map (λ f. part_item 2 (fragment_text f)) m.fragments ++ (num_field 3 m.version ++ (num_field 9 flag ++ (num_field 10 flag ++ greatest_text m.greatest))) in
    omega (arith, length-append (all_messages 1 (negsuc 0) (fields_from m.fields)) rest)

pub written_again : (object : Placed) (version at : ℕ) (m : PlainManifest) → IsManifestObject object version m → length (manifest_text m) < 2 ^ 32 → IsManifestObject (record { base = at; bytes = framed (manifest_text m) }) version m
written_again object version at m o small =
    let p = o.stands in
    let w = p.whole in
    let items = p.said.items in
    let shape = shape_of (fields_from m.fields) in
    let kept = kept_all shape w.fragments p.keeps.ids p.keeps.each in
    let fit : AllByRecursion FragmentFits m.fragments =
    subst (λ (fs : List Fragment). AllByRecursion FragmentFits fs) (sym p.fragments) (fragments_fit (parts_under 2 items) w.fragments p.said.said.fragments kept) in
    let same : map said_fragment m.fragments ≡ w.fragments = ap (λ (fs : List Fragment). map said_fragment fs) p.fragments ∙ fragments_same w.fragments kept in
    let t = read_fields o.message 1 (fields_from m.fields) p.fields in
    let keeps : KeepsRules version shape (said_manifest m) = record {
      numbered = p.numbered;
      flags = flag_known (has_deletions m);
      few = subst (λ (fs : List SaidFragment). length fs ≤ 65536) (sym same) p.keeps.few;
      ids = subst (λ (fs : List SaidFragment). HaveIds fs) (sym same) p.keeps.ids;
      each = subst (λ (fs : List SaidFragment). KeepEach FRAGMENT_RULES shape fs) (sym same) p.keeps.each;
    } in
    let fits : ManifestFits m = record {
      fields = record { low = omega arith; up = omega arith; fits = omega (arith, small, front_short m); told = t.told; table = t.table; apart = t.apart };
      fragments = fit;
      version = omega (arith, p.numbered, p.keeps.numbered, p.said.said.version, num_fits 3 o.message.base o.message.bytes items p.said.reads.spelled);
      greatest = subst (λ (g : Option ℕ). IfSome g (λ id. id < 2 ^ 32)) (sym (p.greatest ∙ p.said.said.greatest)) (maybe_small_fits (last_under 11 items));
      short = small;
    } in
    object_back at version m fits p.numbered keeps (fragments_again m.fragments)
