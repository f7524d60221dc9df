-- A version is opened as the object of its manifest is read, and where a reason stands in that there is no manifest.
use Rattle.std.proofs.Common.{◌≡◌, ◌≢◌, inl, inr, sym, ◌∙◌, ap, subst, refl, ℕ, zero, suc, ◌+◌, ◌-◌, ◌*◌, ◌≤◌, ◌^◌, false, true, nat_eq, List, [], ◌∷◌, length, map, arith}
use Rattle.std.specs.Prelude.{All, Contains, IfNone, IfSome, Option, Some, None, Result, Ok, Err, unwrap_or}
use Rattle.std.specs.List.{list_any}
use Rattle.std.proofs.lemmas.Bool.{eqb-true, or_cases, or_parts, true≢false}
use Rattle.std.proofs.lemmas.Bool.Decides.{eqb_tells}
use Rattle.std.proofs.lemmas.List.{length-map}
use Rattle.std.proofs.lemmas.List.Elements.{All-map}
use Rattle.std.proofs.lemmas.List.Sums.{sum_by-le}
use Rattle.lan_bytes.specs.Placed.{Placed}
use Rattle.lan_model.specs.Table.{Table}
use Rattle.lan_store.specs.declared.name.Name.{Name}
use Rattle.lan_store.specs.declared.name.Object.{Object}
use Rattle.lan_store.specs.Objects.{object}
use Rattle.lan_manifest.specs.ManifestObjects.{IsManifestObject, RefusesManifest, fragment_of}
use Rattle.lan_manifest.specs.FragmentRules.{KeepEach}
use Rattle.lan_manifest.specs.declared.manifest.Fragment.{Fragment}
use Rattle.lan_manifest.specs.Manifests.{PlainManifest, plain_manifest}
use Rattle.lan_manifest.specs.declared.fault.ManifestFault.{ManifestFault}
use Rattle.lan_manifest.specs.declared.fault.ManifestFault.TheVariants as fault
use Rattle.lan_manifest.specs.declared.manifest.Manifest.{Manifest}
use Rattle.lan_manifest.specs.Frame.{FailsFrame, IsFramed, place_in}
use Rattle.lan_manifest.specs.Versions.{IsVersion, manifest_name}
use Rattle.lan_manifest.proofs.LawTerms.{object_refused}
use Rattle.lan_read.specs.Opening.{IsAskedFor, fault_place, place_among, rows_in, ManifestReasonStands, Opens, OpensListed, ReadsBytes, RefusesListing, StandsInHeld}
use Rattle.lan_read.specs.Scanned.{deleted_in}
use Rattle.lan_read.specs.Snapshots.{IsSnapshot}
use Rattle.lan_read.specs.Tables.{HasManifest, StandsFor}
use Rattle.lan_read.specs.declared.read_fault.Reason.{Reason}
use Rattle.lan_read.specs.declared.read_fault.Reason.TheVariants as reason
use Rattle.lan_read.specs.declared.read_fault.ReadFault.{ReadFault}
use Rattle.lan_read.specs.declared.read_fault.ReadFault.TheVariants.{NoDataset, NoVersion, Outside, Store, Memory}

-- a manifest that an object stands for is opened
pub snapshot_of : (object : Placed) (version : ℕ) (m : PlainManifest) → IsVersion version → IsManifestObject object version m → IsSnapshot m
snapshot_of object version m is_version is =
    let numbered : m.version ≡ version = is.stands.numbered in
    record {
      is_version = subst IsVersion (sym numbered) is_version;
      object = object;
      stands = subst (λ (v : ℕ). IsManifestObject object v m) (sym numbered) is;
    }

-- the object of the manifest's name that is held is read
pub opens_bytes : (all : List Object) (version : ℕ) (name : Name) (bytes : List ℕ) (result : Result Manifest ReadFault) → IsVersion version → name ≡ manifest_name version → object all name ≡ Some bytes → length bytes ≤ 2 ^ 30 → ReadsBytes version name bytes result
    → OpensListed all version result
opens_bytes all version name bytes (Ok m) is_version named held size reads =
    (reads.stands.numbered, record { is_version = is_version; held = record { bytes = bytes; held = ap (object all) (sym named) ∙ held; size = size; says = reads } })
opens_bytes all version name bytes (Err (Outside other why place)) is_version named held size (same, stands) =
    let here : object all other ≡ Some bytes = ap (object all) same ∙ held in
    record { named = same ∙ named; stands = subst (λ (h : Option (List ℕ)). StandsInHeld h version why place) (sym here) stands }
opens_bytes all version name bytes (Err Memory) is_version named held size reads = tt
opens_bytes all version name bytes (Err NoDataset) is_version named held size reads = absurd reads
opens_bytes all version name bytes (Err (NoVersion asked newest)) is_version named held size reads = absurd reads
opens_bytes all version name bytes (Err (Store other)) is_version named held size reads = absurd reads

-- a version is opened where it is the one that is asked for
pub opens_asked : (all : List Object) (asked : Option ℕ) (version : ℕ) (result : Result Manifest ReadFault) → IsAskedFor all asked version → OpensListed all version result → Opens all asked result
opens_asked all asked version (Ok m) is (numbered, has) = (subst (IsAskedFor all asked) (sym numbered) is, subst (λ (v : ℕ). HasManifest all v (plain_manifest m)) (sym numbered) has)
opens_asked all asked version (Err (Outside name why place)) is opens = (version, is, opens)
opens_asked all asked version (Err (Store name)) is opens = tt
opens_asked all asked version (Err Memory) is opens = tt
opens_asked all asked version (Err NoDataset) is opens = absurd opens
opens_asked all asked version (Err (NoVersion other newest)) is opens = absurd opens

-- ---- which version is asked for

pub lacks : (xs : List ℕ) (x : ℕ) → list_any (λ y. nat_eq y x) xs ≡ false → Contains xs x → ⊥
lacks [] x none (k, below, is) = absurd (omega (arith, below))
lacks (y ∷ ys) x none (zero, below, is) =
    let (here, later) = or_parts (nat_eq y x) (list_any (λ z. nat_eq z x) ys) none in
    elim (eqb_tells y x) [ inl (test, same) ↦ true≢false (sym test ∙ here) | inr (test, other) ↦ other is ]
lacks (y ∷ ys) x none (suc k, below, is) = lacks ys x (or_parts (nat_eq y x) (list_any (λ z. nat_eq z x) ys) none).1 (k, omega (arith, below), is)

pub has_it : (xs : List ℕ) (x : ℕ) → list_any (λ y. nat_eq y x) xs ≡ true → Contains xs x
has_it [] x some = absurd (cc some)
has_it (y ∷ ys) x some = elim (or_cases (nat_eq y x) (list_any (λ z. nat_eq z x) ys) some) [
  | inl here ↦ (0, omega arith, eqb-true y x here)
  | inr later ↦
      let (k, below, is) = has_it ys x later in
      (suc k, omega (arith, below), is)
]

-- ---- how many rows there are

pub few_rows : (m : PlainManifest) → IsSnapshot m → rows_in m.fragments ≤ 65536 * 2 ^ 31
unfolding KeepEach
few_rows m is =
    let said = is.stands.stands.whole.fragments in
    let keep = is.stands.stands.keeps.each in
    let are : m.fragments ≡ map fragment_of said = is.stands.stands.fragments in
    let live : Fragment → ℕ = λ f. f.rows - deleted_in f.deletion in
    let each : All (λ (f : Fragment). live f ≤ 2 ^ 31) (map fragment_of said) = All-map (λ (f : Fragment). live f ≤ 2 ^ 31) fragment_of said (λ k d below. omega (arith, (keep.1.0 k d below).0)) in
    let most = sum_by-le live (2 ^ 31) m.fragments (subst (All (λ (f : Fragment). live f ≤ 2 ^ 31)) (sym are) each) in
    let few : length m.fragments ≤ 65536 = omega (arith, ap length are, length-map said fragment_of, is.stands.stands.keeps.few) in
    omega (arith, most, few)

-- ---- where a fault lies

-- what stands in the frame lies apart from the message
apart : (bytes : List ℕ) (why : ManifestFault) (size m n : ℕ) → FailsFrame bytes why → place_among size m why ≡ place_among size n why
apart bytes fault.TooShort size m n fails = refl
apart bytes fault.Magic size m n fails = refl
apart bytes fault.Region size m n fails = refl
apart bytes _ size m n fails = absurd fails

pub placed_fault : (object : Placed) (version : ℕ) (why : ManifestFault) (found : Option ℕ) → object.base ≡ 0 → IfSome found (λ place. place ≡ object.base + (place_in object.bytes + 4)) → IfNone found ((message : Placed) → IsFramed object message → ⊥) → why ≢ fault.Memory
    → RefusesManifest object version why → place_among (length object.bytes) (unwrap_or found 0) why ≡ fault_place object.bytes why
placed_fault object version why found front some none no_want refuses = elim refuses [
  | inl want ↦ absurd (no_want want)
  | inr there ↦ elim there [
    | inl fails ↦ apart object.bytes why (length object.bytes) (unwrap_or found 0) (place_in object.bytes + 4) fails
    | inr (message, framed, refused) ↦ ap (λ (n : ℕ). place_among (length object.bytes) n why) (at found some none message framed)
  ]
] where
  at : (o : Option ℕ) → IfSome o (λ place. place ≡ object.base + (place_in object.bytes + 4)) → IfNone o ((message : Placed) → IsFramed object message → ⊥) → (message : Placed) → IsFramed object message → unwrap_or o 0 ≡ place_in object.bytes + 4
  at None some none message framed = absurd (none message framed)
  at (Some place) some none message framed = omega (arith, some, front)

-- ---- where a reason stands there is no manifest

none_held : (bytes : List ℕ) (version : ℕ) (why : Reason) (place : ℕ) (m : PlainManifest) → length bytes ≤ 2 ^ 30 → IsManifestObject (record { base = 0; bytes = bytes }) version m → StandsInHeld (Some bytes) version why place → ⊥
none_held bytes version reason.Missing place m small is stands = let none = stands.0 in absurd (cc none)
none_held bytes version reason.Size place m small is stands = omega (arith, small, stands.0)
none_held bytes version (reason.Manifest why) place m small is stands = stands.no_want (object_refused (record { base = 0; bytes = bytes }) version m why is stands.refuses)
none_held bytes version _ place m small is stands = stands

pub manifest_or_reason : (objects : List Object) (version : ℕ) (name : Name) (why : Reason) (place : ℕ) (m : PlainManifest) → ManifestReasonStands objects version name why place → HasManifest objects version m → ⊥
manifest_or_reason objects version name why place m reason has =
    let held : object objects name ≡ Some has.held.bytes = ap (object objects) reason.named ∙ has.held.held in
    none_held has.held.bytes version why place m has.held.size has.held.says (subst (λ (h : Option (List ℕ)). StandsInHeld h version why place) held reason.stands)

pub table_or_reason : (objects : List Object) (version : ℕ) (name : Name) (why : Reason) (place : ℕ) (t : Table) → ManifestReasonStands objects version name why place → StandsFor objects version t → ⊥
table_or_reason objects version name why place t reason stands = manifest_or_reason objects version name why place stands.manifest reason stands.has

-- why no versions are listed is why none is opened
pub unlisted : (all : List Object) (asked : Option ℕ) (fault : ReadFault) → RefusesListing all fault → Opens all asked (Err fault)
unlisted all asked NoDataset refuses = refuses
unlisted all asked (NoVersion version newest) refuses = absurd refuses
unlisted all asked (Outside name why place) refuses = absurd refuses
unlisted all asked (Store name) refuses = tt
unlisted all asked Memory refuses = tt
