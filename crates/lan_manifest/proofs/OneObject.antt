-- An object stands for one manifest of a version, and for none where a refusal stands.
use Rattle.std.proofs.Common.{◌≡◌, ℕ, Bool, true, false, List, [], ◌∷◌, Option, Some, None, map, refl, sym, ap, subst, ◌∙◌, arith, inl, inr}
use Rattle.std.specs.Prelude.{All, ◌≤◌, ◌<◌, length}
use Rattle.std.proofs.lemmas.Bool.{true≢false}
use Rattle.std.proofs.lemmas.List.Elements.{All-contains}
use Rattle.lan_bytes.specs.Placed.{Placed}
use Rattle.lan_model.specs.Plain.{PlainField, PlainFields, no_fields, one_field, fields_from}
use Rattle.lan_wire.specs.declared.item.Item.{Item}
use Rattle.lan_wire.specs.Rules.{open_to}
use Rattle.lan_wire.specs.Values.{parts_under, Under}
use Rattle.lan_wire.proofs.LawTerms.{one_reading as one_items, no_reading as no_items_read}
use Rattle.lan_wire.proofs.Nested.{reads_as_one, reads_or_fails, reads_not_fails, under_both, under_some, read_each_one, read_each_meets}
use Rattle.lan_schema.specs.FieldsOf.{FieldsOf}
use Rattle.lan_schema.proofs.LawTerms.{one_reading as one_fields, no_reading as no_fields_read}
use Rattle.lan_manifest.specs.declared.fault.ManifestFault.{ManifestFault}
use Rattle.lan_manifest.specs.declared.fault.ManifestFault.TheVariants.{TooShort, Magic, Region, Wire, Schema, VersionDiffers, UnknownFlag, Fragments, FragmentId, RowIds, Rows, Path, Lists, FileVersion, DeletionType, FieldTwice, PartField, Absent, Memory}
use Rattle.lan_manifest.specs.declared.keeping.FragmentRule.{FragmentRule}
use Rattle.lan_manifest.specs.declared.keeping.TheConstants.{FRAGMENT_RULES}
use Rattle.lan_manifest.specs.declared.manifest.Fragment.{Fragment}
use Rattle.lan_manifest.specs.declared.said.SaidFile.{SaidFile}
use Rattle.lan_manifest.specs.declared.said.SaidDeletion.{SaidDeletion}
use Rattle.lan_manifest.specs.declared.said.SaidFragment.{SaidFragment}
use Rattle.lan_manifest.specs.declared.said.SaidManifest.{SaidManifest}
use Rattle.lan_manifest.specs.declared.said.TheConstants.{MANIFEST, DATA_FRAGMENT, ROW_IDS, DATA_FILE, DELETION_FILE}
use Rattle.lan_manifest.specs.Frame.{IsFramed, FailsFrame}
use Rattle.lan_manifest.specs.FragmentRules.{Keeps, Breaks, KeepEach, BreakOne, has_id, HaveIds, BreaksId}
use Rattle.lan_manifest.specs.ManifestMessages.{file_said, SaysFile, FailsFile, SaysDeletion, FailsDeletion, SaysDeletions, SaysRowIds, FragmentSaid, SaysFragment, LacksInFragment, FailsFragment, ManifestSaid, SaysManifest, LacksFragment, FailsManifest}
use Rattle.lan_manifest.specs.ManifestObjects.{KeepsRules, BreaksRule, fragment_of, StandsForManifest, IsManifestObject, FailsFields, BreaksAtManifest, RefusesMessage, RefusesManifest}
use Rattle.lan_manifest.specs.Manifests.{PlainManifest}
use Rattle.lan_manifest.specs.SchemaLeaves.{LeafShape, shape_of}

-- ---- a message says one thing

one_file : (part : Placed) (f g : SaidFile) → SaysFile part f → SaysFile part g → f ≡ g
one_file part f g p q = reads_as_one (open_to DATA_FILE) _ part f g (λ items r a b. a ∙ sym b) p q

one_deletion : (part : Placed) (d e : SaidDeletion) → SaysDeletion part d → SaysDeletion part e → d ≡ e
one_deletion part d e p q = reads_as_one (open_to DELETION_FILE) _ part d e (λ items r a b. a ∙ sym b) p q

one_deletions : (items : List Item) (a b : Option SaidDeletion) → SaysDeletions items a → SaysDeletions items b → a ≡ b
one_deletions items None None p q = refl
one_deletions items None (Some d) p q = absurd (under_some 3 SaysDeletion items d q p)
one_deletions items (Some d) None p q = absurd (under_some 3 SaysDeletion items d p q)
one_deletions items (Some d) (Some e) p q = ap (λ (x : SaidDeletion). Some x) (under_both 3 SaysDeletion SaysDeletion items d e (λ part x y. one_deletion part d e x y) p q)

one_row_ids : (part : Placed) (a b : Bool) → SaysRowIds part a → SaysRowIds part b → a ≡ b
one_row_ids part true true p q = refl
one_row_ids part true false p q = absurd (no_items_read (open_to ROW_IDS) part q.0 p.0 q.1 p.1)
one_row_ids part false true p q = absurd (no_items_read (open_to ROW_IDS) part p.0 q.0 p.1 q.1)
one_row_ids part false false p q = refl

one_fragment : (part : Placed) (f g : SaidFragment) → SaysFragment part f → SaysFragment part g → f ≡ g
one_fragment part f g p q =
    let items = one_items (open_to DATA_FRAGMENT) part p.0.items q.0.items p.0.reads q.0.reads in
    let a : FragmentSaid q.0.items f = subst (λ (xs : List Item). FragmentSaid xs f) items p.0.said in
    let b = q.0.said in
    let id : f.id ≡ g.id = a.id ∙ sym b.id in
    let files : f.files ≡ g.files = read_each_one SaysFile one_file (parts_under 2 q.0.items) f.files g.files a.files b.files in
    let deletion : f.deletion ≡ g.deletion = one_deletions q.0.items f.deletion g.deletion a.deletion b.deletion in
    let rows : f.rows ≡ g.rows = a.rows ∙ sym b.rows in
    let row_ids : f.row_ids ≡ g.row_ids = one_row_ids part f.row_ids g.row_ids p.1 q.1 in
    λ i. record { id = id i; files = files i; deletion = deletion i; rows = rows i; row_ids = row_ids i }

one_said : (message : Placed) (m n : SaidManifest) → SaysManifest message m → SaysManifest message n → m ≡ n
one_said message m n p q =
    let items = one_items (open_to MANIFEST) message p.items q.items p.reads q.reads in
    let a : ManifestSaid q.items m = subst (λ (xs : List Item). ManifestSaid xs m) items p.said in
    let b = q.said in
    let fragments : m.fragments ≡ n.fragments = read_each_one SaysFragment one_fragment (parts_under 2 q.items) m.fragments n.fragments a.fragments b.fragments in
    let version : m.version ≡ n.version = a.version ∙ sym b.version in
    let flags : m.flags ≡ n.flags = a.flags ∙ sym b.flags in
    let greatest : m.greatest ≡ n.greatest = a.greatest ∙ sym b.greatest in
    λ i. record { fragments = fragments i; version = version i; flags = flags i; greatest = greatest i }

-- fields as a list
abbrev listed : PlainFields ℕ → List (PlainField ℕ)
listed no_fields = []
listed (one_field f fs) = f ∷ listed fs

listed_again : (fs : List (PlainField ℕ)) → listed (fields_from fs) ≡ fs
listed_again [] = refl
listed_again (f ∷ fs) = ap (λ (gs : List (PlainField ℕ)). f ∷ gs) (listed_again fs)

same_fields : (fs gs : List (PlainField ℕ)) → fields_from fs ≡ fields_from gs → fs ≡ gs
same_fields fs gs e = sym (listed_again fs) ∙ ap listed e ∙ listed_again gs

one_stands : (message : Placed) (version : ℕ) (m n : PlainManifest) → StandsForManifest message version m → StandsForManifest message version n → m ≡ n
one_stands message version m n p q =
    let whole = one_said message p.whole q.whole p.said q.said in
    let fields : m.fields ≡ n.fields = same_fields m.fields n.fields (one_fields message 1 (fields_from m.fields) (fields_from n.fields) p.fields q.fields) in
    let fragments : m.fragments ≡ n.fragments = p.fragments ∙ ap (λ (w : SaidManifest). map fragment_of w.fragments) whole ∙ sym q.fragments in
    let number : m.version ≡ n.version = p.numbered ∙ sym q.numbered in
    let greatest : m.greatest ≡ n.greatest = p.greatest ∙ ap (λ (w : SaidManifest). w.greatest) whole ∙ sym q.greatest in
    λ i. record { fields = fields i; fragments = fragments i; version = number i; greatest = greatest i }

-- an object stands for one manifest of a version
pub one_object : (object : Placed) (version : ℕ) (m n : PlainManifest) → IsManifestObject object version m → IsManifestObject object version n → m ≡ n
one_object object version m n p q = one_stands q.message version m n (subst (λ (message : Placed). StandsForManifest message version m) (p.framed.is ∙ sym q.framed.is) p.stands) q.stands

-- ---- where it does, no refusal stands

file_fails : (part : Placed) (f : SaidFile) (e : ManifestFault) → SaysFile part f → FailsFile part e → e ≡ Memory
file_fails part f e s w = reads_not_fails Wire (open_to DATA_FILE) (λ items g. g ≡ file_said items) (λ items x. x ≡ Memory) part f e (λ items r said lack. lack) s w

deletion_fails : (part : Placed) (d : SaidDeletion) (e : ManifestFault) → SaysDeletion part d → FailsDeletion part e → ⊥
deletion_fails part d e s w = reads_or_fails (open_to DELETION_FILE) _ part d w.0 s w.1

deletions_fail : (items : List Item) (d : Option SaidDeletion) (e : ManifestFault) → SaysDeletions items d → Under 3 FailsDeletion items e → ⊥
deletions_fail items None e p q = under_some 3 FailsDeletion items e q p
deletions_fail items (Some d) e p q = under_both 3 SaysDeletion FailsDeletion items d e (λ part x y. deletion_fails part d e x y) p q

fragment_fails : (part : Placed) (f : SaidFragment) (e : ManifestFault) → SaysFragment part f → FailsFragment part e → e ≡ Memory
fragment_fails part f e s w = reads_not_fails Wire (open_to DATA_FRAGMENT) FragmentSaid LacksInFragment part f e (λ items r said lack. elim lack [
  | inl x ↦ x
  | inr x ↦ elim x [
    | inl y ↦ read_each_meets SaysFile FailsFile e (λ p g a b. file_fails p g e a b) (parts_under 2 items) f.files said.files y
    | inr y ↦ absurd (deletions_fail items f.deletion e said.deletion y)
  ]
]) s.0 w

manifest_fails : (message : Placed) (m : SaidManifest) (e : ManifestFault) → SaysManifest message m → FailsManifest message e → e ≡ Memory
manifest_fails message m e s w = reads_not_fails Wire (open_to MANIFEST) ManifestSaid LacksFragment message m e (λ items r said lack. elim lack [
  | inl x ↦ x
  | inr x ↦ read_each_meets SaysFragment FailsFragment e (λ p g a b. fragment_fails p g e a b) (parts_under 2 items) m.fragments said.fragments x
]) s w

frame_fails : (object message : Placed) (e : ManifestFault) → IsFramed object message → FailsFrame object.bytes e → ⊥
frame_fails object message TooShort p w = omega (arith, p.long, w)
frame_fails object message Magic p w = w.1 p.mark
frame_fails object message Region p w = w.2 p.region
frame_fails object message _ p w = w

broken : (rules : List FragmentRule) (shape : LeafShape) (fs : List SaidFragment) (e : ManifestFault) → KeepEach rules shape fs → BreakOne rules shape fs e → ⊥
unfolding KeepEach BreakOne
broken [] shape fs e p w = w
broken (rule ∷ rules) shape fs e p w = elim w [
  | inl x ↦ x.breaks (All-contains (Keeps rule shape) fs x.fragment p.0 x.is_one)
  | inr x ↦ broken rules shape fs e p.1 x.1
]

ids_broken : (id : ℕ) (fs : List SaidFragment) → HaveIds fs → BreaksId id fs → ⊥
ids_broken id [] p w = w
ids_broken id (f ∷ fs) p w = elim w [
  | inl x ↦ elim x.1 [
    | inl large ↦ omega (arith, p.0, large, x.0)
    | inr again ↦ true≢false (sym again ∙ ap (has_id fs) (sym x.0) ∙ p.1)
  ]
  | inr x ↦ ids_broken id fs p.2 x
]

rules_broken : (version : ℕ) (shape : LeafShape) (said : SaidManifest) (e : ManifestFault) → KeepsRules version shape said → BreaksRule version shape said e → ⊥
rules_broken version shape said (VersionDiffers a b) p w = w.2 (w.1 ∙ p.numbered ∙ sym w.0)
rules_broken version shape said (UnknownFlag n) p w = w.2 (w.1 ∙ p.flags)
rules_broken version shape said Fragments p w = omega (arith, w.2, p.few)
rules_broken version shape said (FragmentId id) p w = ids_broken id said.fragments p.ids w.3
rules_broken version shape said _ p w = broken FRAGMENT_RULES shape said.fragments _ p.each w.4

fields_fail : (message : Placed) (fields : PlainFields ℕ) (e : ManifestFault) → FieldsOf message 1 fields → FailsFields message e → ⊥
fields_fail message fields e p w = no_fields_read message 1 w.0 fields w.2 w.1 p

rule_fails : (message : Placed) (version : ℕ) (m : PlainManifest) (e : ManifestFault) → StandsForManifest message version m → BreaksAtManifest message version e → ⊥
rule_fails message version m e p w =
    let whole = one_said message w.whole p.whole w.said p.said in
    let fields = one_fields message 1 w.fields (fields_from m.fields) w.has_fields p.fields in
    rules_broken version (shape_of (fields_from m.fields)) p.whole e p.keeps (subst (λ (x : SaidManifest). BreaksRule version (shape_of (fields_from m.fields)) x e) whole (subst (λ (fs : PlainFields ℕ). BreaksRule version (shape_of fs) w.whole e) fields w.breaks))

message_refused : (message : Placed) (version : ℕ) (m : PlainManifest) (e : ManifestFault) → StandsForManifest message version m → RefusesMessage message version e → e ≡ Memory
message_refused message version m e p w = elim w [
  | inl x ↦ x
  | inr y ↦ elim y [
    | inl x ↦ manifest_fails message p.whole e p.said x
    | inr z ↦ elim z [
      | inl x ↦ absurd (fields_fail message (fields_from m.fields) e p.fields x)
      | inr x ↦ absurd (rule_fails message version m e p x)
    ]
  ]
]

-- where an object stands for a manifest, only memory may want
pub object_refused : (object : Placed) (version : ℕ) (m : PlainManifest) (e : ManifestFault) → IsManifestObject object version m → RefusesManifest object version e → e ≡ Memory
object_refused object version m e p w = elim w [
  | inl x ↦ x
  | inr y ↦ elim y [
    | inl x ↦ absurd (frame_fails object p.message e p.framed x)
    | inr x ↦ message_refused p.message version m e p.stands (subst (λ (message : Placed). RefusesMessage message version e) (x.1.is ∙ sym p.framed.is) x.2)
  ]
]
