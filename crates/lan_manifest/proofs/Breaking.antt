-- A rule of fragments that is broken is one of the manifest's.
use Rattle.std.proofs.Common.{◌≡◌, ℕ, ◌≤◌, Bool, true, false, List, [], ◌∷◌, length, refl, sym, ap, ◌∙◌, inl, inr}
use Rattle.std.proofs.lemmas.Bool.{true≢false}
use Rattle.lan_manifest.specs.declared.fault.ManifestFault.{ManifestFault}
use Rattle.lan_manifest.specs.declared.fault.ManifestFault.TheVariants as fault
use Rattle.lan_manifest.specs.declared.keeping.FragmentRule.{FragmentRule}
use Rattle.lan_manifest.specs.declared.keeping.FragmentRule.TheVariants.{RowIds, Rows, Path, Lists, FileVersion, DeletionType, FieldTwice, PartField, Absent}
use Rattle.lan_manifest.specs.declared.keeping.TheConstants.{FRAGMENT_RULES}
use Rattle.lan_manifest.specs.declared.said.SaidFragment.{SaidFragment}
use Rattle.lan_manifest.specs.declared.said.SaidManifest.{SaidManifest}
use Rattle.lan_manifest.specs.FragmentRules.{fault_of, BreakOne, HaveIds}
use Rattle.lan_manifest.specs.ManifestObjects.{unknown_flags, BreaksRule}
use Rattle.lan_manifest.specs.SchemaLeaves.{LeafShape}

-- whether a fault is that of a rule of fragments
abbrev is_of_fragment : ManifestFault → Bool
is_of_fragment (fault.RowIds n) = true
is_of_fragment (fault.Rows n) = true
is_of_fragment (fault.Path n) = true
is_of_fragment (fault.Lists n) = true
is_of_fragment (fault.FileVersion n) = true
is_of_fragment (fault.DeletionType n) = true
is_of_fragment (fault.FieldTwice n) = true
is_of_fragment (fault.PartField n) = true
is_of_fragment (fault.Absent n) = true
is_of_fragment _ = false

of_fragment : (rule : FragmentRule) (f : SaidFragment) → is_of_fragment (fault_of rule f) ≡ true
of_fragment RowIds f = refl
of_fragment Rows f = refl
of_fragment Path f = refl
of_fragment Lists f = refl
of_fragment FileVersion f = refl
of_fragment DeletionType f = refl
of_fragment FieldTwice f = refl
of_fragment PartField f = refl
of_fragment Absent f = refl

broken_by_one : (rules : List FragmentRule) (shape : LeafShape) (fs : List SaidFragment) (e : ManifestFault) → BreakOne rules shape fs e → is_of_fragment e ≡ true
unfolding BreakOne
broken_by_one [] shape fs e w = absurd w
broken_by_one (rule ∷ rules) shape fs e w = elim w [
  | inl b ↦ ap is_of_fragment b.named ∙ of_fragment rule b.fragment
  | inr b ↦ broken_by_one rules shape fs e b.1
]

pub rule_breaks : (version : ℕ) (shape : LeafShape) (said : SaidManifest) (e : ManifestFault) → said.version ≡ version → unknown_flags said.flags ≡ 0 → length said.fragments ≤ 65536 → HaveIds said.fragments → BreakOne FRAGMENT_RULES shape said.fragments e → BreaksRule version shape said e
rule_breaks version shape said (fault.VersionDiffers a b) v flags few ids w = absurd (true≢false (sym (broken_by_one FRAGMENT_RULES shape said.fragments (fault.VersionDiffers a b) w)))
rule_breaks version shape said (fault.UnknownFlag n) v flags few ids w = absurd (true≢false (sym (broken_by_one FRAGMENT_RULES shape said.fragments (fault.UnknownFlag n) w)))
rule_breaks version shape said fault.Fragments v flags few ids w = absurd (true≢false (sym (broken_by_one FRAGMENT_RULES shape said.fragments fault.Fragments w)))
rule_breaks version shape said (fault.FragmentId n) v flags few ids w = absurd (true≢false (sym (broken_by_one FRAGMENT_RULES shape said.fragments (fault.FragmentId n) w)))
rule_breaks version shape said _ v flags few ids w = (v, flags, few, ids, w)
