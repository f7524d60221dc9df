-- The members of a struct are taken one after another, or no struct has these slots.
use Rattle.std.proofs.Common.{◌≡◌, ◌≢◌, ℕ, suc, ◌+◌, ◌⊎◌, inl, inr, Bool, true, false, true≢false, List, ◌∷◌, ◌++◌, refl, ap, sym, ◌∙◌}
use Rattle.lan_model.specs.declared.tree.Layer.{Layer}
use Rattle.lan_model.specs.declared.tree.Layer.TheVariants as layer
use Rattle.lan_model.specs.Plain.{PlainType, text, struct, PlainField, field, PlainFields, no_fields, one_field, PlainValue, null, bits, raw, items, group, PlainValues, no_values, one_value}
use Rattle.lan_model.specs.Fits.{Fits, EachFits}
use Rattle.lan_model.specs.Table.{IsField}
use Rattle.lan_levels.specs.declared.slot.State.TheVariants as state
use Rattle.lan_levels.specs.declared.join.Join.{Join}
use Rattle.lan_levels.specs.declared.join.Join.TheVariants as join
use Rattle.lan_levels.specs.PlainSlots.{PlainSlot}
use Rattle.lan_levels.specs.SlotsOf.{slots_of, at_place}
use Rattle.lan_levels.specs.EachLeaf.{leaf_count, leaf_count_of, EachLeaf, EachLeafOf, SomeLeafOf, AreClosed, first_depth_of}
use Rattle.lan_levels.specs.Loosened.{loosened, all_loosened}
use Rattle.lan_levels.specs.BadSlots.{SomeHasBadNull, IsBadText}
use Rattle.lan_levels.specs.Taken.{Keeps, Took, NoneBegins, NoneBeginsWith, Refused, BeginsIn, first_rep, TookEach, EachRefused}
use Rattle.lan_levels.proofs.Heads.{after, at_after}
use Rattle.lan_levels.proofs.EachLeaf.{EachLeaf-map, EachLeafOf-map, EachLeafOf-all, SomeLeaf-map, SomeLeafOf-map}
use Rattle.lan_levels.proofs.TakenBare.{Keeps-none, Keeps-both, first_says}
use Rattle.lan_levels.proofs.Chosen.{true_or_not, closed_head}
use Rattle.lan_levels.proofs.NullPlaces.{null_after}

pub each_fits : (fs : PlainFields ℕ) (k i : ℕ) (old new : ℕ → List PlainSlot) (vs : PlainValues) → TookEach fs k i old new vs → EachFits fs vs
each_fits no_fields k i old new no_values h = tt
each_fits no_fields k i old new (one_value v vs) h = absurd h
each_fits (one_field f fs) k i old new no_values h = absurd h
each_fits (one_field f fs) k i old new (one_value v vs) h = (h.1.fits, each_fits fs k (i + leaf_count f) h.0 new vs h.2)

pub each_keeps : (fs : PlainFields ℕ) (k i : ℕ) (old new : ℕ → List PlainSlot) (vs : PlainValues) → TookEach fs k i old new vs → Keeps i (i + leaf_count_of fs) old new
each_keeps no_fields k i old new no_values h = Keeps-none i (i + 0) old new h
each_keeps no_fields k i old new (one_value v vs) h = absurd h
each_keeps (one_field f fs) k i old new no_values h = absurd h
each_keeps (one_field f fs) k i old new (one_value v vs) h =
    Keeps-both i (leaf_count f) (leaf_count_of fs) old h.0 new h.1.keeps (each_keeps fs k (i + leaf_count f) h.0 new vs h.2)

-- the slots of the members of a struct
abbrev GroupAt : ℕ → PlainValues → (ℕ → List PlainSlot) → (ℕ → List PlainSlot) → ℕ → ℕ → PlainType ℕ → List Layer → Type 0
GroupAt k whole old new d j ty path = old j ≡ slots_of ty path (first_rep k path) (group whole) ++ new j

each_taken : (fs : PlainFields ℕ) (n : Bool) (m k i : ℕ) (old new : ℕ → List PlainSlot) (vs whole : PlainValues) → after m whole ≡ vs → TookEach fs k i old new vs
    → EachLeafOf fs n m i (GroupAt k whole old new)
each_taken no_fields n m k i old new vs whole e h = tt
each_taken (one_field f fs) n m k i old new no_values whole e h = absurd h
each_taken (one_field f fs) n m k i old new (one_value v vs) whole e h =
    let (here, next) = at_after m whole v vs e in
    let now = h.0 in
    let keeps = each_keeps fs k (i + leaf_count f) now new vs h.2 in (
      EachLeaf-map f i (λ d j ty path. old j ≡ slots_of ty path (first_rep k path) v ++ now j) (λ d j ty path. GroupAt k whole old new d j ty (layer.Struct n m ∷ path))
          (λ d j ty path a b some x.
          x
          ∙ ap (λ (y : PlainValue). slots_of ty path (first_rep k path) y ++ now j) (sym here)
          ∙ ap (λ (s : List PlainSlot). slots_of ty path (first_rep k path) (at_place m whole) ++ s) (sym (keeps.before j b)))
          h.1.taken,
      EachLeafOf-map fs n (suc m) (i + leaf_count f) (GroupAt k whole now new) (GroupAt k whole old new) (λ d j ty path a b some x. sym (h.1.keeps.after j a) ∙ x)
          (each_taken fs n (suc m) k (i + leaf_count f) now new vs whole next h.2),
    )

-- the first member begins there
first_begins : (f : PlainField ℕ) (n : Bool) (m k i : ℕ) (chosen : ℕ → Bool) (old : ℕ → List PlainSlot) (u : PlainValue) (whole : PlainValues) (rest : PlainType ℕ → List Layer → List PlainSlot)
    → at_place m whole ≡ u → EachLeaf f i (λ d j ty path. BeginsIn chosen k (group whole) old rest d j ty (layer.Struct n m ∷ path))
    → EachLeaf f i (BeginsIn chosen k u old (λ ty path. rest ty (layer.Struct n m ∷ path)))
first_begins f n m k i chosen old u whole rest e h =
    EachLeaf-map f i (λ d j ty path. BeginsIn chosen k (group whole) old rest d j ty (layer.Struct n m ∷ path)) (BeginsIn chosen k u old (λ ty path. rest ty (layer.Struct n m ∷ path)))
    (λ d j ty path a b some x lt. ((x lt).0 ∙ ap (λ (y : PlainValue). slots_of ty path (first_rep k path) y ++ rest ty (layer.Struct n m ∷ path)) e, (x lt).1)) h

-- the members after it begin after it is taken
more_begin : (fs : PlainFields ℕ) (n : Bool) (m k i past : ℕ) (chosen : ℕ → Bool) (old now : ℕ → List PlainSlot) (whole : PlainValues) (rest : PlainType ℕ → List Layer → List PlainSlot)
    → Keeps i past old now → EachLeafOf fs n m past (BeginsIn chosen k (group whole) old rest) → EachLeafOf fs n m past (BeginsIn chosen k (group whole) now rest)
more_begin fs n m k i past chosen old now whole rest keeps h =
    EachLeafOf-map fs n m past (BeginsIn chosen k (group whole) old rest) (BeginsIn chosen k (group whole) now rest)
    (λ d j ty path a b some x lt. (keeps.after j a ∙ (x lt).0, (x lt).1)) h

abbrev LeftIs : (ℕ → Bool) → (ℕ → List PlainSlot) → (PlainType ℕ → List Layer → List PlainSlot) → ℕ → ℕ → PlainType ℕ → List Layer → Type 0
LeftIs chosen new rest d j ty path = chosen j ≡ true → new j ≡ rest ty path

each_only : (fs : PlainFields ℕ) (n : Bool) (m k i : ℕ) (old new : ℕ → List PlainSlot) (vs us whole : PlainValues) → TookEach fs k i old new vs → after m whole ≡ us
    → (chosen : ℕ → Bool) (head : ℕ) (rest : PlainType ℕ → List Layer → List PlainSlot) → AreClosed fs head i chosen → EachFits (all_loosened fs) us → EachLeafOf fs n m i (BeginsIn chosen k (group whole) old rest)
    → EachLeafOf fs n m i (LeftIs chosen new rest)
each_only no_fields n m k i old new vs us whole took e chosen head rest closed fit h = tt
each_only (one_field f fs) n m k i old new no_values us whole took e chosen head rest closed fit h = absurd took
each_only (one_field f fs) n m k i old new (one_value v vs) no_values whole took e chosen head rest closed fit h = absurd fit
each_only (one_field f fs) n m k i old new (one_value v vs) (one_value u us) whole took e chosen head rest closed fit h =
    let (here, next) = at_after m whole u us e in
    let now = took.0 in
    let keeps = each_keeps fs k (i + leaf_count f) now new vs took.2 in (
      EachLeaf-map f i (λ d j ty path. chosen j ≡ true → now j ≡ rest ty (layer.Struct n m ∷ path)) (λ d j ty path. LeftIs chosen new rest d j ty (layer.Struct n m ∷ path))
          (λ d j ty path a b some x lt. keeps.before j b ∙ x lt)
          (took.1.only chosen u (λ ty path. rest ty (layer.Struct n m ∷ path)) closed.1 fit.0 (first_begins f n m k i chosen old u whole rest here h.0)),
      each_only fs n (suc m) k (i + leaf_count f) now new vs us whole took.2 next chosen head rest closed.2 fit.1
          (more_begin fs n (suc m) k i (i + leaf_count f) chosen old now whole rest took.1.keeps h.1),
    )

-- the first leaf doesn't say that the struct is null
abbrev pub NotNullMark : PlainFields ℕ → List PlainSlot → Type 0
NotNullMark members left = (s : PlainSlot) (rest : List PlainSlot) → left ≡ s ∷ rest → s.state ≢ state.Null (first_depth_of members)

-- a struct of members that begins there
record HasMembers (members : PlainFields ℕ) (n : Bool) (k i : ℕ) (chosen : ℕ → Bool) (old : ℕ → List PlainSlot) (rest : PlainType ℕ → List Layer → List PlainSlot) : Type 0 where
  some : PlainValues
  fit : EachFits (all_loosened members) some
  begins : EachLeafOf members n 0 i (BeginsIn chosen k (group some) old rest)

has_members : (d : ℕ) (name : List ℕ) (n : Bool) (members : PlainFields ℕ) (k i : ℕ) (chosen : ℕ → Bool) (old : ℕ → List PlainSlot) (w : PlainValue) (rest : PlainType ℕ → List Layer → List PlainSlot)
    → IsField (field d name n (struct members)) → NotNullMark members (old i) → chosen i ≡ true → Fits (loosened (field d name n (struct members))) w
    → EachLeaf (field d name n (struct members)) i (BeginsIn chosen k w old rest) → HasMembers members n k i chosen old rest
has_members d name n members k i chosen old null rest ok m lt fit h =
    let first = first_says (field d name n (struct members)) k i chosen old null rest ok lt fit h in
    absurd (m first.0 first.2 first.3 first.4.0)
has_members d name n members k i chosen old (bits b) rest ok m lt fit h = absurd fit
has_members d name n members k i chosen old (raw s) rest ok m lt fit h = absurd fit
has_members d name n members k i chosen old (items vs) rest ok m lt fit h = absurd fit
has_members d name n members k i chosen old (group vs) rest ok m lt fit h = record { some = vs; fit = fit; begins = h }

struct_only : (d : ℕ) (name : List ℕ) (n : Bool) (members : PlainFields ℕ) (k i : ℕ) (old new : ℕ → List PlainSlot) (vs : PlainValues)
    → IsField (field d name n (struct members)) → NotNullMark members (old i) → TookEach members k i old new vs
    → (chosen : ℕ → Bool) (w : PlainValue) (rest : PlainType ℕ → List Layer → List PlainSlot) → AreClosed members i i chosen → Fits (loosened (field d name n (struct members))) w
    → EachLeaf (field d name n (struct members)) i (BeginsIn chosen k w old rest) → (chosen i ≡ true) ⊎ (chosen i ≡ false) → EachLeafOf members n 0 i (LeftIs chosen new rest)
struct_only d name n members k i old new vs ok m took chosen w rest closed fit h (inl lt) =
    let has = has_members d name n members k i chosen old w rest ok m lt fit h in
    each_only members n 0 k i old new vs has.some has.some took refl chosen i rest closed has.fit has.begins
struct_only d name n members k i old new vs ok m took chosen w rest closed fit h (inr out) =
    EachLeafOf-all members n 0 i (LeftIs chosen new rest) (λ d j ty path a b some there. absurd (true≢false (sym (closed_head members i i j chosen closed a b there) ∙ out)))

-- a struct of members
pub took_struct : (d : ℕ) (name : List ℕ) (n : Bool) (members : PlainFields ℕ) (k i : ℕ) (old new : ℕ → List PlainSlot) (vs : PlainValues)
    → IsField (field d name n (struct members)) → NotNullMark members (old i) → TookEach members k i old new vs → Took (field d name n (struct members)) k i old new (group vs)
took_struct d name n members k i old new vs ok m took = record {
  fits = each_fits members k i old new vs took;
  taken = each_taken members n 0 k i old new vs vs refl took;
  keeps = each_keeps members k i old new vs took;
  only = λ chosen w rest closed fit h. struct_only d name n members k i old new vs ok m took chosen w rest closed fit h (true_or_not (chosen i));
}

-- members begin nowhere
abbrev NoMembers : PlainFields ℕ → Bool → ℕ → ℕ → ℕ → (ℕ → List PlainSlot) → (ℕ → Bool) → Type 0
NoMembers fs n m k i old chosen =
    (us whole : PlainValues) (rest : PlainType ℕ → List Layer → List PlainSlot) → after m whole ≡ us → EachFits (all_loosened fs) us
    → EachLeafOf fs n m i (BeginsIn chosen k (group whole) old rest) → ⊥

no_first_member : (f : PlainField ℕ) (fs : PlainFields ℕ) (n : Bool) (m k i : ℕ) (chosen : ℕ → Bool) (old : ℕ → List PlainSlot) → NoneBegins f k i old chosen → NoMembers (one_field f fs) n m k i old chosen
no_first_member f fs n m k i chosen old none no_values whole rest e fit h = absurd fit
no_first_member f fs n m k i chosen old none (one_value u us) whole rest e fit h =
    let (here, next) = at_after m whole u us e in
    none u (λ ty path. rest ty (layer.Struct n m ∷ path)) fit.0 (first_begins f n m k i chosen old u whole rest here h.0)

no_later_member : (f : PlainField ℕ) (fs : PlainFields ℕ) (n : Bool) (m k i : ℕ) (chosen : ℕ → Bool) (old now : ℕ → List PlainSlot) → Keeps i (i + leaf_count f) old now
    → NoMembers fs n (suc m) k (i + leaf_count f) now chosen → NoMembers (one_field f fs) n m k i old chosen
no_later_member f fs n m k i chosen old now keeps none no_values whole rest e fit h = absurd fit
no_later_member f fs n m k i chosen old now keeps none (one_value u us) whole rest e fit h =
    let (here, next) = at_after m whole u us e in
    none us whole rest next fit.1 (more_begin fs n (suc m) k i (i + leaf_count f) chosen old now whole rest keeps h.1)

abbrev NoMembersWith : PlainFields ℕ → Bool → ℕ → ℕ → ℕ → (ℕ → List PlainSlot) → ℕ → Type 0
NoMembersWith fs n m k i old j = (chosen : ℕ → Bool) (head : ℕ) → AreClosed fs head i chosen → chosen j ≡ true → NoMembers fs n m k i old chosen

each_no_shape : (fs : PlainFields ℕ) (n : Bool) (m k i id : ℕ) (slots old : ℕ → List PlainSlot) → EachRefused fs k i slots old (join.Shape id)
    → SomeLeafOf fs n m i (λ d j ty path. (d ≡ id) × NoMembersWith fs n m k i old j)
each_no_shape no_fields n m k i id slots old h = h
each_no_shape (one_field f fs) n m k i id slots old (inl h) =
    inl (SomeLeaf-map f i (λ d j ty path. (d ≡ id) × NoneBeginsWith f k i old j) (λ d j ty path. (d ≡ id) × NoMembersWith (one_field f fs) n m k i old j)
    (λ d j ty path a b some x. (x.0, λ chosen head closed there. no_first_member f fs n m k i chosen old (x.1 chosen closed.1 there))) h)
each_no_shape (one_field f fs) n m k i id slots old (inr h) =
    inr (SomeLeafOf-map fs n (suc m) (i + leaf_count f) (λ d j ty path. (d ≡ id) × NoMembersWith fs n (suc m) k (i + leaf_count f) h.0 j)
    (λ d j ty path. (d ≡ id) × NoMembersWith (one_field f fs) n m k i old j)
    (λ d j ty path a b some x. (x.0, λ chosen head closed there. no_later_member f fs n m k i chosen old h.0 h.2.keeps (x.1 chosen head closed.2 there)))
    (each_no_shape fs n (suc m) k (i + leaf_count f) id slots h.0 h.3))

each_bad_null : (fs : PlainFields ℕ) (n : Bool) (m k i id : ℕ) (slots old : ℕ → List PlainSlot) → EachRefused fs k i slots old (join.NotNull id) → SomeHasBadNull fs i old id
each_bad_null no_fields n m k i id slots old h = h
each_bad_null (one_field f fs) n m k i id slots old (inl h) = inl h
each_bad_null (one_field f fs) n m k i id slots old (inr h) =
    inr (null_after fs n (suc m) i (i + leaf_count f) id old h.0 h.2.keeps (each_bad_null fs n (suc m) k (i + leaf_count f) id slots h.0 h.3))

each_bad_text : (fs : PlainFields ℕ) (n : Bool) (m k i id : ℕ) (slots old : ℕ → List PlainSlot) → EachRefused fs k i slots old (join.NotText id)
    → SomeLeafOf fs n m i (λ d j ty path. (d ≡ id) × (ty ≡ text) × IsBadText (slots j))
each_bad_text no_fields n m k i id slots old h = h
each_bad_text (one_field f fs) n m k i id slots old (inl h) = inl h
each_bad_text (one_field f fs) n m k i id slots old (inr h) = inr (each_bad_text fs n (suc m) k (i + leaf_count f) id slots h.0 h.3)

-- a member is refused
pub struct_refused : (d : ℕ) (name : List ℕ) (n : Bool) (members : PlainFields ℕ) (k i : ℕ) (slots old : ℕ → List PlainSlot) (e : Join)
    → IsField (field d name n (struct members)) → NotNullMark members (old i) → EachRefused members k i slots old e → Refused (field d name n (struct members)) k i slots old e
struct_refused d name n members k i slots old (join.Shape id) ok m h =
    SomeLeafOf-map members n 0 i (λ d j ty path. (d ≡ id) × NoMembersWith members n 0 k i old j)
    (λ e j ty path. (e ≡ id) × NoneBeginsWith (field d name n (struct members)) k i old j)
    (λ e j ty path a b some x. (
      x.0,
      λ chosen closed there w rest fit begins.
          let has = has_members d name n members k i chosen old w rest ok m (closed_head members i i j chosen closed a b there) fit begins in
          x.1 chosen i closed there has.some has.some rest refl has.fit has.begins,
    ))
    (each_no_shape members n 0 k i id slots old h)
struct_refused d name n members k i slots old (join.NotNull id) ok m h = inr (each_bad_null members n 0 k i id slots old h)
struct_refused d name n members k i slots old (join.NotText id) ok m h = each_bad_text members n 0 k i id slots old h
struct_refused d name n members k i slots old join.Memory ok m h = tt
