-- Lists and structs whose parts are taken or refused.
use Rattle.std.proofs.Common.{◌≡◌, ℕ, ◌+◌, ◌<◌, ◌⊎◌, inl, inr, Bool, List, ◌∷◌, ◌++◌, length, refl, ap, sym, subst, ◌∙◌, length-append, arith}
use Rattle.lan_model.specs.Plain.{list, struct, PlainField, field, PlainFields, PlainValue}
use Rattle.lan_model.specs.Table.{IsField}
use Rattle.lan_levels.specs.declared.slot.State.TheVariants as state
use Rattle.lan_levels.specs.declared.join.Join.{Join}
use Rattle.lan_levels.specs.declared.join.Join.TheVariants as join
use Rattle.lan_levels.specs.declared.bare.Mark.{Mark}
use Rattle.lan_levels.specs.declared.bare.Mark.TheVariants as mark
use Rattle.lan_levels.specs.PlainSlots.{PlainSlot}
use Rattle.lan_levels.specs.SlotsOf.{slots_of}
use Rattle.lan_levels.specs.EachLeaf.{first_depth, first_depth_of}
use Rattle.lan_levels.specs.Taken.{Took, Refused, EachRefused, first_rep, MarkIs, ItemsRefused}
use Rattle.lan_levels.proofs.Loosened.{loosen}
use Rattle.lan_levels.proofs.EachLeaf.{EachLeaf-map2, EachLeaf-first}
use Rattle.lan_levels.proofs.TakenBare.{SaysAt, says_at}
use Rattle.lan_levels.proofs.TakenItems.{no_first, no_next}
use Rattle.lan_levels.proofs.TakenMembers.{NotNullMark, struct_refused}
use Rattle.lan_levels.proofs.NullPlaces.{null_past_items}

-- an item of a list is refused
pub list_refused : (d : ℕ) (name : List ℕ) (n : Bool) (item : PlainField ℕ) (k i : ℕ) (slots old : ℕ → List PlainSlot) (e : Join)
    → IsField item → MarkIs (first_depth item + 1) (old i) mark.Inside → ItemsRefused item k i slots old e → Refused (field d name n (list item)) k i slots old e
list_refused d name n item k i slots old (join.Shape id) ok m (inl h) = no_first d name n item k i id old ok m h
list_refused d name n item k i slots old (join.Shape id) ok m (inr h) = no_next d name n item k i id old h.0 h.1 ok m h.2 h.3 h.4
list_refused d name n item k i slots old (join.NotNull id) ok m (inl h) = inr h
list_refused d name n item k i slots old (join.NotNull id) ok m (inr h) = inr (null_past_items item k i id old h.0 h.1 h.2 h.4)
list_refused d name n item k i slots old (join.NotText id) ok m (inl h) = h
list_refused d name n item k i slots old (join.NotText id) ok m (inr h) = h.4
list_refused d name n item k i slots old join.Memory ok m h = tt

-- a member of a struct is refused, or memory is wanted
pub struct_refused_or : (d : ℕ) (name : List ℕ) (n : Bool) (members : PlainFields ℕ) (k i : ℕ) (slots old : ℕ → List PlainSlot) (e : Join)
    → IsField (field d name n (struct members)) → NotNullMark members (old i) → (e ≡ join.Memory) ⊎ EachRefused members k i slots old e → Refused (field d name n (struct members)) k i slots old e
struct_refused_or d name n members k i slots old e ok m (inl h) = subst (λ (x : Join). Refused (field d name n (struct members)) k i slots old x) (sym h) tt
struct_refused_or d name n members k i slots old e ok m (inr h) = struct_refused d name n members k i slots old e ok m h

pub not_null_mark : (members : PlainFields ℕ) (left : List PlainSlot) (m : Mark) → MarkIs (first_depth_of members) left m → (m ≡ mark.Null → ⊥) → NotNullMark members left
not_null_mark members left mark.Null h no_null = absurd (no_null refl)
not_null_mark members left mark.Empty h no_null = λ s rest e is.
    let one : h.0 ∷ h.1 ≡ s ∷ rest = sym h.2 ∙ e in
    let same : h.0 ≡ s = cc in
    let bad : state.Empty (first_depth_of members) ≡ state.Null (first_depth_of members) = sym h.3 ∙ ap (λ (x : PlainSlot). x.state) same ∙ is in
    absurd (cc)
not_null_mark members left mark.Inside h no_null = λ s rest e. (h s rest e).0

some_taken : (old new : List PlainSlot) (head : PlainSlot) (rest slots : List PlainSlot) → slots ≡ head ∷ rest → old ≡ slots ++ new → length new < length old
some_taken old new head rest slots e h =
    let more : old ≡ head ∷ (rest ++ new) = h ∙ ap (λ (x : List PlainSlot). x ++ new) e in
    let count : length (rest ++ new) ≡ length rest + length new = length-append rest new in
    omega (arith, ap (length {A = PlainSlot}) more)

-- fewer slots are left in the first leaf
pub took_less : (f : PlainField ℕ) (k i : ℕ) (old new : ℕ → List PlainSlot) (v : PlainValue) → IsField f → Took f k i old new v → length (new i) < length (old i)
took_less f k i old new v ok took =
    let first = EachLeaf-first f i (λ d j ty path. SaysAt v k d j ty path × (old j ≡ slots_of ty path (first_rep k path) v ++ new j)) ok
    (EachLeaf-map2 f i (SaysAt v k) (λ d j ty path. old j ≡ slots_of ty path (first_rep k path) v ++ new j)
    (λ d j ty path. SaysAt v k d j ty path × (old j ≡ slots_of ty path (first_rep k path) v ++ new j)) (λ d j ty path a b e x y. (x, y)) (says_at v f k i (loosen v f took.fits)) took.taken) in
    let says = first.holds.0.1 in
    some_taken (old i) (new i) says.head says.rest (slots_of first.ty first.path (first_rep k first.path) v) says.is first.holds.1
