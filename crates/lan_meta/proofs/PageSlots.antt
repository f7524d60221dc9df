-- Buffers stand for one list of slots.
use Rattle.std.proofs.Common.{◌≡◌, ℕ, List, [], ◌∷◌, Some, length, ap, sym, ◌∙◌}
use Rattle.lan_model.specs.Leaves.{PlainLeaf}
use Rattle.lan_levels.specs.PlainSlots.{PlainSlot}
use Rattle.lan_levels.specs.ZipForm.{PlainForm}
use Rattle.lan_levels.specs.ZipSlots.{spelled, AreSlots, Part}
use Rattle.lan_meta.specs.declared.page.Layout.{Layout}
use Rattle.lan_meta.specs.declared.page.Layout.TheVariants.{Constant, Mini, Zip}
use Rattle.lan_meta.specs.declared.page.PageMeta.{PageMeta}
use Rattle.lan_meta.specs.PageOf.{page_form, ZipOf, LaidOut, IsPage}

same_part : (f : PlainForm) (all : List ℕ) (xs ys : List PlainSlot) → length xs ≡ length ys → AreSlots f xs all → AreSlots f ys all → xs ≡ ys
same_part f all xs ys n p q =
    let a : Part = record { slots = xs; rest = [] } in
    let b : Part = record { slots = ys; rest = [] } in
    let e : Some a ≡ Some b = sym p ∙ ap (λ (k : ℕ). spelled f k all) n ∙ q in
    let same : a ≡ b = cc in
    ap (λ (part : Part). part.slots) same

same_zip : (f : PlainForm) (rows : ℕ) (buffers : List (List ℕ)) (xs ys : List PlainSlot) → length xs ≡ length ys → ZipOf f rows buffers xs → ZipOf f rows buffers ys → xs ≡ ys
same_zip f rows [] xs ys n p q = absurd p
same_zip f rows (content ∷ places) xs ys n p q = same_part f content xs ys n p.0.are q.0.are

same_laid : (leaf : PlainLeaf) (rows : ℕ) (layout : Layout) (buffers : List (List ℕ)) (xs ys : List PlainSlot) → length xs ≡ length ys → LaidOut leaf rows layout buffers xs → LaidOut leaf rows layout buffers ys → xs ≡ ys
same_laid leaf rows (Constant codes count value) buffers xs ys n p q = p.1 ∙ sym q.1
same_laid leaf rows (Mini codes count values) buffers xs ys n p q = absurd p
same_laid leaf rows (Zip codes count values) buffers xs ys n p q = same_zip (page_form leaf codes values) rows buffers xs ys n p q

pub one_list : (leaf : PlainLeaf) (page : PageMeta) (buffers : List (List ℕ)) (xs ys : List PlainSlot) → IsPage leaf page buffers xs → IsPage leaf page buffers ys → xs ≡ ys
one_list leaf page buffers xs ys p q = same_laid leaf page.rows page.layout buffers xs ys (p.count ∙ sym q.count) p.laid q.laid
