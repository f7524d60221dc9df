-- The items of a list are taken one after another, or no list has these slots.
use Rattle.std.proofs.Common.{◌≡◌, ℕ, ◌+◌, ◌≤◌, ◌⊎◌, inl, inr, Bool, true, false, true≢false, List, [], ◌∷◌, ◌++◌, refl, ap, sym, subst, ◌∙◌, append_assoc, arith}
use Rattle.lan_model.specs.declared.tree.Layer.{Layer}
use Rattle.lan_model.specs.declared.tree.Layer.TheVariants as layer
use Rattle.lan_model.specs.Plain.{PlainType, list, PlainField, field, PlainValue, null, bits, raw, items, group, PlainValues, no_values, one_value}
use Rattle.lan_model.specs.Fits.{Fits, AllFit}
use Rattle.lan_model.specs.Table.{IsField}
use Rattle.lan_levels.specs.declared.bare.Mark.TheVariants as mark
use Rattle.lan_levels.specs.PlainSlots.{PlainSlot}
use Rattle.lan_levels.specs.SlotsOf.{slots_of, flat, lists_in}
use Rattle.lan_levels.specs.EachLeaf.{leaf_count, EachLeaf, IsClosed, first_depth, first_lists}
use Rattle.lan_levels.specs.Loosened.{loosened}
use Rattle.lan_levels.specs.Taken.{IsLater, Keeps, Took, NoneBegins, NoneBeginsWith, HasNoShape, BeginsIn, first_rep, MarkIs, Continues, TookLater, TookItems}
use Rattle.lan_levels.proofs.Heads.{LaterAt, later}
use Rattle.lan_levels.proofs.Reps.{same_rep}
use Rattle.lan_levels.proofs.Chosen.{true_or_not, closed_first}
use Rattle.lan_levels.proofs.EachLeaf.{EachLeaf-map, EachLeaf-map2, EachLeaf-all, EachLeaf-path, EachLeaf-first, SomeLeaf-map}
use Rattle.lan_levels.proofs.TakenBare.{Keeps-none, says_at, SaysAt, first_says}

-- the items after the first, and what follows them
abbrev Later : PlainValues → (PlainType ℕ → List Layer → List PlainSlot) → PlainType ℕ → List Layer → List PlainSlot
Later vs rest ty path = flat (slots_of ty path (lists_in path)) vs ++ rest ty path

-- items begin what is left at a chosen place, and what follows them begins no item of theirs
abbrev pub ItemsBegin : (ℕ → Bool) → PlainValues → (ℕ → List PlainSlot) → (PlainType ℕ → List Layer → List PlainSlot) → ℕ → ℕ → PlainType ℕ → List Layer → Type 0
ItemsBegin chosen vs old rest d j ty path =
    chosen j ≡ true → (old j ≡ flat (slots_of ty path (lists_in path)) vs ++ rest ty path) × IsLater (lists_in path + 1) (rest ty path)

IsLater-less : (j : ℕ) (xs : List PlainSlot) → IsLater (j + 1) xs → IsLater j xs
IsLater-less j [] h = tt
IsLater-less j (x ∷ xs) h = omega arith

IsLater-append : (j : ℕ) (xs ys : List PlainSlot) → IsLater j xs → IsLater j ys → IsLater j (xs ++ ys)
IsLater-append j [] ys p q = q
IsLater-append j (x ∷ xs) ys p q = p

-- the next item begins, and those after it follow it
next_begins : (item : PlainField ℕ) (i : ℕ) (chosen : ℕ → Bool) (old : ℕ → List PlainSlot) (w : PlainValue) (ws : PlainValues) (rest : PlainType ℕ → List Layer → List PlainSlot)
    → AllFit (loosened item) ws → EachLeaf item i (ItemsBegin chosen (one_value w ws) old rest) → EachLeaf item i (BeginsIn chosen 0 w old (Later ws rest))
next_begins item i chosen old w ws rest fit h =
    EachLeaf-map2 item i (λ d j ty path. LaterAt ws ty path) (ItemsBegin chosen (one_value w ws) old rest) (BeginsIn chosen 0 w old (Later ws rest))
    (λ d j ty path a b e x y lt. (
      (y lt).0
          ∙ append_assoc (slots_of ty path (lists_in path) w) (flat (slots_of ty path (lists_in path)) ws) (rest ty path)
          ∙ ap (λ (r : ℕ). slots_of ty path r w ++ Later ws rest ty path) (sym (same_rep path)),
      IsLater-append (lists_in path) (flat (slots_of ty path (lists_in path)) ws) (rest ty path) x.1 (IsLater-less (lists_in path) (rest ty path) (y lt).1),
    ))
    (EachLeaf-path item i (LaterAt ws) (later ws item fit)) h

-- nothing begins where a further item begins
not_ended : (item : PlainField ℕ) (i : ℕ) (chosen : ℕ → Bool) (old : ℕ → List PlainSlot) (rest : PlainType ℕ → List Layer → List PlainSlot)
    → IsField item → chosen i ≡ true → Continues item i old → EachLeaf item i (ItemsBegin chosen no_values old rest) → ⊥
not_ended item i chosen old rest ok lt more h =
    let first = EachLeaf-first item i (ItemsBegin chosen no_values old rest) ok h in
    let is : more.0 ∷ more.1 ≡ rest first.ty first.path = sym more.2 ∙ (first.holds lt).0 in
    let late : IsLater (lists_in first.path + 1) (more.0 ∷ more.1) = subst (IsLater (lists_in first.path + 1)) (sym is) (first.holds lt).1 in
    let le : lists_in first.path + 1 ≤ more.0.rep = late in
    let rep : more.0.rep ≡ first_lists item = more.3 in
    let lists : lists_in first.path ≡ first_lists item = first.lists in
    omega arith

-- where a further item begins, the first leaf says so
continues : (item : PlainField ℕ) (i : ℕ) (chosen : ℕ → Bool) (old : ℕ → List PlainSlot) (w : PlainValue) (rest : PlainType ℕ → List Layer → List PlainSlot)
    → IsField item → chosen i ≡ true → Fits (loosened item) w → EachLeaf item i (BeginsIn chosen 0 w old rest) → Continues item i old
continues item i chosen old w rest ok lt hw h =
    let first = EachLeaf-first item i (λ d j ty path. SaysAt w 0 d j ty path × BeginsIn chosen 0 w old rest d j ty path) ok
    (EachLeaf-map2 item i (SaysAt w 0) (BeginsIn chosen 0 w old rest) (λ d j ty path. SaysAt w 0 d j ty path × BeginsIn chosen 0 w old rest d j ty path) (λ d j ty path a b e x y. (x, y))
    (says_at w item 0 i hw) h) in
    let says = first.holds.0.1 in (
      says.head,
      says.rest ++ rest first.ty first.path,
      (first.holds.1 lt).0 ∙ ap (λ (x : List PlainSlot). x ++ rest first.ty first.path) says.is,
      says.rep ∙ same_rep first.path ∙ first.lists,
    )

-- what is left of items that begin there, after some were taken
pub record Remaining (item : PlainField ℕ) (i : ℕ) (chosen : ℕ → Bool) (new : ℕ → List PlainSlot) (rest : PlainType ℕ → List Layer → List PlainSlot) : Type 0 where
  pub some : PlainValues
  pub fit : AllFit (loosened item) some
  pub begin : EachLeaf item i (ItemsBegin chosen some new rest)

move : (item : PlainField ℕ) (i : ℕ) (chosen : ℕ → Bool) (old new : ℕ → List PlainSlot) (ws : PlainValues) (rest : PlainType ℕ → List Layer → List PlainSlot)
    → EachLeaf item i (λ d j ty path. chosen j ≡ true → new j ≡ Later ws rest ty path) → EachLeaf item i (λ d j ty path. chosen j ≡ true → IsLater (lists_in path + 1) (rest ty path))
    → EachLeaf item i (ItemsBegin chosen ws new rest)
move item i chosen old new ws rest p q =
    EachLeaf-map2 item i (λ d j ty path. chosen j ≡ true → new j ≡ Later ws rest ty path) (λ d j ty path. chosen j ≡ true → IsLater (lists_in path + 1) (rest ty path)) (ItemsBegin chosen ws new rest)
    (λ d j ty path a b e x y lt. (x lt, y lt)) p q

ends_later : (item : PlainField ℕ) (i : ℕ) (chosen : ℕ → Bool) (old : ℕ → List PlainSlot) (ws : PlainValues) (rest : PlainType ℕ → List Layer → List PlainSlot)
    → EachLeaf item i (ItemsBegin chosen ws old rest) → EachLeaf item i (λ d j ty path. chosen j ≡ true → IsLater (lists_in path + 1) (rest ty path))
ends_later item i chosen old ws rest h =
    EachLeaf-map item i (ItemsBegin chosen ws old rest) (λ d j ty path. chosen j ≡ true → IsLater (lists_in path + 1) (rest ty path)) (λ d j ty path a b e x lt. (x lt).1) h

pub later_only : (item : PlainField ℕ) (i : ℕ) (old new : ℕ → List PlainSlot) (vs : PlainValues) → IsField item → TookLater item i old new vs
    → (chosen : ℕ → Bool) (ws : PlainValues) (rest : PlainType ℕ → List Layer → List PlainSlot) → chosen i ≡ true → IsClosed item i chosen → AllFit (loosened item) ws → EachLeaf item i (ItemsBegin chosen ws old rest)
    → Remaining item i chosen new rest
later_only item i old new no_values ok took chosen ws rest lt closed fit h =
    record { some = ws; fit = fit; begin = subst (λ (now : ℕ → List PlainSlot). EachLeaf item i (ItemsBegin chosen ws now rest)) took h }
later_only item i old new (one_value v vs) ok took chosen no_values rest lt closed fit h = absurd (not_ended item i chosen old rest ok lt took.0 h)
later_only item i old new (one_value v vs) ok took chosen (one_value w ws) rest lt closed fit h =
    let now = took.1.0 in
    later_only item i now new vs ok took.1.2 chosen ws rest lt closed fit.1
    (move item i chosen old now ws rest (took.1.1.only chosen w (Later ws rest) closed fit.0 (next_begins item i chosen old w ws rest fit.1 h)) (ends_later item i chosen old (one_value w ws) rest h))

pub later_fits : (item : PlainField ℕ) (i : ℕ) (old new : ℕ → List PlainSlot) (vs : PlainValues) → TookLater item i old new vs → AllFit item vs
later_fits item i old new no_values took = tt
later_fits item i old new (one_value v vs) took = (took.1.1.fits, later_fits item i took.1.0 new vs took.1.2)

pub Keeps-twice : (i past : ℕ) (old now new : ℕ → List PlainSlot) → Keeps i past old now → Keeps i past now new → Keeps i past old new
Keeps-twice i past old now new p q = record { before = λ j h. q.before j h ∙ p.before j h; after = λ j h. q.after j h ∙ p.after j h }

pub later_keeps : (item : PlainField ℕ) (i : ℕ) (old new : ℕ → List PlainSlot) (vs : PlainValues) → TookLater item i old new vs → Keeps i (i + leaf_count item) old new
later_keeps item i old new no_values took = Keeps-none i (i + leaf_count item) old new took
later_keeps item i old new (one_value v vs) took =
    Keeps-twice i (i + leaf_count item) old took.1.0 new took.1.1.keeps (later_keeps item i took.1.0 new vs took.1.2)

pub later_taken : (item : PlainField ℕ) (i : ℕ) (old new : ℕ → List PlainSlot) (vs : PlainValues) → TookLater item i old new vs
    → EachLeaf item i (λ d j ty path. old j ≡ flat (slots_of ty path (lists_in path)) vs ++ new j)
later_taken item i old new no_values took =
    EachLeaf-all item i (λ d j ty path. old j ≡ flat (slots_of ty path (lists_in path)) no_values ++ new j) (λ d j ty path a b e. ap (λ (f : ℕ → List PlainSlot). f j) took)
later_taken item i old new (one_value v vs) took =
    let now = took.1.0 in
    EachLeaf-map2 item i (λ d j ty path. old j ≡ slots_of ty path (first_rep 0 path) v ++ now j) (λ d j ty path. now j ≡ flat (slots_of ty path (lists_in path)) vs ++ new j)
    (λ d j ty path. old j ≡ flat (slots_of ty path (lists_in path)) (one_value v vs) ++ new j)
    (λ d j ty path a b e x y.
    x
    ∙ ap (λ (r : ℕ). slots_of ty path r v ++ now j) (same_rep path)
    ∙ ap (λ (s : List PlainSlot). slots_of ty path (lists_in path) v ++ s) y
    ∙ sym (append_assoc (slots_of ty path (lists_in path) v) (flat (slots_of ty path (lists_in path)) vs) (new j)))
    took.1.1.taken (later_taken item i now new vs took.1.2)

-- a list with items that begins there
record HasItems (item : PlainField ℕ) (k i : ℕ) (chosen : ℕ → Bool) (old : ℕ → List PlainSlot) (w : PlainValue) (rest : PlainType ℕ → List Layer → List PlainSlot) : Type 0 where
  first : PlainValue
  more : PlainValues
  fit : Fits (loosened item) first × AllFit (loosened item) more
  begins : EachLeaf item i (BeginsIn chosen (k + 1) first old (Later more rest))
  ends : EachLeaf item i (λ d j ty path. chosen j ≡ true → IsLater (lists_in path + 1) (rest ty path))

abbrev inner_rest : Bool → (PlainType ℕ → List Layer → List PlainSlot) → PlainType ℕ → List Layer → List PlainSlot
inner_rest n rest ty path = rest ty (layer.List n ∷ path)

begins_items : (item : PlainField ℕ) (n : Bool) (k i : ℕ) (chosen : ℕ → Bool) (old : ℕ → List PlainSlot) (v : PlainValue) (vs : PlainValues) (rest : PlainType ℕ → List Layer → List PlainSlot)
    → Fits (loosened item) v × AllFit (loosened item) vs
    → EachLeaf item i (λ d j ty path. BeginsIn chosen k (items (one_value v vs)) old rest d j ty (layer.List n ∷ path)) → HasItems item k i chosen old (items (one_value v vs)) (inner_rest n rest)
begins_items item n k i chosen old v vs rest fit h = record {
  first = v;
  more = vs;
  fit = fit;
  begins = EachLeaf-map2 item i (λ d j ty path. LaterAt vs ty path) (λ d j ty path. BeginsIn chosen k (items (one_value v vs)) old rest d j ty (layer.List n ∷ path))
      (BeginsIn chosen (k + 1) v old (Later vs (inner_rest n rest)))
      (λ d j ty path a b e x y lt. (
        (y lt).0 ∙ append_assoc (slots_of ty path (first_rep (k + 1) path) v) (flat (slots_of ty path (lists_in path)) vs) (inner_rest n rest ty path),
        IsLater-append (lists_in path) (flat (slots_of ty path (lists_in path)) vs) (inner_rest n rest ty path) x.1 (IsLater-less (lists_in path) (inner_rest n rest ty path) (y lt).1),
      ))
      (EachLeaf-path item i (LaterAt vs) (later vs item fit.1)) h;
  ends = EachLeaf-map item i (λ d j ty path. BeginsIn chosen k (items (one_value v vs)) old rest d j ty (layer.List n ∷ path))
      (λ d j ty path. chosen j ≡ true → IsLater (lists_in path + 1) (inner_rest n rest ty path)) (λ d j ty path a b e x lt. (x lt).1) h;
}

-- where the first leaf says neither null nor empty, only a list with items begins
has_items : (d : ℕ) (name : List ℕ) (n : Bool) (item : PlainField ℕ) (k i : ℕ) (chosen : ℕ → Bool) (old : ℕ → List PlainSlot) (w : PlainValue) (rest : PlainType ℕ → List Layer → List PlainSlot)
    → IsField item → MarkIs (first_depth item + 1) (old i) mark.Inside → chosen i ≡ true → Fits (loosened (field d name n (list item))) w
    → EachLeaf (field d name n (list item)) i (BeginsIn chosen k w old rest) → HasItems item k i chosen old w (inner_rest n rest)
has_items d name n item k i chosen old null rest ok m lt fit h =
    let first = first_says (field d name n (list item)) k i chosen old null rest ok lt fit h in
    absurd ((m first.0 first.2 first.3).0 first.4.0)
has_items d name n item k i chosen old (bits b) rest ok m lt fit h = absurd fit
has_items d name n item k i chosen old (raw s) rest ok m lt fit h = absurd fit
has_items d name n item k i chosen old (items no_values) rest ok m lt fit h =
    let first = first_says (field d name n (list item)) k i chosen old (items no_values) rest ok lt fit h in
    absurd ((m first.0 first.2 first.3).1 first.4.0)
has_items d name n item k i chosen old (items (one_value v vs)) rest ok m lt fit h = begins_items item n k i chosen old v vs rest fit h
has_items d name n item k i chosen old (group vs) rest ok m lt fit h = absurd fit

-- what is left of a list that begins there, after items were taken
items_only : (d : ℕ) (name : List ℕ) (n : Bool) (item : PlainField ℕ) (k i : ℕ) (chosen : ℕ → Bool) (old new : ℕ → List PlainSlot) (vs : PlainValues) (w : PlainValue)
    (rest : PlainType ℕ → List Layer → List PlainSlot) → IsField item → MarkIs (first_depth item + 1) (old i) mark.Inside → TookItems item k i old new vs → chosen i ≡ true
    → IsClosed item i chosen → Fits (loosened (field d name n (list item))) w → EachLeaf (field d name n (list item)) i (BeginsIn chosen k w old rest) → Remaining item i chosen new (inner_rest n rest)
items_only d name n item k i chosen old new vs w rest ok m took lt closed fit h =
    let has = has_items d name n item k i chosen old w rest ok m lt fit h in
    later_only item i took.now new took.more ok took.rest chosen has.more (inner_rest n rest) lt closed has.fit.1
    (move item i chosen old took.now has.more (inner_rest n rest) (took.head.only chosen has.first (Later has.more (inner_rest n rest)) closed has.fit.0 has.begins) has.ends)

ended : (item : PlainField ℕ) (n : Bool) (i : ℕ) (chosen : ℕ → Bool) (new : ℕ → List PlainSlot) (rest : PlainType ℕ → List Layer → List PlainSlot) (ws : PlainValues)
    → IsField item → chosen i ≡ true → (Continues item i new → ⊥) → AllFit (loosened item) ws → EachLeaf item i (ItemsBegin chosen ws new (inner_rest n rest))
    → EachLeaf item i (λ d j ty path. chosen j ≡ true → new j ≡ rest ty (layer.List n ∷ path))
ended item n i chosen new rest no_values ok lt stop fit h =
    EachLeaf-map item i (ItemsBegin chosen no_values new (inner_rest n rest)) (λ d j ty path. chosen j ≡ true → new j ≡ rest ty (layer.List n ∷ path)) (λ d j ty path a b e x less. (x less).0) h
ended item n i chosen new rest (one_value w ws) ok lt stop fit h =
    absurd (stop (continues item i chosen new w (Later ws (inner_rest n rest)) ok lt fit.0 (next_begins item i chosen new w ws (inner_rest n rest) fit.1 h)))

list_only : (d : ℕ) (name : List ℕ) (n : Bool) (item : PlainField ℕ) (k i : ℕ) (old new : ℕ → List PlainSlot) (vs : PlainValues)
    → IsField item → MarkIs (first_depth item + 1) (old i) mark.Inside → TookItems item k i old new vs → (Continues item i new → ⊥)
    → (chosen : ℕ → Bool) (w : PlainValue) (rest : PlainType ℕ → List Layer → List PlainSlot) → IsClosed item i chosen → Fits (loosened (field d name n (list item))) w
    → EachLeaf (field d name n (list item)) i (BeginsIn chosen k w old rest) → (chosen i ≡ true) ⊎ (chosen i ≡ false)
    → EachLeaf item i (λ d j ty path. chosen j ≡ true → new j ≡ rest ty (layer.List n ∷ path))
list_only d name n item k i old new vs ok m took stop chosen w rest closed fit h (inl lt) =
    let left = items_only d name n item k i chosen old new vs w rest ok m took lt closed fit h in
    ended item n i chosen new rest left.some ok lt stop left.fit left.begin
list_only d name n item k i old new vs ok m took stop chosen w rest closed fit h (inr out) =
    EachLeaf-all item i (λ d j ty path. chosen j ≡ true → new j ≡ rest ty (layer.List n ∷ path)) (λ d j ty path a b e there. absurd (true≢false (sym (closed_first item i j chosen closed a b there) ∙ out)))

items_taken : (n : Bool) (item : PlainField ℕ) (k i : ℕ) (old new : ℕ → List PlainSlot) (vs : PlainValues) (took : TookItems item k i old new vs)
    → EachLeaf item i (λ d j ty path. old j ≡ slots_of ty (layer.List n ∷ path) (first_rep k (layer.List n ∷ path)) (items (one_value took.first took.more)) ++ new j)
items_taken n item k i old new vs took =
    EachLeaf-map2 item i (λ d j ty path. old j ≡ slots_of ty path (first_rep (k + 1) path) took.first ++ took.now j)
    (λ d j ty path. took.now j ≡ flat (slots_of ty path (lists_in path)) took.more ++ new j)
    (λ d j ty path. old j ≡ slots_of ty (layer.List n ∷ path) (first_rep k (layer.List n ∷ path)) (items (one_value took.first took.more)) ++ new j)
    (λ d j ty path a b e x y.
    x
    ∙ ap (λ (s : List PlainSlot). slots_of ty path (first_rep (k + 1) path) took.first ++ s) y
    ∙ sym (append_assoc (slots_of ty path (first_rep (k + 1) path) took.first) (flat (slots_of ty path (lists_in path)) took.more) (new j)))
    took.head.taken (later_taken item i took.now new took.more took.rest)

-- a list of items
pub took_list : (d : ℕ) (name : List ℕ) (n : Bool) (item : PlainField ℕ) (k i : ℕ) (old new : ℕ → List PlainSlot) (vs : PlainValues)
    → IsField item → MarkIs (first_depth item + 1) (old i) mark.Inside → TookItems item k i old new vs → (Continues item i new → ⊥)
    → Took (field d name n (list item)) k i old new (items vs)
took_list d name n item k i old new vs ok m took stop =
    let whole : Took (field d name n (list item)) k i old new (items (one_value took.first took.more)) = record {
      fits = (took.head.fits, later_fits item i took.now new took.more took.rest);
      taken = items_taken n item k i old new vs took;
      keeps = Keeps-twice i (i + leaf_count item) old took.now new took.head.keeps (later_keeps item i took.now new took.more took.rest);
      only = λ chosen w rest closed fit h. list_only d name n item k i old new vs ok m took stop chosen w rest closed fit h (true_or_not (chosen i));
    } in
    subst (λ (x : PlainValues). Took (field d name n (list item)) k i old new (items x)) (sym took.is) whole

-- the first item is refused
pub no_first : (d : ℕ) (name : List ℕ) (n : Bool) (item : PlainField ℕ) (k i id : ℕ) (old : ℕ → List PlainSlot)
    → IsField item → MarkIs (first_depth item + 1) (old i) mark.Inside → HasNoShape item (k + 1) i old id → HasNoShape (field d name n (list item)) k i old id
no_first d name n item k i id old ok m h =
    SomeLeaf-map item i (λ d j ty path. (d ≡ id) × NoneBeginsWith item (k + 1) i old j) (λ e j ty path. (e ≡ id) × NoneBeginsWith (field d name n (list item)) k i old j)
    (λ e j ty path a b some x. (
      x.0,
      λ chosen closed there w rest fit begins.
          let has = has_items d name n item k i chosen old w rest ok m (closed_first item i j chosen closed a b there) fit begins in
          x.1 chosen closed there has.first (Later has.more (inner_rest n rest)) has.fit.0 has.begins,
    ))
    h

no_more : (item : PlainField ℕ) (n : Bool) (i : ℕ) (chosen : ℕ → Bool) (now : ℕ → List PlainSlot) (rest : PlainType ℕ → List Layer → List PlainSlot) (ws : PlainValues)
    → IsField item → chosen i ≡ true → Continues item i now → NoneBegins item 0 i now chosen → AllFit (loosened item) ws → EachLeaf item i (ItemsBegin chosen ws now (inner_rest n rest)) → ⊥
no_more item n i chosen now rest no_values ok lt more none fit h = not_ended item i chosen now (inner_rest n rest) ok lt more h
no_more item n i chosen now rest (one_value w ws) ok lt more none fit h = none w (Later ws (inner_rest n rest)) fit.0 (next_begins item i chosen now w ws (inner_rest n rest) fit.1 h)

-- a further item is refused
pub no_next : (d : ℕ) (name : List ℕ) (n : Bool) (item : PlainField ℕ) (k i id : ℕ) (old now : ℕ → List PlainSlot) (vs : PlainValues)
    → IsField item → MarkIs (first_depth item + 1) (old i) mark.Inside → TookItems item k i old now vs → Continues item i now → HasNoShape item 0 i now id
    → HasNoShape (field d name n (list item)) k i old id
no_next d name n item k i id old now vs ok m took more h =
    SomeLeaf-map item i (λ d j ty path. (d ≡ id) × NoneBeginsWith item 0 i now j) (λ e j ty path. (e ≡ id) × NoneBeginsWith (field d name n (list item)) k i old j)
    (λ e j ty path a b some x. (
      x.0,
      λ chosen closed there w rest fit begins.
          let first = closed_first item i j chosen closed a b there in
          let left = items_only d name n item k i chosen old now vs w rest ok m took first closed fit begins in
          no_more item n i chosen now rest left.some ok first more (x.1 chosen closed there) left.fit left.begin,
    ))
    h

-- the values and one more
abbrev pub push : PlainValues → PlainValue → PlainValues
push no_values v = one_value v no_values
push (one_value w ws) v = one_value w (push ws v)

-- one item more
pub later_push : (item : PlainField ℕ) (i : ℕ) (old now new : ℕ → List PlainSlot) (vs : PlainValues) (v : PlainValue) → TookLater item i old now vs → Continues item i now → Took item 0 i now new v
    → TookLater item i old new (push vs v)
later_push item i old now new no_values v took more last =
    (subst (λ (x : ℕ → List PlainSlot). Continues item i x) (sym took) more, (new, subst (λ (x : ℕ → List PlainSlot). Took item 0 i x new v) (sym took) last, refl))
later_push item i old now new (one_value w ws) v took more last = (took.0, (took.1.0, took.1.1, later_push item i took.1.0 now new ws v took.1.2 more last))

pub items_push : (item : PlainField ℕ) (k i : ℕ) (old now new : ℕ → List PlainSlot) (vs : PlainValues) (v : PlainValue) → TookItems item k i old now vs → Continues item i now → Took item 0 i now new v
    → TookItems item k i old new (push vs v)
items_push item k i old now new vs v took more last = record {
  first = took.first;
  more = push took.more v;
  now = took.now;
  is = ap (λ (x : PlainValues). push x v) took.is;
  head = took.head;
  rest = later_push item i took.now now new took.more v took.rest more last;
}
