-- Pieces of a page of one value, which has no content; how many buffers a page has.
use Rattle.std.proofs.Common.{◌≡◌, ℕ, zero, suc, ◌+◌, ◌-◌, ◌<◌, ◌≤◌, Bool, true, false, cond, List, [], ◌∷◌, Option, length, take, drop, inl, refl, ap, sym, ◌∙◌, arith}
use Rattle.std.specs.Prelude.{nat_lt}
use Rattle.lan_model.specs.declared.range.Range.{Range}
use Rattle.lan_model.specs.declared.tree.Layer.{Layer}
use Rattle.lan_model.specs.Leaves.{PlainLeaf}
use Rattle.lan_levels.specs.declared.shape.ValueKind.{ValueKind}
use Rattle.lan_levels.specs.declared.shape.ValueKind.TheVariants as stored
use Rattle.lan_levels.specs.Past.{past, furthest, is_short}
use Rattle.lan_levels.specs.Runs.{Runs, empty, run}
use Rattle.lan_levels.specs.SlotsOf.{lists_in}
use Rattle.lan_levels.specs.Stretch.{Stretch, size, bytes_in, cover}
use Rattle.lan_index.proofs.PastLemmas.{past_found, within_longest}
use Rattle.lan_index.proofs.RunLemmas.{rising}
use Rattle.lan_meta.specs.declared.page.Layout.{Layout}
use Rattle.lan_meta.specs.declared.page.Layout.TheVariants.{Constant, Mini, Zip}
use Rattle.lan_meta.specs.declared.page.PageMeta.{PageMeta}
use Rattle.lan_meta.specs.PageOf.{buffers_in}
use Rattle.lan_meta.specs.PageRules.{zip_buffers, buffers_of}
use Rattle.lan_meta.specs.PageRuns.{runs_by, runs_of}
use Rattle.lan_page.specs.declared.cut.PieceCut.{PieceCut}
use Rattle.lan_page.specs.declared.cut.RowCut.{RowCut}
use Rattle.lan_page.specs.Asking.{IsFullZip, IsPieceOf}
use Rattle.lan_page.specs.Cuts.{spans_for}
use Rattle.lan_page.specs.Held.{bytes_held, held_buffers, held_run, first_of}

one_or_two : (b : Bool) → cond b 2 1 ≤ 2
one_or_two true = omega arith
one_or_two false = omega arith

zip_few : (values : ValueKind) (layers : List Layer) → zip_buffers values layers ≤ 2
zip_few stored.Variable layers = omega arith
zip_few (stored.Flat bits) layers = one_or_two (nat_lt 0 (lists_in layers))
zip_few (stored.Constant value) layers = one_or_two (nat_lt 0 (lists_in layers))

layout_few : (layout : Layout) (layers : List Layer) → IsFullZip layout → buffers_of layout layers ≤ 2
layout_few (Constant codes count value) layers zip = absurd zip
layout_few (Mini codes count values) layers zip = absurd zip
layout_few (Zip codes count values) layers zip = zip_few values layers

-- a full-zip page has two buffers at most
pub few_buffers : (page : PageMeta) (layers : List Layer) → IsFullZip page.layout → length page.buffers ≡ buffers_of page.layout layers → length page.buffers ≤ 2
few_buffers page layers zip e = let few = layout_few page.layout layers zip in omega arith

constant_past : (rows row q : ℕ) → row < rows → q ≡ furthest rows row → q ≡ past (run empty) rows row
constant_past rows row q less e =
    let ahead : row < q = omega arith in
    let last : q - 1 + 1 ≡ q = omega arith in
    let short : is_short (run empty) row q ≡ true = ap (is_short (run empty) row) (sym last) ∙ within_longest (run empty) row (q - 1) _ refl (omega arith) in
    sym (past_found (run empty) rows row q (rising empty rows 0 tt) ahead (omega arith) short (inl e))

none_in : (from n : ℕ) → ◌≡◌ {A = List ℕ} (take n (drop from [])) []
none_in zero zero = refl
none_in zero (suc n) = refl
none_in (suc from) zero = refl
none_in (suc from) (suc n) = refl

no_bytes : (bytes : List ℕ) (bs : List Range) (s : Stretch) → length bs ≡ 0 → [] ≡ bytes_in (first_of (buffers_in bytes bs)) s
no_bytes bytes [] s e = sym (none_in s.from (size s))
no_bytes bytes (b ∷ bs) s e = absurd (omega arith)

-- a piece of up to so many rows
pub constant_piece : (leaf : PlainLeaf) (page : PageMeta) (held : Option (List ℕ)) (layers : List Layer) (codes : List ℕ) (count : ℕ) (value : Option (List ℕ)) (row : ℕ) (piece : PieceCut) (into : List ℕ) → page.layout ≡ Constant codes count value
    → length page.buffers ≡ buffers_of page.layout layers → row < page.rows → piece.row ≡ row → piece.past ≡ furthest page.rows row → piece.cut ≡ record { skip = 0; spans = [] } → into ≡ [] → IsPieceOf leaf page held row piece into
constant_piece leaf page held layers codes count value row piece into e many less at end made none =
    let few : length page.buffers ≡ 0 = many ∙ ap (λ (l : Layout). buffers_of l layers) e in
    let runs : runs_of leaf page (held_buffers page held) ≡ empty = ap (λ (l : Layout). runs_by leaf l (held_buffers page held)) e in
    record {
      row_is = at;
      past_is = constant_past page.rows row piece.past less end ∙ ap (λ (r : Runs). past (run r) page.rows row) (sym runs);
      cut = record {
        spans = ap (λ (c : RowCut). c.spans) made ∙ sym (ap (λ (l : Layout). spans_for l (cover (held_run leaf page held) row piece.past)) e);
        bytes_are = none ∙ no_bytes (bytes_held held) page.buffers (cover (held_run leaf page held) row piece.past) few;
        skip = ap (λ (c : RowCut). c.skip) made;
      };
    }
