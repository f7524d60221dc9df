-- Pages that keep to the rules for a leaf are read from what is written of them.
use Rattle.std.proofs.Common.{◌≡◌, ℕ, ◌+◌, ◌^◌, ◌<◌, ◌≤◌, List, [], ◌∷◌, length, map, refl, sym, ap, subst, ◌∙◌, arith, inl, inr}
use Rattle.std.specs.Prelude.{All, sum_by}
use Rattle.std.specs.List.{AllByRecursion}
use Rattle.std.proofs.lemmas.List.{length-map}
use Rattle.std.proofs.lemmas.List.Elements.{All-head, All-tail}
use Rattle.std.proofs.lemmas.List.Sums.{sum_by-cons}
use Rattle.lan_bytes.specs.Placed.{Placed}
use Rattle.lan_model.specs.declared.range.Range.{Range}
use Rattle.lan_model.specs.declared.tree.Layer.{Layer}
use Rattle.lan_model.specs.declared.tree.Layer.TheVariants as layer
use Rattle.lan_model.specs.Leaves.{PlainLeaf}
use Rattle.lan_levels.specs.Codes.{FitsCode, FitCodes}
use Rattle.lan_levels.specs.declared.shape.ValueKind.{ValueKind}
use Rattle.lan_levels.specs.declared.shape.ValueKind.TheVariants as stored
use Rattle.lan_levels.specs.ZipForm.{digits}
use Rattle.lan_wire.specs.Messages.{ReadEach}
use Rattle.lan_wire.specs.Rules.{open_to}
use Rattle.lan_wire.specs.Values.{parts_under}
use Rattle.lan_wire.specs.Written.{WrittenField, parts, spelling_of, items_placed}
use Rattle.lan_wire.proofs.LawTerms.{written_read, all_short, parts_back}
use Rattle.lan_meta.specs.declared.page.Layout.{Layout}
use Rattle.lan_meta.specs.declared.page.Layout.TheVariants.{Constant, Mini, Zip}
use Rattle.lan_meta.specs.declared.page.PageMeta.{PageMeta}
use Rattle.lan_meta.specs.declared.reading.TheConstants.{COLUMN_METADATA}
use Rattle.lan_meta.specs.Columns.{StandsForPage, ColumnOf}
use Rattle.lan_meta.specs.PageKeeps.{KeepsRules}
use Rattle.lan_meta.specs.PageRules.{FitLayers, FitValues, FitBits, slots_of, buffers_of, ranges_of, EndBefore}
use Rattle.lan_meta.specs.PagesTold.{HasFewBits, StoresFewBits, CanBeTold}
use Rattle.lan_meta.specs.Stage.{IsStaged}
use Rattle.lan_meta.specs.Written.{page_written, page_texts, column_text}
use Rattle.lan_meta.proofs.PagesBack.{lists_same, said_page, page_back}
use Rattle.lan_meta.proofs.ReadBack.{Words, AreBytes, ValuesFit, said_layout, LayoutFits}

code_small : (c : ℕ) (l : Layer) → FitsCode c l → c < 256
code_small c (layer.Item n) f = elim f [ inl e ↦ omega (arith, e) | inr e ↦ omega (arith, e) ]
code_small c (layer.Struct n m) f = elim f [ inl e ↦ omega (arith, e) | inr e ↦ omega (arith, e) ]
code_small c (layer.List n) f = elim f [ inl e ↦ omega (arith, e) | inr g ↦ elim g [ inl e ↦ omega (arith, e) | inr h ↦ elim h [ inl e ↦ omega (arith, e) | inr e ↦ omega (arith, e) ] ] ]

codes_bytes : (codes : List ℕ) (layers : List Layer) → FitCodes codes layers → AreBytes codes
codes_bytes [] [] f = tt
codes_bytes [] (l ∷ ls) f = absurd f
codes_bytes (c ∷ cs) [] f = absurd f
codes_bytes (c ∷ cs) (l ∷ ls) f = (code_small c l f.0, codes_bytes cs ls f.1)

values_fit : (values : ValueKind) → HasFewBits values → ValuesFit values
values_fit (stored.Flat bits) h = h
values_fit stored.Variable h = tt
values_fit (stored.Constant value) h = tt

layout_fits : (layout : Layout) (layers : List Layer) → IsStaged layout → FitLayers layout layers → slots_of layout < 2 ^ 64 → StoresFewBits layout → LayoutFits layout
layout_fits (Constant codes slots value) layers staged fl few bits = (codes_bytes codes layers fl.0, few)
layout_fits (Mini codes slots values) layers staged fl few bits = absurd staged
layout_fits (Zip codes slots values) layers staged fl few bits = (codes_bytes codes layers fl, few, values_fit values bits)

-- a layout is said with the bits that its control words take
layout_is : (layout : Layout) → (said_layout layout).layout ≡ layout
layout_is (Constant codes slots value) = refl
layout_is (Mini codes slots values) = refl
layout_is (Zip codes slots values) = refl

bits_fit : (layout : Layout) (layers : List Layer) → FitLayers layout layers → FitBits (said_layout layout) layout layers
bits_fit (Constant codes slots value) layers fl = tt
bits_fit (Mini codes slots values) layers fl = tt
bits_fit (Zip codes slots values) layers fl = (ap digits (lists_same codes layers fl), refl)

-- the places of buffers and their sizes are words, where the buffers end at one
places_words : (end : ℕ) (buffers : List Range) → end < 2 ^ 64 → EndBefore end buffers → Words (map (λ (b : Range). b.at) buffers) × Words (map (λ (b : Range). b.len) buffers)
places_words end [] few before = (tt, tt)
places_words end (b ∷ bs) few before =
    let P : Range → Type 0 = λ r. r.at + r.len ≤ end in
    let one : b.at + b.len ≤ end = All-head P b bs before in
    let rest = places_words end bs few (All-tail P b bs before) in
    ((omega (arith, one, few), rest.0), (omega (arith, one, few), rest.1))

ranges_back : (buffers : List Range) → ranges_of (map (λ (b : Range). b.at) buffers) (map (λ (b : Range). b.len) buffers) ≡ buffers
ranges_back [] = refl
ranges_back (b ∷ bs) = ap (λ (l : List Range). b ∷ l) (ranges_back bs)

page_stands : (leaf : PlainLeaf) (end at before : ℕ) (page : PageMeta) → KeepsRules leaf page → CanBeTold page → EndBefore end page.buffers → end < 2 ^ 64 → before < 2 ^ 64 → length (spelling_of (page_written before page)) < 2 ^ 64
    → StandsForPage leaf end (record { base = at; bytes = spelling_of (page_written before page) }) page
page_stands leaf end at before page keeps told within few prior small =
    let words = places_words end page.buffers few within in
    let same : (said_layout page.layout).layout ≡ page.layout = layout_is page.layout in
    let back = ranges_back page.buffers in
    let fits = layout_fits page.layout leaf.layers keeps.staged keeps.layers told.slots told.bits in
    let offsets = length-map page.buffers (λ (b : Range). b.at) in
    let sizes = length-map page.buffers (λ (b : Range). b.len) in
    let P : Layout → Type 0 = λ layout. FitLayers layout leaf.layers in
    let Q : Layout → Type 0 = λ layout. FitValues layout leaf.ty in
    let S : Layout → Type 0 = λ layout. page.rows ≤ slots_of layout in
    let R : Layout → Type 0 = λ layout. FitBits (said_layout page.layout) layout leaf.layers in
    record {
      whole = said_page page;
      said = page_back at before page prior told.rows words.0 words.1 fits small;
      obeys = record {
        layers = subst P (sym same) keeps.layers;
        counts = record {
          some = keeps.some;
          slots = subst S (sym same) keeps.slots;
          alone = λ none. ap slots_of same ∙ keeps.alone none;
          sizes = sizes ∙ sym offsets;
          buffers = offsets ∙ keeps.buffers ∙ ap (λ (l : Layout). buffers_of l leaf.layers) (sym same);
        };
        values = subst Q (sym same) keeps.values;
        bits = subst R (sym same) (bits_fit page.layout leaf.layers keeps.layers);
        region = subst (EndBefore end) (sym back) within;
      };
      is = sym (λ i. record { rows = page.rows; layout = same i; buffers = back i });
    }

-- pages as columns tell them, behind so many rows
pages_stand : (leaf : PlainLeaf) (end before : ℕ) (news : List Placed) (pages : List PageMeta) → All (KeepsRules leaf) pages → All CanBeTold pages → All (λ (p : PageMeta). EndBefore end p.buffers) pages → end < 2 ^ 64
    → before + sum_by (λ (p : PageMeta). p.rows) pages < 2 ^ 64 → AllByRecursion (λ bytes. length bytes < 2 ^ 64) (page_texts before pages) → map (λ (p : Placed). p.bytes) news ≡ page_texts before pages → ReadEach (StandsForPage leaf end) news pages
pages_stand leaf end before [] [] keep told within few small short e = refl
pages_stand leaf end before (n ∷ ns) [] keep told within few small short e = absurd cc
pages_stand leaf end before [] (page ∷ pages) keep told within few small short e = absurd cc
pages_stand leaf end before (n ∷ ns) (page ∷ pages) keep told within few small short e =
    let Before : PageMeta → Type 0 = λ p. EndBefore end p.buffers in
    let text : n.bytes ≡ spelling_of (page_written before page) = cc in
    let texts : map (λ (p : Placed). p.bytes) ns ≡ page_texts (before + page.rows) pages = cc in
    let size = sum_by-cons (λ (p : PageMeta). p.rows) page pages in
    let stood =
    page_stands leaf end n.base before page (All-head (KeepsRules leaf) page pages keep) (All-head CanBeTold page pages told) (All-head Before page pages within) few (omega (arith, small)) short.0 in (
      page,
      pages,
      refl,
      subst (λ (bytes : List ℕ). StandsForPage leaf end (record { base = n.base; bytes = bytes }) page) (sym text) stood,
      pages_stand leaf end (before + page.rows) ns pages (All-tail (KeepsRules leaf) page pages keep) (All-tail CanBeTold page pages told) (All-tail Before page pages within) few (omega (arith, small, size)) short.1 texts,
    )

pub kept_back : (leaf : PlainLeaf) (end at : ℕ) (pages : List PageMeta) → All (KeepsRules leaf) pages → All CanBeTold pages → All (λ (p : PageMeta). EndBefore end p.buffers) pages → end < 2 ^ 64 → sum_by (λ (p : PageMeta). p.rows) pages < 2 ^ 64
    → length (column_text pages) < 2 ^ 64 → ColumnOf (record { base = at; bytes = column_text pages }) leaf end pages
kept_back leaf end at pages keep told within few rows small =
    let texts = page_texts 0 pages in
    let fields : List WrittenField = (2, parts texts) ∷ [] in
    let short = all_short fields small in
    record {
      items = items_placed at fields;
      reads = written_read (open_to COLUMN_METADATA) at fields (record { low = omega arith; up = omega arith; room = refl; spells = tt; fits = tt }, tt) short;
      said = pages_stand leaf end 0 (parts_under 2 (items_placed at fields)) pages keep told within few (omega (arith, rows)) short.0 (parts_back 2 at fields texts refl);
    }
