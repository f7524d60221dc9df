-- The pages of a column are read from what is written of them.
use Rattle.std.proofs.Common.{◌≡◌, ◌⊎◌, ℕ, ◌+◌, ◌^◌, ◌<◌, Bool, true, false, cond, List, [], ◌∷◌, length, map, count_by, refl, sym, ap, subst, ◌∙◌, arith, inl, inr}
use Rattle.std.specs.Prelude.{sum_by}
use Rattle.std.specs.List.{AllByRecursion}
use Rattle.std.proofs.lemmas.List.Sums.{sum_by-cons}
use Rattle.lan_bytes.specs.Placed.{Placed}
use Rattle.lan_model.specs.declared.range.Range.{Range}
use Rattle.lan_model.specs.declared.tree.Layer.{Layer}
use Rattle.lan_model.specs.declared.tree.Layer.TheVariants as layer
use Rattle.lan_model.specs.Leaves.{PlainLeaf}
use Rattle.lan_levels.specs.Codes.{FitCodes}
use Rattle.lan_levels.specs.SlotsOf.{lists_in}
use Rattle.lan_wire.specs.Messages.{ReadEach}
use Rattle.lan_wire.specs.Rules.{open_to}
use Rattle.lan_wire.specs.Values.{nums_under, parts_under}
use Rattle.lan_wire.specs.Written.{WrittenField, parts, spelling_of, CanWriteAll, items_placed}
use Rattle.lan_wire.proofs.LawTerms.{written_read, all_short, num_back, nums_back, part_back, parts_back, num_fits, nums_fit}
use Rattle.lan_meta.specs.declared.encoding.SaidPage.{SaidPage}
use Rattle.lan_meta.specs.declared.encoding.TheConstants.{PAGE}
use Rattle.lan_meta.specs.declared.layout.SaidLayout.{SaidLayout}
use Rattle.lan_meta.specs.declared.page.Layout.{Layout}
use Rattle.lan_meta.specs.declared.page.Layout.TheVariants.{Constant, Mini, Zip}
use Rattle.lan_meta.specs.declared.page.PageMeta.{PageMeta}
use Rattle.lan_meta.specs.declared.reading.TheConstants.{COLUMN_METADATA}
use Rattle.lan_meta.specs.Columns.{StandsForPage, ColumnOf}
use Rattle.lan_meta.specs.LayoutMessages.{plainly, SaysMini, SaysLayout}
use Rattle.lan_meta.specs.PageMessages.{SaysEncoding, SaysPage}
use Rattle.lan_meta.specs.PageRules.{FitLayers, greatest_of, FitBits, ranges_of, Obeys, meta_of}
use Rattle.lan_levels.specs.ZipForm.{digits}
use Rattle.lan_meta.specs.Written.{is_list, encoding_text, page_written, page_texts, column_text}
use Rattle.lan_meta.proofs.OneColumn.{no_mini}
use Rattle.lan_meta.proofs.ReadBack.{Words, narrows_fit, said_layout, LayoutFits, values_told, encoding_back}

-- ---- what a page's message said

-- pages of one value have no control words
abbrev IsPlain : Layout → SaidLayout → Type 0
IsPlain (Constant codes slots value) said = said ≡ plainly (Constant codes slots value)
IsPlain layout said = Unit {0}

record Told (said : SaidLayout) : Type 0 where
  fits : LayoutFits said.layout
  plain : IsPlain said.layout said

layout_told : (bytes : Placed) (said : SaidLayout) → SaysLayout bytes said → Told said
layout_told bytes said s = elim s.said [
  | inl w ↦ no_mini bytes s.items SaysMini said s.reads w
  | inr t ↦ elim t [
    | inl w ↦ subst Told (sym w.holds.said) (record { fits = (narrows_fit (nums_under 1 w.holds.items), num_fits 2 w.part.base w.part.bytes w.holds.items w.holds.reads.spelled); plain = refl })
    | inr w ↦
        let z = w.holds.said in
        subst Told (sym z.2) (record { fits = (narrows_fit (nums_under 1 w.holds.items), num_fits 2 w.part.base w.part.bytes w.holds.items w.holds.reads.spelled, values_told z.1.part z.0 z.1.holds); plain = tt })
  ]
]

encoding_told : (bytes : Placed) (said : SaidLayout) → SaysEncoding bytes said → Told said
encoding_told bytes said s = let direct = s.said.holds in let layout = direct.said in layout_told layout.part said layout.holds

-- ---- the bits of control words

code_by : (b : Bool) (code : ℕ) (codes : List ℕ) (layers : ℕ) (more : ℕ) → is_list code ≡ b → count_by is_list codes ≡ layers → more ≡ cond b 1 0 → count_by is_list (code ∷ codes) ≡ layers + more
code_by b code codes layers more e h m =
    sum_by-cons (λ c. cond (is_list c) 1 0) code codes ∙ (let one : cond (is_list code) 1 0 ≡ more = ap (λ (t : Bool). cond t 1 0) e ∙ sym m in omega (arith, one, h))

list_code : (code : ℕ) → (code ≡ 2) ⊎ ((code ≡ 4) ⊎ ((code ≡ 5) ⊎ (code ≡ 6))) → is_list code ≡ true
list_code code (inl e) = ap is_list e
list_code code (inr (inl e)) = ap is_list e
list_code code (inr (inr (inl e))) = ap is_list e
list_code code (inr (inr (inr e))) = ap is_list e

other_code : (code : ℕ) → (code ≡ 1) ⊎ (code ≡ 3) → is_list code ≡ false
other_code code (inl e) = ap is_list e
other_code code (inr e) = ap is_list e

pub lists_same : (codes : List ℕ) (layers : List Layer) → FitCodes codes layers → count_by is_list codes ≡ lists_in layers
lists_same [] [] h = refl
lists_same [] (l ∷ ls) h = absurd h
lists_same (c ∷ cs) [] h = absurd h
lists_same (c ∷ cs) (layer.Item n ∷ ls) h = code_by false c cs (lists_in ls) 0 (other_code c h.0) (lists_same cs ls h.1) refl ∙ omega arith
lists_same (c ∷ cs) (layer.Struct n m ∷ ls) h = code_by false c cs (lists_in ls) 0 (other_code c h.0) (lists_same cs ls h.1) refl ∙ omega arith
lists_same (c ∷ cs) (layer.List n ∷ ls) h = code_by true c cs (lists_in ls) 1 (list_code c h.0) (lists_same cs ls h.1) refl

layout_same : (layout : Layout) (reps defs : ℕ) (layers : List Layer) → Told (record { layout = layout; bits_rep = reps; bits_def = defs }) → FitLayers layout layers → FitBits (record { layout = layout; bits_rep = reps; bits_def = defs }) layout layers
    → said_layout layout ≡ record { layout = layout; bits_rep = reps; bits_def = defs }
layout_same (Constant codes slots value) reps defs layers told fl fb = sym told.plain
layout_same (Mini codes slots values) reps defs layers told fl fb = absurd told.fits
layout_same (Zip codes slots values) reps defs layers told fl fb =
    let rep : digits (count_by is_list codes) ≡ reps = ap digits (lists_same codes layers fl) ∙ sym fb.0 in
    let def : digits (greatest_of codes) ≡ defs = sym fb.1 in
    λ i. record { layout = Zip codes slots values; bits_rep = rep i; bits_def = def i }

-- ---- pages

at_same : (xs ys : List ℕ) → length ys ≡ length xs → map (λ (b : Range). b.at) (ranges_of xs ys) ≡ xs
at_same [] ys e = refl
at_same (x ∷ xs) [] e = absurd (omega (arith, e))
at_same (x ∷ xs) (y ∷ ys) e = ap (λ (zs : List ℕ). x ∷ zs) (at_same xs ys (omega (arith, e)))

len_same : (xs ys : List ℕ) → length ys ≡ length xs → map (λ (b : Range). b.len) (ranges_of xs ys) ≡ ys
len_same [] [] e = refl
len_same [] (y ∷ ys) e = absurd (omega (arith, e))
len_same (x ∷ xs) [] e = absurd (omega (arith, e))
len_same (x ∷ xs) (y ∷ ys) e = ap (λ (zs : List ℕ). y ∷ zs) (len_same xs ys (omega (arith, e)))

-- a page as its message says it
abbrev pub said_page : PageMeta → SaidPage
said_page page = record { rows = page.rows; offsets = map (λ (b : Range). b.at) page.buffers; sizes = map (λ (b : Range). b.len) page.buffers; layout = said_layout page.layout }

record PageFits (page : SaidPage) : Type 0 where
  rows : page.rows < 2 ^ 64
  offsets : Words page.offsets
  sizes : Words page.sizes
  layout : Told page.layout

page_told : (bytes : Placed) (page : SaidPage) → SaysPage bytes page → PageFits page
page_told bytes page s =
    subst PageFits (sym s.said.2) (record {
      rows = num_fits 3 bytes.base bytes.bytes s.items s.reads.spelled;
      offsets = nums_fit (open_to PAGE) bytes s.items 1 s.reads refl;
      sizes = nums_fit (open_to PAGE) bytes s.items 2 s.reads refl;
      layout = encoding_told s.said.1.part s.said.0 s.said.1.holds;
    })

whole_same : (leaf : PlainLeaf) (end : ℕ) (whole : SaidPage) → PageFits whole → Obeys leaf end whole → said_page (meta_of whole) ≡ whole
whole_same leaf end whole fits obeys =
    let offsets = at_same whole.offsets whole.sizes obeys.counts.sizes in
    let sizes = len_same whole.offsets whole.sizes obeys.counts.sizes in
    let layout = layout_same whole.layout.layout whole.layout.bits_rep whole.layout.bits_def leaf.layers fits.layout obeys.layers obeys.bits in
    λ i. record { rows = whole.rows; offsets = offsets i; sizes = sizes i; layout = layout i }

pub page_back : (at before : ℕ) (page : PageMeta) → before < 2 ^ 64 → page.rows < 2 ^ 64 → Words (map (λ (b : Range). b.at) page.buffers) → Words (map (λ (b : Range). b.len) page.buffers) → LayoutFits page.layout
    → length (spelling_of (page_written before page)) < 2 ^ 64 → SaysPage (record { base = at; bytes = spelling_of (page_written before page) }) (said_page page)
page_back at before page prior rows offsets sizes layout small =
    let fields = page_written before page in
    let short = all_short fields small in
    let offset = nums_back 1 at fields (map (λ (b : Range). b.at) page.buffers) offsets refl in
    let size = nums_back 2 at fields (map (λ (b : Range). b.len) page.buffers) sizes refl in
    let row = num_back 3 at fields page.rows refl in
    let there = part_back 4 at fields (encoding_text page.layout) refl in
    let can : CanWriteAll (open_to PAGE) [] fields = (
      record { low = omega arith; up = omega arith; room = refl; spells = offsets; fits = tt },
      (
        record { low = omega arith; up = omega arith; room = refl; spells = sizes; fits = tt },
        (
          record { low = omega arith; up = omega arith; room = refl; spells = rows; fits = tt },
          (
            record { low = omega arith; up = omega arith; room = refl; spells = tt; fits = tt },
            (record { low = omega arith; up = omega arith; room = refl; spells = prior; fits = tt }, tt),
          ),
        ),
      ),
    ) in
    record {
      items = items_placed at fields;
      reads = written_read (open_to PAGE) at fields can short;
      said = (
        said_layout page.layout,
        record { part = record { base = there.0; bytes = encoding_text page.layout }; said = there.1; holds = encoding_back there.0 page.layout layout short.1.1.1.0 },
        sym (λ i. record { rows = row i; offsets = offset i; sizes = size i; layout = said_layout page.layout }),
      );
    }

stand_back : (leaf : PlainLeaf) (end at before : ℕ) (bytes : Placed) (page : PageMeta) → StandsForPage leaf end bytes page → before < 2 ^ 64 → length (spelling_of (page_written before page)) < 2 ^ 64
    → StandsForPage leaf end (record { base = at; bytes = spelling_of (page_written before page) }) page
stand_back leaf end at before bytes page p prior small =
    let fits = page_told bytes p.whole p.said in
    let same : said_page page ≡ p.whole = ap said_page p.is ∙ whole_same leaf end p.whole fits p.obeys in
    let now : PageFits (said_page page) = subst PageFits (sym same) fits in
    let layout : LayoutFits page.layout = subst LayoutFits (sym (ap (λ (m : PageMeta). m.layout) p.is)) fits.layout.fits in
    record {
      whole = said_page page;
      said = page_back at before page prior now.rows now.offsets now.sizes layout small;
      obeys = subst (Obeys leaf end) (sym same) p.obeys;
      is = p.is ∙ ap meta_of (sym same);
    }

-- ---- columns

abbrev rows_of : List PageMeta → ℕ
rows_of pages = sum_by (λ (page : PageMeta). page.rows) pages

pages_back : (leaf : PlainLeaf) (end before : ℕ) (olds news : List Placed) (pages : List PageMeta) → ReadEach (StandsForPage leaf end) olds pages → before + rows_of pages < 2 ^ 64
    → AllByRecursion (λ bytes. length bytes < 2 ^ 64) (page_texts before pages) → map (λ (p : Placed). p.bytes) news ≡ page_texts before pages → ReadEach (StandsForPage leaf end) news pages
pages_back leaf end before olds [] [] r small short e = refl
pages_back leaf end before olds (n ∷ ns) [] r small short e = absurd cc
pages_back leaf end before olds [] (page ∷ pages) r small short e = absurd cc
pages_back leaf end before [] (n ∷ ns) (page ∷ pages) r small short e = absurd cc
pages_back leaf end before (o ∷ os) (n ∷ ns) (page ∷ pages) r small short e =
    let first : page ≡ r.0 = cc in
    let others : pages ≡ r.1 = cc in
    let text : n.bytes ≡ spelling_of (page_written before page) = cc in
    let texts : map (λ (p : Placed). p.bytes) ns ≡ page_texts (before + page.rows) pages = cc in
    let size = sum_by-cons (λ (p : PageMeta). p.rows) page pages in
    let stood = stand_back leaf end n.base before o page (subst (StandsForPage leaf end o) (sym first) r.3) (omega (arith, small)) short.0 in (
      page,
      pages,
      refl,
      subst (λ (bytes : List ℕ). StandsForPage leaf end (record { base = n.base; bytes = bytes }) page) (sym text) stood,
      pages_back leaf end (before + page.rows) os ns pages (subst (ReadEach (StandsForPage leaf end) os) (sym others) r.4) (omega (arith, small, size)) short.1 texts,
    )

pub column_back : (bytes : Placed) (leaf : PlainLeaf) (end at : ℕ) (pages : List PageMeta) → ColumnOf bytes leaf end pages → rows_of pages < 2 ^ 64 → length (column_text pages) < 2 ^ 64 → ColumnOf (record { base = at; bytes = column_text pages }) leaf end pages
column_back bytes leaf end at pages p few small =
    let texts = page_texts 0 pages in
    let fields : List WrittenField = (2, parts texts) ∷ [] in
    let short = all_short fields small in
    record {
      items = items_placed at fields;
      reads = written_read (open_to COLUMN_METADATA) at fields (record { low = omega arith; up = omega arith; room = refl; spells = tt; fits = tt }, tt) short;
      said = pages_back leaf end 0 (parts_under 2 p.items) (parts_under 2 (items_placed at fields)) pages p.said (omega (arith, few)) short.0 (parts_back 2 at fields texts refl);
    }
