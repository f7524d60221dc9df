-- The parts of a page's content that hold some of its rows.
use Rattle.std.specs.Prelude.{◌≡◌, ℕ, ◌+◌, List, [], ◌∷◌, map, Option}
use Rattle.std.specs.List.{concat}
use Rattle.lan_model.specs.declared.range.Span.{Span}
use Rattle.lan_model.specs.Leaves.{PlainLeaf}
use Rattle.lan_levels.specs.Stretch.{Stretch, size, bytes_in, cover}
use Rattle.lan_meta.specs.declared.page.Layout.{Layout}
use Rattle.lan_meta.specs.declared.page.Layout.TheVariants.{Zip}
use Rattle.lan_meta.specs.declared.page.PageMeta.{PageMeta}
use Rattle.lan_page.specs.declared.cut.RowCut.{RowCut}
use Rattle.lan_page.specs.Held.{held_buffers, held_run, first_of}

abbrev pub one_span : Stretch → Span
one_span s = record { at = s.from; len = size s; first = 0; slots = 0 }

-- a stretch of a full-zip page's content as one part; a constant page has no content
abbrev pub spans_for : Layout → Stretch → List Span
spans_for (Zip codes slots values) s = one_span s ∷ []
spans_for layout s = []

-- the parts are the cover of the rows from `row` to before `past`, and these are its bytes
pub record IsCut (leaf : PlainLeaf) (page : PageMeta) (held : Option (List ℕ)) (row past : ℕ) (cut : RowCut) (bytes : List ℕ) : Type 0 where
  pub spans : cut.spans ≡ spans_for page.layout (cover (held_run leaf page held) row past)
  pub bytes_are : bytes ≡ bytes_in (first_of (held_buffers page held)) (cover (held_run leaf page held) row past)
  pub skip : cut.skip ≡ 0

abbrev pub span_stretch : Span → Stretch
span_stretch s = record { from = s.at; past = s.at + s.len }

-- the bytes are those of the content at the parts, one part after another
abbrev pub AreBytesAt : PageMeta → Option (List ℕ) → RowCut → List ℕ → Type 0
AreBytesAt page held cut bytes = bytes ≡ concat (map (λ (s : Span). bytes_in (first_of (held_buffers page held)) (span_stretch s)) cut.spans)
