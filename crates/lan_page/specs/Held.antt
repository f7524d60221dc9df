-- A page in an object.
use Rattle.std.specs.Prelude.{ℕ, ⊤, List, [], ◌∷◌, length, Option, unwrap_or, IsSomeAnd}
use Rattle.lan_model.specs.declared.range.Range.{Range}
use Rattle.lan_model.specs.Leaves.{PlainLeaf}
use Rattle.lan_levels.specs.PlainSlots.{PlainSlot}
use Rattle.lan_levels.specs.Runs.{run}
use Rattle.lan_levels.specs.Stretch.{Stretch}
use Rattle.lan_meta.specs.declared.page.PageMeta.{PageMeta}
use Rattle.lan_meta.specs.PageOf.{IsPage, buffers_in}
use Rattle.lan_meta.specs.PageRules.{EndBefore}
use Rattle.lan_meta.specs.PageRuns.{runs_of}

-- the bytes of an object, none where it isn't held
abbrev pub bytes_held : Option (List ℕ) → List ℕ
bytes_held held = unwrap_or held []

-- where there are buffers, an object is held, and has each
abbrev pub HasBuffers : Option (List ℕ) → List Range → Type 0
HasBuffers held [] = ⊤
HasBuffers held (b ∷ buffers) = IsSomeAnd held (λ bytes. EndBefore (length bytes) (b ∷ buffers))

-- the bytes of the page's buffers
abbrev pub held_buffers : PageMeta → Option (List ℕ) → List (List ℕ)
held_buffers page held = buffers_in (bytes_held held) page.buffers

-- the object has the page's buffers, and they stand for these slots
pub record HoldsPage (leaf : PlainLeaf) (page : PageMeta) (held : Option (List ℕ)) (slots : List PlainSlot) : Type 0 where
  pub has : HasBuffers held page.buffers
  pub stands : IsPage leaf page (held_buffers page held) slots

-- where the page's rows lie in its content
abbrev pub held_run : PlainLeaf → PageMeta → Option (List ℕ) → ℕ → Stretch
held_run leaf page held = run (runs_of leaf page (held_buffers page held))

-- the first of the buffers
abbrev pub first_of : List (List ℕ) → List ℕ
first_of [] = []
first_of (content ∷ more) = content
