-- What of column metadata and of pages isn't read yet; each line goes when it is.
use Rattle.std.specs.Prelude.{ℕ, ⊤, List, [], ◌∷◌}
use Rattle.lan_levels.specs.declared.shape.ValueKind.{ValueKind}
use Rattle.lan_levels.specs.PlainSlots.{PlainSlot}
use Rattle.lan_model.specs.Leaves.{PlainLeaf}
use Rattle.lan_meta.specs.declared.page.Layout.{Layout}
use Rattle.lan_meta.specs.declared.page.Layout.TheVariants.{Mini}
use Rattle.lan_wire.specs.declared.rules.Kind.TheVariants.{Refused}
use Rattle.lan_wire.specs.declared.rules.Rule.{Rule}

-- pages of chunks: a PageLayout takes no number 1
abbrev pub not_yet : List Rule
not_yet = record { 0 = 1; 1 = Refused } ∷ []

-- pages of chunks: no buffers stand for slots so
abbrev pub MiniOf : PlainLeaf → ℕ → List ℕ → ℕ → ValueKind → List (List ℕ) → List PlainSlot → Type 0
MiniOf leaf rows codes count values buffers slots = ⊥

-- and no page that is handed on is one
abbrev pub IsStaged : Layout → Type 0
IsStaged (Mini codes slots values) = ⊥
IsStaged layout = ⊤
