-- Where the rows of a page begin in its content.
use Rattle.std.specs.Prelude.{◌≡◌, ℕ, ◌+◌, ◌*◌, ⊤, min, List, length, Option, None, IsSome}
use Rattle.lan_model.specs.declared.range.Range.{Range}
use Rattle.lan_levels.specs.Offsets.{place_at}
use Rattle.lan_levels.specs.Runs.{Runs, even, placed}
use Rattle.lan_levels.specs.Stretch.{Stretch}
use Rattle.lan_page.specs.declared.places.Known.{Known}
use Rattle.lan_page.specs.declared.places.Known.TheVariants.{Even, Listed}
use Rattle.lan_page.specs.declared.places.Places.{Places}

abbrev pub known_runs : Known → Runs
known_runs (Even width) = even width
known_runs (Listed places) = placed places.now

-- there is a place for each row, and one for the end
abbrev pub HasAll : ℕ → Known → Type 0
HasAll rows (Even width) = ⊤
HasAll rows (Listed places) = length places.now ≡ 8 * (rows + 1)

-- the places are these bytes, where there are such
abbrev pub IsGiven : Option Range → List ℕ → Known → Type 0
IsGiven place index (Even width) = place ≡ None
IsGiven place index (Listed places) = IsSome place × (places.now ≡ index)

-- the place of that number; no row of a width goes past the end
abbrev pub known_place : Known → ℕ → ℕ → ℕ
known_place (Even width) content n = min (width * n) content
known_place (Listed places) content n = place_at places.now n

abbrev pub place_in : Places → ℕ → ℕ
place_in p n = known_place p.known p.content n

abbrev pub range_stretch : Range → Stretch
range_stretch r = record { from = r.at; past = r.at + r.len }

abbrev pub IsListed : Known → Type 0
IsListed (Even width) = ⊥
IsListed (Listed places) = ⊤
