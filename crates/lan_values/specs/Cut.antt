-- Bytes cut into values.
use Rattle.std.specs.Prelude.{ℕ, List, [], ◌∷◌, take, drop}

-- bytes cut into values of these lengths
unfoldable pub cut_by : List ℕ → List ℕ → List (List ℕ)
cut_by [] all = []
cut_by (n ∷ ns) all = take n all ∷ cut_by ns (drop n all)
