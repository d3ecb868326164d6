-- What a rebuild leaves, on paper. Assumes nothing.
use Rattle.std.specs.Prelude.{List, ℕ}
use Rattle.table.specs.Calls.{Begun}
use Rattle.image.specs.Rebuild.{Arrays}

-- how a table begins, and the four lists that a call leaves
abbrev pub outcome : Begun → List ℕ → List ℕ → List ℕ → List ℕ → Begun × Arrays
outcome b vs ls ks xs = (b, record { versions = vs; links = ls; keys = ks; values = xs })
