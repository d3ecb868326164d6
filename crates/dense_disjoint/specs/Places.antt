-- What a disjoint call leaves (the rules, section "The dense table", Disjoint). Assumes nothing.
use Rattle.std.specs.Prelude.{List, ℕ}
use Rattle.table.specs.Table.{Table}
use Rattle.table.specs.Calls.{Said}
use Rattle.table.specs.Sweeps.{disjoint}

-- the answer, the output, and the versions, in which the call makes its marks
abbrev pub Placing : Type 0
Placing = (Said × List ℕ) × List ℕ

abbrev pub leaves : Said → List ℕ → List ℕ → Placing
leaves said out versions = ((said, out), versions)

-- the answer and the output of the definition; the marks are undone in every case, so the versions are those at entry
abbrev pub disjointly : Table → List ℕ → List ℕ → Placing
disjointly t ks out = (disjoint t ks out, t.versions)
