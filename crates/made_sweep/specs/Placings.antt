-- What a disjoint call leaves, with its answer as the programs tell it. Assumes nothing.
use Rattle.std.specs.Prelude.{List, ℕ}
use Rattle.dense_disjoint.specs.Places.{Placing}
use Rattle.answers.specs.declared.Answer.{Answer}
use Rattle.answers.specs.Listed.{listed}

-- the answer, the output, and the versions, in which the call makes its marks
abbrev pub leaves : Answer → List ℕ → List ℕ → (Answer × List ℕ) × List ℕ
leaves a out versions = ((a, out), versions)

-- what the rules leave; d is what "done" answers
abbrev pub tells_places : Answer → Placing → (Answer × List ℕ) × List ℕ
tells_places d p = leaves (listed d p.0.0) p.0.1 p.1
