-- Tests in order, each with the number of its refusal. Assumes nothing.
use Rattle.std.specs.Prelude.{Bool, cond, List, [], ◌∷◌, ℕ}
use Rattle.std.proofs.Math.Option.{Option, none, some}

abbrev pub Tests : Type 0
Tests = List (Bool × ℕ)

-- the number of the first test that fails
abbrev pub first : Tests → Option ℕ
first [] = none
first (e ∷ l) = cond e.0 (first l) (some e.1)
