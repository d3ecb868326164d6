-- Whether a number stands in a list. Assumes nothing.
use Rattle.std.specs.Prelude.{Bool, true, false, cond, List, [], ◌∷◌, ℕ, eqb}

unfoldable pub among : ℕ → List ℕ → Bool
among k [] = false
among k (j ∷ l) = cond (eqb k j) true (among k l)
