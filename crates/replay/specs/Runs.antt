-- A list taken in from its front, element by element. Assumes nothing.
use Rattle.std.specs.Prelude.{List, [], ◌∷◌}

abbrev pub run : {S T : Type 0} → (S → T → S) → S → List T → S
run step s [] = s
run step s (x ∷ xs) = run step (step s x) xs
