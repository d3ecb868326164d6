-- Lists as lines of numbers, and the lines of a text. Bytes are ASCII. Assumes nothing.
use Rattle.std.specs.Prelude.{ℕ, zero, suc, ◌-◌, cond, List, [], ◌∷◌, take, drop, eqb}
use Rattle.pieces.specs.Pieces.{space, newline}

-- a list as a line, each number by its text: a space before each, and a newline after the last
abbrev pub row : {X : Type 0} → (X → List ℕ) → List X → List (List ℕ)
row text [] = newline ∷ []
row text (x ∷ xs) = space ∷ text x ∷ row text xs

-- ---- lines of a text

-- the end of the line that begins at a place: behind the first newline from there on, or the text's end
abbrev pub line_end : List ℕ → ℕ → ℕ
line_end [] at = 0
line_end (b ∷ t) zero = cond (eqb b 10) 1 (suc (line_end t zero))
line_end (b ∷ t) (suc at) = suc (line_end t at)

-- that line
abbrev pub line_at : List ℕ → ℕ → List ℕ
line_at t at = take (line_end t at - at) (drop at t)
