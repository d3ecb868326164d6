-- Worked lines, each computed from the definitions. Assumes nothing.
use mathlib.Core.Path.{◌≡◌, refl}
use mathlib.Core.List.{[], ◌∷◌}
use Rattle.text.specs.Text.{decimal, digits}
use Rattle.pieces.specs.Pieces.{joined}
use Rattle.lines.specs.Lines.{row, line_end}

-- 7 and 300 as a line: ` 7 300` and a newline
seven_and_300 : joined (row decimal (7 ∷ 300 ∷ [])) ≡ 32 ∷ 55 ∷ 32 ∷ 51 ∷ 48 ∷ 48 ∷ 10 ∷ []
unfolding digits
seven_and_300 = refl

-- of `ab`, newline, `c` the line at 1 ends at 3, the line at 3 at the text's end, and so does one behind it
line-ends : line_end (97 ∷ 98 ∷ 10 ∷ 99 ∷ []) 1 ≡ 3
line-ends = refl

last-line-ends : line_end (97 ∷ 98 ∷ 10 ∷ 99 ∷ []) 3 ≡ 4
last-line-ends = refl

behind-ends : line_end (97 ∷ 98 ∷ 10 ∷ 99 ∷ []) 9 ≡ 4
behind-ends = refl
