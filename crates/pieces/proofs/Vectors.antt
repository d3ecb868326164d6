-- Worked texts, each computed from the definitions. Assumes nothing.
use mathlib.Core.Path.{◌≡◌, refl}
use mathlib.Core.List.{[], ◌∷◌}
use Rattle.writing.specs.Writing.{written}
use Rattle.text.specs.Text.{decimal, digits}
use Rattle.pieces.specs.Pieces.{page, wrote, wrote_all, hex_digit, hex_text}

-- 0xac prints `ac`
hex_ac : hex_text 172 ≡ 97 ∷ 99 ∷ []
unfolding hex_digit
hex_ac = refl

-- in a buffer of three bytes the 300 is left out, and the newline is not
no_room : wrote_all (page 0 (1 ∷ 2 ∷ 3 ∷ [])) ((32 ∷ []) ∷ decimal 300 ∷ (10 ∷ []) ∷ []) ≡ page 2 (32 ∷ 10 ∷ 3 ∷ [])
unfolding digits wrote written
no_room = refl
