-- Hexadecimal digits in a replay's output, piece by piece. Bytes are ASCII. Assumes nothing.
use Rattle.std.specs.Prelude.{ℕ, ◌/◌, ◌%◌, List, [], ◌∷◌, ◌++◌}
use Rattle.pieces.specs.Pieces.{newline, hex_text}

-- a number of 64 bits as sixteen hexadecimal digits
abbrev pub hex16 : ℕ → List (List ℕ)
hex16 x = hex_text (x / 256) ∷ hex_text (x % 256) ∷ []

abbrev pub hex32 : ℕ → List (List ℕ)
hex32 x = hex16 (x / 65536) ++ hex16 (x % 65536)

abbrev pub hex64 : ℕ → List (List ℕ)
hex64 x = hex32 (x / 4294967296) ++ hex32 (x % 4294967296)

-- the line of an image
abbrev pub hex_line : List ℕ → List (List ℕ)
hex_line [] = newline ∷ []
hex_line (b ∷ bs) = hex_text b ∷ hex_line bs
