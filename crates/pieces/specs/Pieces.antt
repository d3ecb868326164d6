-- Text in a lent buffer, piece by piece. Bytes are ASCII. Assumes nothing.
use Rattle.std.specs.Prelude.{ℕ, ◌+◌, ◌/◌, ◌%◌, cond, List, [], ◌∷◌, ◌++◌, ltb}
use Rattle.writing.specs.Told.{Told, tells, refused}
use Rattle.writing.specs.Writing.{written}

-- ---- pieces of text, one after the other

-- a place, and the buffer that it is in
abbrev pub page : ℕ → List ℕ → ℕ × List ℕ
page at b = (at, b)

-- the place behind a text that was asked at a place: its end, or the same place where the text did not fit
abbrev pub place_of : ℕ → Told ℕ → ℕ
place_of at (tells n) = n
place_of at (refused r) = at

-- a piece put in at the place, which moves on behind it; a piece that does not fit is left out, and nothing changes
unfoldable pub wrote : ℕ × List ℕ → List ℕ → ℕ × List ℕ
wrote p t = page (place_of p.0 (written p.0 t p.1).0) (written p.0 t p.1).1

abbrev pub wrote_all : ℕ × List ℕ → List (List ℕ) → ℕ × List ℕ
wrote_all p [] = p
wrote_all p (t ∷ ts) = wrote_all (wrote p t) ts

-- the pieces as one text
abbrev pub joined : List (List ℕ) → List ℕ
joined [] = []
joined (t ∷ ts) = t ++ joined ts

-- ---- pieces that lines are made of

abbrev pub space : List ℕ
space = 32 ∷ []

abbrev pub newline : List ℕ
newline = 10 ∷ []

-- `0` to `9`, and `a` to `f`
unfoldable pub hex_digit : ℕ → ℕ
hex_digit d = cond (ltb d 10) (48 + d) (87 + d)

-- a byte as two hexadecimal digits
abbrev pub hex_text : ℕ → List ℕ
hex_text b = hex_digit (b / 16) ∷ hex_digit (b % 16) ∷ []
