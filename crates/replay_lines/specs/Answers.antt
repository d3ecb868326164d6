-- The text of an answer in a replay's output, piece by piece. Bytes are ASCII. Assumes nothing.
use Rattle.std.specs.Prelude.{ℕ, ◌/◌, ◌%◌, cond, Option, None, Some, List, [], ◌∷◌, ◌++◌, take}
use Rattle.text.specs.Text.{decimal}
use Rattle.pieces.specs.Pieces.{space, newline}
use Rattle.lines.specs.Lines.{row}
use Rattle.replay_hex.specs.Hex.{hex64}
use Rattle.answers.specs.declared.Answer.{Answer}
use Rattle.answers.specs.declared.Answer.TheVariants.{Refused, Number, Key, Pair, Step, Places, Digest, Counts, Kept, Ignored, Replaced, Truth}

-- `-`, `.`, `v`
abbrev pub minus : List ℕ
minus = 45 ∷ []

abbrev pub dot : List ℕ
dot = 46 ∷ []

abbrev pub letter_v : List ℕ
letter_v = 118 ∷ []

-- a stored key: index, `v`, version, even ones too
abbrev pub key : ℕ → List (List ℕ)
key k = decimal (k % 4294967296) ∷ letter_v ∷ decimal (k / 4294967296) ∷ []

-- a key and its value
abbrev pub pair : ℕ → ℕ → List (List ℕ)
pair k x = key k ++ (space ∷ decimal x ∷ [])

-- an answer but for its places and its newline; one that has only its kind to tell has a mark, `k`, `i`, or a dot
abbrev pub text_of : Answer → List (List ℕ)
text_of (Refused r) = minus ∷ decimal r ∷ []
text_of (Number x) = decimal x ∷ []
text_of (Replaced x) = decimal x ∷ []
text_of (Truth b) = decimal (cond b 1 0) ∷ []
text_of (Digest d) = hex64 d
text_of (Counts a b) = decimal a ∷ space ∷ decimal b ∷ []
text_of (Key k) = key k
text_of (Pair k x) = pair k x
text_of (Step k x q) = pair k x ++ (space ∷ decimal q ∷ [])
text_of Kept = (107 ∷ []) ∷ []
text_of Ignored = (105 ∷ []) ∷ []
text_of _ = dot ∷ []

-- the line of an answer, whose places are the first of a list; where nothing is answered there is none
abbrev pub line_of : Option Answer → List ℕ → List (List ℕ)
line_of None places = []
line_of (Some (Places m)) places = dot ∷ row decimal (take m places)
line_of (Some a) places = text_of a ++ (newline ∷ [])
