-- What is printed for a line of a script (the rules, section "Script"). Bytes are ASCII. Assumes nothing.
use Rattle.std.specs.Prelude.{ℕ, ◌+◌, List, [], ◌∷◌, ◌++◌, length}
use Rattle.lists.specs.Put.{put}
use Rattle.keys.specs.Keys.{key_of}
use Rattle.writing.specs.Told.{Told, tells}
use Rattle.text.specs.Text.{decimal, key_text, ok_text, refused_text}
use Rattle.table.specs.Calls.{Said, said_key, said_value, said_pair, said_done, said_count, said_truth, refused}

abbrev pub newline : ℕ
newline = 10

-- "success prints key, value, value, value, `ok`, n; refusals print `refused ` and the number"; no line of a script is answered otherwise
unfoldable pub answer_text : Said → List ℕ
answer_text (said_key k) = key_text (key_of k)
answer_text (said_value x) = decimal x
answer_text said_done = ok_text
answer_text (said_count m) = decimal m
answer_text (refused r) = refused_text ++ decimal r
answer_text (said_pair k x) = []
answer_text (said_truth b) = []

-- "a newline after each"
unfoldable pub line_out : Said → List ℕ
line_out a = answer_text a ++ (newline ∷ [])

-- the bytes of the longest line that is printed: index and version of ten digits each, `v` and the newline
abbrev pub room : ℕ
room = 22

-- ---- for private functions

-- an answer's line in the buffer b from a place on, where there is room for it: the place after it, and the buffer with the line put in
abbrev pub lined : Said → ℕ → List ℕ → Told ℕ × List ℕ
lined a at b = (tells (at + length (line_out a)), put b at (line_out a))
