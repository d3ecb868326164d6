-- The line that is printed for an answer. Assumes nothing.
use Rattle.std.specs.Prelude.{ℕ, Bool, true, false, List, [], ◌∷◌, ◌++◌}
use Rattle.text.specs.Text.{ok_text}
use Rattle.pieces.specs.Pieces.{newline}
use Rattle.answers.specs.declared.Answer.{Answer}
use Rattle.answers.specs.declared.Answer.TheVariants.{Done, Places, Ended, Truth, Stored, Kept, Ignored}
use Rattle.answer_figures.specs.Figures.{figures}

-- ---- the words, letter by letter

-- `done`
abbrev pub done_text : List ℕ
done_text = 100 ∷ 111 ∷ 110 ∷ 101 ∷ []

-- `stored`
abbrev pub stored_text : List ℕ
stored_text = 115 ∷ 116 ∷ 111 ∷ 114 ∷ 101 ∷ 100 ∷ []

-- `kept`
abbrev pub kept_text : List ℕ
kept_text = 107 ∷ 101 ∷ 112 ∷ 116 ∷ []

-- `ignored`
abbrev pub ignored_text : List ℕ
ignored_text = 105 ∷ 103 ∷ 110 ∷ 111 ∷ 114 ∷ 101 ∷ 100 ∷ []

-- `yes`, `no`
abbrev pub truth_text : Bool → List ℕ
truth_text true = 121 ∷ 101 ∷ 115 ∷ []
truth_text false = 110 ∷ 111 ∷ []

-- ---- answers, in pieces

-- every kind: those that are told by a word, and the others
abbrev pub text_of : Answer → List (List ℕ)
text_of Done = ok_text ∷ []
text_of (Places m) = ok_text ∷ []
text_of Ended = done_text ∷ []
text_of (Truth b) = truth_text b ∷ []
text_of Stored = stored_text ∷ []
text_of Kept = kept_text ∷ []
text_of Ignored = ignored_text ∷ []
text_of x = figures x

abbrev pub line_of : Answer → List (List ℕ)
line_of x = text_of x ++ (newline ∷ [])
