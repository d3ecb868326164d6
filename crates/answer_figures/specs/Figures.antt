-- The answers that are told by their numbers, in pieces. Assumes nothing.
use Rattle.std.specs.Prelude.{ℕ, cond, List, [], ◌∷◌}
use Rattle.keys.specs.Keys.{key_of}
use Rattle.text.specs.Text.{decimal, key_text, refused_text}
use Rattle.pieces.specs.Pieces.{space}
use Rattle.answers.specs.declared.Answer.{Answer}
use Rattle.answers.specs.declared.Answer.TheVariants as kinds

-- `replaced `, with its space
abbrev pub replaced_text : List ℕ
replaced_text = 114 ∷ 101 ∷ 112 ∷ 108 ∷ 97 ∷ 99 ∷ 101 ∷ 100 ∷ 32 ∷ []

-- `n=.. s=.. f=..`
abbrev pub header_text : ℕ → ℕ → ℕ → List (List ℕ)
header_text n s f = (110 ∷ 61 ∷ []) ∷ decimal n ∷ (32 ∷ 115 ∷ 61 ∷ []) ∷ decimal s ∷ (32 ∷ 102 ∷ 61 ∷ []) ∷ decimal f ∷ []

-- `s=.. count=..`
abbrev pub map_header_text : ℕ → ℕ → List (List ℕ)
map_header_text s count = (115 ∷ 61 ∷ []) ∷ decimal s ∷ (32 ∷ 99 ∷ 111 ∷ 117 ∷ 110 ∷ 116 ∷ 61 ∷ []) ∷ decimal count ∷ []

-- the kinds that are told by their numbers; one that has no form of its own, by its number, or by 0 where it has none
abbrev pub figures : Answer → List (List ℕ)
figures (kinds.Refused r) = refused_text ∷ decimal r ∷ []
figures (kinds.Number x) = decimal x ∷ []
figures (kinds.Digest d) = decimal d ∷ []
figures (kinds.Written m) = decimal m ∷ []
figures (kinds.Key k) = key_text (key_of k) ∷ []
figures (kinds.Pair k x) = decimal k ∷ space ∷ decimal x ∷ []
figures (kinds.Counts a b) = decimal a ∷ space ∷ decimal b ∷ []
figures (kinds.Step k x q) = key_text (key_of k) ∷ space ∷ decimal x ∷ space ∷ decimal q ∷ []
figures (kinds.Replaced x) = replaced_text ∷ decimal x ∷ []
figures (kinds.Header n s f) = header_text n s f
figures (kinds.MapHeader s count) = map_header_text s count
figures (kinds.Places m) = decimal m ∷ []
figures (kinds.Truth b) = decimal (cond b 1 0) ∷ []
figures _ = decimal 0 ∷ []
