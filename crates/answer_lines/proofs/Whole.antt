-- An answer's line has at most 69 bytes, so where a buffer has that room it stands there whole. Assumes nothing.
use mathlib.Core.Path.{◌≡◌, refl}
use mathlib.Core.List.{List, [], ◌∷◌, ◌++◌}
use Prim.Native.Nat.{ℕ, ◌+◌, ◌^◌, ◌≤◌, ◌<◌}
use native.Mathlib.Omega.{arith}
use lib.ListN.{length, length-append}
use mathlib.Core.Bool.{true, false}
use Rattle.lists.specs.Put.{put}
use Rattle.lists.proofs.Tests.{either}
use Rattle.keys.specs.Keys.{idx, version, key_of, is_null}
use Rattle.keys.proofs.Keys.{version_word}
use Rattle.text.specs.Text.{decimal, null_text, key_text}
use Rattle.text.proofs.Decimal.{length-decimal_32, length-decimal_64}
use Rattle.pieces.specs.Pieces.{page, wrote_all, joined, newline}
use Rattle.pieces.proofs.Pieces.{wrote_all-fits}
use Rattle.answers.specs.declared.Answer.{Answer}
use Rattle.answers.specs.declared.Answer.TheVariants as kinds
use Rattle.answer_lines.specs.Answers.{text_of, line_of}

key_short : (k : ℕ) → length (key_text (key_of k)) ≤ 21
unfolding key_text
key_short k =
    either (λ (t : List ℕ). length t ≤ 21) (is_null (key_of k)) null_text (decimal (idx k) ++ (118 ∷ decimal (version k))) (omega arith)
    (omega (arith, length-append (decimal (idx k)) (118 ∷ decimal (version k)), length-decimal_32 (idx k) (omega arith), length-decimal_32 (version k) (version_word k)))

-- how many bytes pieces have
abbrev total : List (List ℕ) → ℕ
total [] = 0
total (t ∷ ts) = length t + total ts

length-joined : (ts : List (List ℕ)) → length (joined ts) ≡ total ts
length-joined [] = refl
length-joined (t ∷ ts) = omega (arith, length-append t (joined ts), length-joined ts)

-- the pieces of a line, its newline still to come
abbrev Short : List (List ℕ) → Type 0
Short ts = total (ts ++ (newline ∷ [])) ≤ 69

-- the numbers of an answer have at most 64 bits
abbrev pub Fits64 : Answer → Type 0
Fits64 (kinds.Refused r) = r < 2 ^ 64
Fits64 (kinds.Number x) = x < 2 ^ 64
Fits64 (kinds.Pair k x) = (k < 2 ^ 64) × (x < 2 ^ 64)
Fits64 (kinds.Step k x q) = (x < 2 ^ 64) × (q < 2 ^ 64)
Fits64 (kinds.Digest d) = d < 2 ^ 64
Fits64 (kinds.Counts a b) = (a < 2 ^ 64) × (b < 2 ^ 64)
Fits64 (kinds.Written m) = m < 2 ^ 64
Fits64 (kinds.Replaced x) = x < 2 ^ 64
Fits64 (kinds.Header n s f) = (n < 2 ^ 64) × ((s < 2 ^ 64) × (f < 2 ^ 64))
Fits64 (kinds.MapHeader s count) = (s < 2 ^ 64) × (count < 2 ^ 64)
Fits64 _ = Unit {0}

text_short : (x : Answer) → Fits64 x → Short (text_of x)
text_short kinds.Done h = omega arith
text_short (kinds.Refused r) h = omega (arith, length-decimal_64 r h)
text_short (kinds.Number x) h = omega (arith, length-decimal_64 x h)
text_short (kinds.Key k) h = omega (arith, key_short k)
text_short (kinds.Pair k x) h = omega (arith, length-decimal_64 k h.0, length-decimal_64 x h.1)
text_short (kinds.Step k x q) h = omega (arith, key_short k, length-decimal_64 x h.0, length-decimal_64 q h.1)
text_short (kinds.Places m) h = omega arith
text_short (kinds.Digest d) h = omega (arith, length-decimal_64 d h)
text_short (kinds.Counts a b) h = omega (arith, length-decimal_64 a h.0, length-decimal_64 b h.1)
text_short (kinds.Written m) h = omega (arith, length-decimal_64 m h)
text_short kinds.Kept h = omega arith
text_short kinds.Ignored h = omega arith
text_short (kinds.Replaced x) h = omega (arith, length-decimal_64 x h)
text_short kinds.Stored h = omega arith
text_short kinds.Ended h = omega arith
text_short (kinds.Truth true) h = omega arith
text_short (kinds.Truth false) h = omega arith
text_short (kinds.Header n s f) h = omega (arith, length-decimal_64 n h.0, length-decimal_64 s h.1.0, length-decimal_64 f h.1.1)
text_short (kinds.MapHeader s count) h = omega (arith, length-decimal_64 s h.0, length-decimal_64 count h.1)

module _ (x : Answer) (h : Fits64 x) where
  pub line_short : length (joined (line_of x)) ≤ 69
  line_short = omega (arith, length-joined (line_of x), text_short x h)

  -- no piece of it is left out
  pub line-whole : (at : ℕ) (b : List ℕ) → at + 69 ≤ length b
      → wrote_all (page at b) (line_of x) ≡ page (at + length (joined (line_of x))) (put b at (joined (line_of x)))
  line-whole at b l = wrote_all-fits at b (line_of x) (omega (arith, line_short))
