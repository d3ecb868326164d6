-- Numbers in a script's line (the rules, section "Script"). Bytes are ASCII. Assumes nothing.
use Rattle.std.specs.Prelude.{ℕ, suc, ◌+◌, cond, ◌&&◌, List, [], ◌∷◌, drop, get_or, ltb, eqb, Option, Some, None}
use Rattle.text.specs.Text.{digit_of, value_of}
use Rattle.fields.specs.declared.Number.{Number}

-- a number that was read, and the place after it
abbrev pub reads : ℕ → ℕ → Option Number
reads value next = Some (record { value = value; next = next })

-- how many digits stand at the front of a text
abbrev pub digits_in : List ℕ → ℕ
digits_in [] = 0
digits_in (b ∷ t) = cond (ltb (digit_of b) 10) (suc (digits_in t)) 0

-- so many digits at a place, with this value, of which the first is given: no number if "above its width", if there is none, or for
-- "a leading zero before a digit"; else the value, and the place after the digits
abbrev pub judged : ℕ → ℕ → ℕ → ℕ → ℕ → Option Number
judged limit at count value first =
    cond (ltb limit value) None (cond (eqb count 0) None (cond (eqb first 0 && ltb 1 count) None (reads value (at + count))))

-- the number at a place of a line
unfoldable pub number_at : ℕ → List ℕ → ℕ → Option Number
number_at limit line at = judged limit at (digits_in (drop at line)) (value_of (drop at line)) (digit_of (get_or line at 0))

-- "single spaces": a space at a place, and a number after it
unfoldable pub field_at : ℕ → List ℕ → ℕ → Option Number
field_at limit line at = cond (eqb (get_or line at 0) 32) (number_at limit line (at + 1)) None
