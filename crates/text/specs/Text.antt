-- Numbers, keys and the words of answers as text, in ASCII. Assumes nothing.
use Rattle.std.specs.Prelude.{ℕ, zero, suc, ◌+◌, ◌-◌, ◌*◌, ◌/◌, ◌%◌, cond, ◌&&◌, List, [], ◌∷◌, ◌++◌, leb, ltb}
use Rattle.keys.specs.Keys.{is_null}
use Rattle.keys.specs.declared.KeyData.{KeyData}

-- ---- numbers

-- at most so many of the digits of n, counted from its last; they end where only zeros would come before
abbrev pub last_digits : ℕ → ℕ → List ℕ
last_digits zero n = []
last_digits (suc f) zero = []
last_digits (suc f) (suc n) = last_digits f (suc n / 10) ++ ((48 + suc n % 10) ∷ [])

-- all the digits of n, with no zero before them: 0 has none. No number has more digits than its own value
unfoldable pub digits : ℕ → List ℕ
digits n = last_digits n n

-- n in decimal: its last digit, and before it the digits of the rest. So 0 is `0`, and no other number begins with one
abbrev pub decimal : ℕ → List ℕ
decimal n = digits (n / 10) ++ ((48 + n % 10) ∷ [])

-- the digit that a byte is, `0` to `9`; 10 for any other byte
unfoldable pub digit_of : ℕ → ℕ
digit_of b = cond (leb 48 b && leb b 57) (b - 48) 10

-- the value of the digits at the front of a text, read on from the value v; the first byte that is no digit ends it
abbrev pub value_from : ℕ → List ℕ → ℕ
value_from v [] = v
value_from v (b ∷ t) = cond (ltb (digit_of b) 10) (value_from (v * 10 + digit_of b) t) v

-- the value of the digits at the front of a text
abbrev pub value_of : List ℕ → ℕ
value_of t = value_from 0 t

-- ---- keys

-- `null`, letter by letter
abbrev pub null_text : List ℕ
null_text = 110 ∷ 117 ∷ 108 ∷ 108 ∷ []

-- "Any key with that index is null and prints `null`; others print index, `v`, version."
unfoldable pub key_text : KeyData → List ℕ
key_text k = cond (is_null k) null_text (decimal k.idx ++ (118 ∷ decimal k.version))

-- ---- the words of answers, letter by letter

-- `ok`
abbrev pub ok_text : List ℕ
ok_text = 111 ∷ 107 ∷ []

-- `refused `, with its space
abbrev pub refused_text : List ℕ
refused_text = 114 ∷ 101 ∷ 102 ∷ 117 ∷ 115 ∷ 101 ∷ 100 ∷ 32 ∷ []
