-- Worked texts, each computed from the definitions. Assumes nothing.
use mathlib.Core.Path.{◌≡◌, refl}
use mathlib.Core.List.{[], ◌∷◌}
use Rattle.keys.specs.Keys.{version, key_of, null_key}
use Rattle.text.specs.Text.{digits, decimal, digit_of, value_of, key_text}

-- 8589934597 read as a key prints 5v3
five_v_three : key_text (key_of 8589934597) ≡ 53 ∷ 118 ∷ 51 ∷ []
unfolding key_text digits version
five_v_three = refl

-- 12884901889 prints 1v3
one_v_three : key_text (key_of 12884901889) ≡ 49 ∷ 118 ∷ 51 ∷ []
unfolding key_text digits version
one_v_three = refl

-- the null key prints null, whatever its version
null_prints : key_text null_key ≡ 110 ∷ 117 ∷ 108 ∷ 108 ∷ []
unfolding key_text
null_prints = refl

null_prints_at_five : key_text (record { idx = 4294967295; version = 5 }) ≡ 110 ∷ 117 ∷ 108 ∷ 108 ∷ []
unfolding key_text
null_prints_at_five = refl

-- the largest number of 64 bits has 20 digits
largest : decimal 18446744073709551615
    ≡ 49 ∷ 56 ∷ 52 ∷ 52 ∷ 54 ∷ 55 ∷ 52 ∷ 52 ∷ 48 ∷ 55 ∷ 51 ∷ 55 ∷ 48 ∷ 57 ∷ 53 ∷ 53 ∷ 49 ∷ 54 ∷ 49 ∷ 53 ∷ []
unfolding digits
largest = refl

zero_text : decimal 0 ≡ 48 ∷ []
unfolding digits
zero_text = refl

-- reading stops at the first byte that is no digit: `10v3` has the value 10
stops : value_of (49 ∷ 48 ∷ 118 ∷ 51 ∷ []) ≡ 10
unfolding digit_of
stops = refl
