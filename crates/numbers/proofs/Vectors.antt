-- Numbers of the rules' images and of their limits, computed. Assumes nothing.
use Prim.Native.Nat.{ℕ}
use mathlib.Core.Path.{◌≡◌, refl}
use mathlib.Core.List.{List, [], ◌∷◌}
use Rattle.writing.specs.Told.{Told, tells, refused}
use Rattle.numbers.specs.Numbers.{take_of, read_from, number_at, groups_of, encoded}

-- the shortest forms of 300 and of the largest number
forms : List (List ℕ)
forms = encoded 300 ∷ encoded 18446744073709551615 ∷ []

forms_are : forms ≡ (0xAC ∷ 0x02 ∷ []) ∷ (255 ∷ 255 ∷ 255 ∷ 255 ∷ 255 ∷ 255 ∷ 255 ∷ 255 ∷ 255 ∷ 1 ∷ []) ∷ []
unfolding forms encoded groups_of
forms_are = refl

-- what stands at place 1: a number of 32 bits with its fifth byte at 15, at 16, and going on; four open bytes; a zero last group; no byte; no place
words : List (Told (ℕ × ℕ))
words =
    number_at 32 (3 ∷ 255 ∷ 255 ∷ 255 ∷ 255 ∷ 15 ∷ 7 ∷ []) 1
    ∷ number_at 32 (3 ∷ 255 ∷ 255 ∷ 255 ∷ 255 ∷ 16 ∷ 7 ∷ []) 1
    ∷ number_at 32 (3 ∷ 255 ∷ 255 ∷ 255 ∷ 255 ∷ 128 ∷ []) 1
    ∷ number_at 32 (3 ∷ 255 ∷ 255 ∷ 255 ∷ 255 ∷ []) 1
    ∷ number_at 32 (1 ∷ 0x80 ∷ 0 ∷ 0 ∷ []) 1
    ∷ number_at 32 (1 ∷ []) 1
    ∷ number_at 32 [] 1
    ∷ []

words_are : words ≡ tells (4294967295, 6) ∷ refused 11 ∷ refused 11 ∷ refused 10 ∷ refused 11 ∷ refused 10 ∷ refused 10 ∷ []
unfolding words number_at read_from take_of
words_are = refl

-- and a number of 64 bits with its tenth byte at 1, at 2, and going on
values : List (Told (ℕ × ℕ))
values =
    number_at 64 (255 ∷ 255 ∷ 255 ∷ 255 ∷ 255 ∷ 255 ∷ 255 ∷ 255 ∷ 255 ∷ 1 ∷ []) 0
    ∷ number_at 64 (255 ∷ 255 ∷ 255 ∷ 255 ∷ 255 ∷ 255 ∷ 255 ∷ 255 ∷ 255 ∷ 2 ∷ []) 0
    ∷ number_at 64 (255 ∷ 255 ∷ 255 ∷ 255 ∷ 255 ∷ 255 ∷ 255 ∷ 255 ∷ 255 ∷ 128 ∷ []) 0
    ∷ []

values_are : values ≡ tells (18446744073709551615, 10) ∷ refused 11 ∷ refused 11 ∷ []
unfolding values number_at read_from take_of
values_are = refl
