-- Reading a number in the rules' own words (section "The slot image"), byte by byte: 11 is "a zero last group after others,
-- or a fifth byte (tenth in values) that goes on or overflows". Assumes nothing.
use Rattle.std.specs.Prelude.{ℕ, ◌+◌, ◌*◌, ◌/◌, ◌%◌, ◌^◌, Bool, cond, ◌&&◌, ◌||◌, List, [], ◌∷◌, ltb, leb, eqb}
use Rattle.writing.specs.Told.{Told, tells, refused}
use Rattle.numbers.specs.Numbers.{worth}

-- "a zero last group after others": so many groups stand before the byte b
abbrev pub zero_last : ℕ → ℕ → Bool
zero_last groups b = ltb 0 groups && eqb b 0

-- how many bytes a number of so many bits has at most: five for 32, ten for 64
abbrev pub last_byte : ℕ → ℕ
last_byte bits = (bits + 6) / 7

-- "a fifth byte (tenth in values) that goes on or overflows"
abbrev pub last_wrong : ℕ → ℕ → ℕ → ℕ → Bool
last_wrong bits value groups b = eqb (groups + 1) (last_byte bits) && (leb 128 b || leb (2 ^ bits) (value + b * worth groups))

-- what the list says, which stands at a place, after so many groups of this value
unfoldable pub by_words : ℕ → List ℕ → ℕ → ℕ → ℕ → Told (ℕ × ℕ)
by_words bits [] at value groups = refused 10
by_words bits (b ∷ s) at value groups =
    cond (zero_last groups b) (refused 11)
    (cond (last_wrong bits value groups b) (refused 11)
    (cond (ltb b 128)
    (tells (value + b * worth groups, at + 1))
    (by_words bits s (at + 1) (value + b % 128 * worth groups) (groups + 1))))
