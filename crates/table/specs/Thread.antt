-- The free list threaded through the slots that join it (the rules, section "The slot image"): "with the next-free number starting at s,
-- each vacant slot takes it as link and becomes it; at the end it is f". Assumes nothing.
--
-- Slots 1 and 3 of s = 5 join:
--
--     slot       0    1    2    3    4
--     link       ·    5    ·    1    ·          f = 3: slot 3, then slot 1, then the end
use Rattle.std.specs.Prelude.{Bool, cond, List, [], ◌∷◌, ℕ, zero, suc}

-- the next-free number once the slots below i have been passed: the last of them that joined, or s.
-- It is the link of slot i, if that joins, and f where i is s
unfoldable pub next_free : (ℕ → Bool) → ℕ → ℕ → ℕ
next_free joins s zero = s
next_free joins s (suc i) = cond (joins i) i (next_free joins s i)

-- the slots below i that join, the last one first: the order in which inserts will take them
unfoldable pub joined : (ℕ → Bool) → ℕ → List ℕ
joined joins zero = []
joined joins (suc i) = cond (joins i) (i ∷ joined joins i) (joined joins i)
