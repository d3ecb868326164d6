-- Counting and testing the numbers below a bound. Assumes nothing.
use Rattle.std.specs.Prelude.{Bool, true, cond, ◌&&◌, ℕ, zero, suc}

-- how many numbers below n pass
unfoldable pub count : (ℕ → Bool) → ℕ → ℕ
count P zero = zero
count P (suc n) = cond (P n) (suc (count P n)) (count P n)

-- whether every number below n passes
unfoldable pub every : (ℕ → Bool) → ℕ → Bool
every P zero = true
every P (suc n) = P n && every P n
