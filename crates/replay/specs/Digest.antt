-- The digest of many numbers, by which two programs compare whole states. Assumes nothing.
use Rattle.std.specs.Prelude.{ℕ, ◌+◌, ◌*◌, ◌/◌, ◌%◌, ◌^◌, List, bit_xor}
use Rattle.replay.specs.Runs.{run}

-- a number of 64 bits with itself, shifted to the left or to the right, added bit by bit
abbrev pub with_left : ℕ → ℕ → ℕ
with_left k h = bit_xor h (h * 2 ^ k % 2 ^ 64)

abbrev pub with_right : ℕ → ℕ → ℕ
with_right k h = bit_xor h (h / 2 ^ k)

-- one number more in a digest: a sum that wraps, and three shifts
unfoldable pub mixed : ℕ → ℕ → ℕ
mixed h x = with_left 17 (with_right 7 (with_left 13 (((h + x) % 2 ^ 64 + 11400714819323198485) % 2 ^ 64)))

-- a list of numbers, from its front on
abbrev pub mixed_all : ℕ → List ℕ → ℕ
mixed_all h l = run mixed h l

-- a list of what stands for numbers, each by its number
abbrev pub mixed_each : {T : Type 0} → (T → ℕ) → ℕ → List T → ℕ
mixed_each wide h l = run (λ d x. mixed d (wide x)) h l
