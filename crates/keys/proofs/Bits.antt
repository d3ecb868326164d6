-- Masks, shifts and the lowest bit as plain arithmetic. Assumes nothing.
use Rattle.std.proofs.Common.{◌≡◌, ℕ, ◌+◌, ◌*◌, ◌/◌, ◌%◌, ◌^◌, ◌<◌, ap, ◌∙◌, ap₂, arith}
use native.Mathlib.Nat.{max-eq_right}
use lib.Bits.{bit_and, bit_or, or_step, or_zero_r, and_mask, or_shifted}
use Rattle.keys.specs.Keys.{W, odd, pack}

-- x & 0xffff_ffff
pub low32 : (x : ℕ) → bit_and x 4294967295 ≡ x % W
low32 x = and_mask x 32

-- x & 1
pub lowest : (x : ℕ) → bit_and x 1 ≡ x % 2
lowest x = and_mask x 1

-- x | 1
pub set_lowest : (x : ℕ) → bit_or x 1 ≡ odd x
set_lowest x = or_step x 1 ∙ ap₂ (λ (p q : ℕ). p * 2 + q) (or_zero_r (x / 2)) (max-eq_right (omega arith))

-- (v << 32) | i
pub pack32 : (v i : ℕ) → v < W → i < W → bit_or (v * 2 ^ 32 % 2 ^ 64) i ≡ pack i v
pack32 v i h l = ap (λ (x : ℕ). bit_or x i) wide ∙ or_shifted v 32 i l
  where
    wide : v * 2 ^ 32 % 2 ^ 64 ≡ v * 2 ^ 32
    wide = omega arith
