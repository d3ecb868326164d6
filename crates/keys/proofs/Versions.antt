-- Versions that wrap: up and down, and the next issue. Assumes nothing.
use Rattle.std.proofs.Common.{◌≡◌, ℕ, ◌+◌, ◌%◌, ◌<◌, Bool, true, false, eqb, ◌≢◌, sym, ◌∙◌, arith, eqb-true}
use borrow.Author.Tests.{eqb-false}
use Rattle.keys.specs.Keys.{W, odd, up, down}

pub odd-same : (v : ℕ) → v % 2 ≡ 1 → odd v ≡ v
odd-same v h = omega arith

pub odd_even : (v : ℕ) → v % 2 ≡ 0 → odd v ≡ v + 1
odd_even v h = omega arith

-- up and down are inverse, also at the wrap
pub down-up : (v : ℕ) → v < W → down (up v) ≡ v
down-up v h = omega arith

pub up-down : (v : ℕ) → v < W → up (down v) ≡ v
up-down v h = omega arith

-- a slot removed from and taken again issues the version two up, modulo 2 ^ 32
pub next-issue : (v : ℕ) → v % 2 ≡ 1 → v < W → odd (up v) ≡ (v + 2) % W
next-issue v h l = omega arith

-- what `is_odd` tells
pub told-odd : (v : ℕ) {r : Bool} → r ≡ eqb (v % 2) 1 → r ≡ true → v % 2 ≢ 0
told-odd v e h z = omega (arith, eqb-true (v % 2) 1 (sym e ∙ h))

pub told-even : (v : ℕ) {r : Bool} → r ≡ eqb (v % 2) 1 → r ≡ false → v % 2 ≡ 0
told-even v e h = let n : v % 2 ≢ 1 = eqb-false (v % 2) 1 (sym e ∙ h) in omega (arith, n)
