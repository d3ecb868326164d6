-- "Older" and the Rust's `is_older_version`: equal where both versions are below 2,147,483,648. Assumes nothing.
use mathlib.Core.Path.{◌≡◌}
use Prim.Native.Nat.{ℕ, ◌+◌, ◌-◌, ◌%◌, ◌≤◌, ◌<◌}
use native.Mathlib.Omega.{arith}
use borrow.Author.Tests.{ltb-true, leb-true, lt-ltb, le-leb}
use Rattle.lists.proofs.Tests.{same_test}
use Rattle.keys.specs.Keys.{W}
use Rattle.map.specs.Map.{older, half, is_older_version}

pub older_rust : (a b : ℕ) → a < half → b < half → older a b ≡ is_older_version a b
unfolding older
older_rust a b la lb =
    same_test _ _
    (λ e. let l : a < b = ltb-true a b e in le-leb half ((a + (W - b)) % W) (omega arith))
    (λ e. let l : half ≤ (a + (W - b)) % W = leb-true half ((a + (W - b)) % W) e in lt-ltb a b (omega arith))
