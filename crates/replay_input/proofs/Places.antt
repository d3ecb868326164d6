-- The next line begins behind the place where this one does, so that a loop over the lines ends. Assumes nothing.
use mathlib.Core.List.{List, [], ◌∷◌}
use Prim.Native.Nat.{ℕ, zero, suc, ◌<◌}
use native.Mathlib.Nat.{not-suc-le-zero}
use native.Mathlib.Omega.{arith}
use lib.ListN.{length}
use lib.Dec.{eqb}
use Rattle.lists.proofs.Tests.{either}
use Rattle.lines.specs.Lines.{line_end}

pub line-end_past : (t : List ℕ) (i : ℕ) → i < length t → i < line_end t i
line-end_past [] i h = absurd (not-suc-le-zero h)
line-end_past (b ∷ t) zero h = either (λ (n : ℕ). 0 < n) (eqb b 10) 1 (suc (line_end t zero)) (omega arith) (omega arith)
line-end_past (b ∷ t) (suc i) h = omega (arith, line-end_past t i (omega arith))
