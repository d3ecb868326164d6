-- Laws of the lines of a text. Assumes nothing.
use mathlib.Core.Path.{◌≡◌, refl, ap}
use mathlib.Core.List.{List, [], ◌∷◌}
use Prim.Native.Nat.{ℕ, zero, suc, ◌+◌, ◌≤◌, ◌<◌}
use native.Mathlib.Nat.{not-suc-le-zero}
use native.Mathlib.Omega.{arith}
use lib.ListN.{length, get_or}
use lib.Dec.{eqb}
use borrow.Author.Tests.{eq-eqb, ne_eqb}
use Rattle.lists.proofs.Tests.{either}
use Rattle.lines.specs.Lines.{line_end}

pub line-end_at : (t : List ℕ) (i : ℕ) → i < length t → get_or t i 0 ≡ 10 → i + 1 ≡ line_end t i
line-end_at [] i h e = absurd (not-suc-le-zero h)
line-end_at (b ∷ t) zero h e = rw (eq-eqb b 10 e)
line-end_at (b ∷ t) (suc i) h e = omega (arith, line-end_at t i (omega arith) e)

pub line-end-on : (t : List ℕ) (i : ℕ) → i < length t → (get_or t i 0 ≡ 10 → ⊥) → line_end t (suc i) ≡ line_end t i
line-end-on [] i h e = absurd (not-suc-le-zero h)
line-end-on (b ∷ t) zero h e = rw (ne_eqb b 10 e)
line-end-on (b ∷ t) (suc i) h e = ap suc (line-end-on t i (omega arith) e)

pub line-end-last : (t : List ℕ) (i : ℕ) → length t ≤ i → length t ≡ line_end t i
line-end-last [] i h = refl
line-end-last (b ∷ t) zero h = absurd (not-suc-le-zero h)
line-end-last (b ∷ t) (suc i) h = omega (arith, line-end-last t i (omega arith))

pub line-end-within : (t : List ℕ) (i : ℕ) → line_end t i ≤ length t
line-end-within [] i = omega arith
line-end-within (b ∷ t) zero = either (λ (n : ℕ). n ≤ suc (length t)) (eqb b 10) 1 (suc (line_end t zero)) (omega arith) (omega (arith, line-end-within t zero))
line-end-within (b ∷ t) (suc i) = omega (arith, line-end-within t i)
