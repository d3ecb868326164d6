-- `line_at` lends the part from the place to the line's end.
use mathlib.Core.Path.{◌≡◌, sym, ap}
use Prim.Native.Nat.{ℕ, ◌-◌}
use native.Mathlib.Omega.{arith}
use lib.ListN.{take, drop}
use Rattle.lines.specs.Lines.{line_end}
use Rattle.lines.proofs.Lines.{line-end-within}
use Rattle.lines.proofs.line_at.Goals as goal

pub returns-then-end-at : goal.returns-then-end-at
returns-then-end-at c =
    let s = c.args in
    let none : line_end s.text.now s.at - s.at ≡ 0 = omega (arith, c.line_end-end.ensures, c.if-end-at.true) in
    sym (ap (λ (n : ℕ). take n (drop s.at s.text.now)) none)

pub slice_bounds-result-end-2 : goal.slice_bounds-result-end-2
slice_bounds-result-end-2 c =
    let s = c.args in
    omega (arith, line-end-within s.text.now s.at, c.line_end-end.ensures)

pub returns : goal.returns
returns c =
    let s = c.args in
    ap (λ (n : ℕ). take (n - s.at) (drop s.at s.text.now)) c.line_end-end.ensures
