-- `number_at` reads digit by digit: the value so far, read on, is the value of all digits. A value above the limit is seen before it is made,
-- and values only grow.
use mathlib.Core.Path.{refl, sym, ◌∙◌}
use native.Mathlib.Omega.{arith}
use Rattle.fields.proofs.Numbers.{turn-there, turn, turn_over, out_none, out-leads, out_zero, out-plain}
use Rattle.fields.proofs.number_at.Goals as goal

pub loop-d-init : goal.loop-d-init
loop-d-init c = record { digit = c.digit_at-first.ensures; after = omega arith; small = omega arith; digits = refl; value = refl }

pub returns-then-limit-d : goal.returns-then-limit-d
returns-then-limit-d c =
    let l = c.loop-d in
    turn_over _ _ _ l.d l.i l.v l.invariant c.loop-d-test.true (omega arith)

pub returns-then-limit-d-2 : goal.returns-then-limit-d-2
returns-then-limit-d-2 c =
    let l = c.loop-d in
    turn_over _ _ _ l.d l.i l.v l.invariant c.loop-d-test.true (omega arith)

pub overflow_add-i : goal.overflow_add-i
overflow_add-i c =
    let l = c.loop-d in
    omega (arith, turn-there _ _ _ l.d l.i l.v l.invariant c.loop-d-test.true)

pub loop-d-smaller : goal.loop-d-smaller
loop-d-smaller c =
    let l = c.loop-d in
    omega (arith, turn-there _ _ _ l.d l.i l.v l.invariant c.loop-d-test.true)

pub loop-d-preserved : goal.loop-d-preserved
loop-d-preserved c =
    let l = c.loop-d in
    turn _ _ _ l.d l.i l.v l.invariant c.loop-d-test.true _ c.digit_at-d.ensures (omega arith)

pub returns-then-i-at : goal.returns-then-i-at
returns-then-i-at c =
    let l = c.loop-d in
    out_none _ _ _ l.d l.i l.v l.invariant c.loop-d-test.false c.if-i-at.true

pub returns-then-i-at-gt1 : goal.returns-then-i-at-gt1
returns-then-i-at-gt1 c =
    let l = c.loop-d in
    out-leads _ _ _ l.d l.i l.v l.invariant c.loop-d-test.false c.if-i-at.false (sym c.digit_at-first.ensures ∙ c.if-first-eq0.true) c.if-i-at-gt1.true

pub returns-else-i-at-gt1 : goal.returns-else-i-at-gt1
returns-else-i-at-gt1 c =
    let l = c.loop-d in
    out_zero _ _ _ l.d l.i l.v l.invariant c.loop-d-test.false c.if-i-at.false (sym c.digit_at-first.ensures ∙ c.if-first-eq0.true) c.if-i-at-gt1.false

pub returns-else-first-eq0 : goal.returns-else-first-eq0
returns-else-first-eq0 c =
    let l = c.loop-d in
    out-plain _ _ _ l.d l.i l.v l.invariant c.loop-d-test.false c.if-i-at.false (λ z. c.if-first-eq0.false (c.digit_at-first.ensures ∙ z))
