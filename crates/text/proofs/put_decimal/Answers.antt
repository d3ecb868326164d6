-- `put_decimal` puts the digits in from the back: the digits of the rest, put in, give the same whole at every turn.
use mathlib.Core.Path.{refl, ap, ◌∙◌}
use native.Mathlib.Omega.{arith}
use lib.ListN.{length, length-set}
use Rattle.text.proofs.Decimal.{length-decimal, digits_step, back_start, back-turn, back_end}
use Rattle.text.proofs.put_decimal.Goals as goal

pub overflow_sub-i : goal.overflow_sub-i
overflow_sub-i c = omega (arith, length-decimal c.args.number)

pub bounds-out-i : goal.bounds-out-i
bounds-out-i c = omega (arith, length-decimal c.args.number)

pub loop-rest-init : goal.loop-rest-init
loop-rest-init c = (omega (arith, length-decimal c.args.number), (simp length-set (omega arith), (refl, refl)))

pub overflow_sub-i-in-loop-rest : goal.overflow_sub-i-in-loop-rest
overflow_sub-i-in-loop-rest c =
    let r = c.loop-rest.rest in
    omega (arith, length-decimal r, ap length (digits_step r c.loop-rest-test.true))

pub bounds-out-i-in-loop-rest : goal.bounds-out-i-in-loop-rest
bounds-out-i-in-loop-rest c =
    let r = c.loop-rest.rest in
    omega (arith, length-decimal r, ap length (digits_step r c.loop-rest-test.true))

pub loop-rest-preserved : goal.loop-rest-preserved
loop-rest-preserved c =
    let l = c.loop-rest in
    let b = back-turn l.out _ c.args.at l.i l.rest l.invariant.1.1.1 c.loop-rest-test.true l.invariant.0 l.invariant.1.0 in
    (b.0, (simp length-set (omega arith), (simp length-set (simp length-set at l.invariant.1.1.0), b.1)))

pub shape_of-out : goal.shape_of-out
shape_of-out c = c.loop-rest.invariant.1.1.0 ∙ simp length-set

pub returns : goal.returns
returns c =
    let l = c.loop-rest in
    let s = c.args in
    back_end l.out _ s.at l.i l.rest l.invariant.1.1.1 c.loop-rest-test.false
    ∙ back_start s.out.now s.at s.number s.end c.requires.0 c.requires.1
