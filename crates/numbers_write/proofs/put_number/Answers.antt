-- `put_number` meets its contract. The loop's invariant: putting what is left from `place` on leaves what putting n from `at` on leaves.
use mathlib.Core.Path.{refl, ◌∙◌}
use native.Mathlib.Omega.{arith}
use lib.ListN.{length-set}
use Rattle.numbers.proofs.Encoded.{length_last, length_more, put_last, put-more}
use Rattle.numbers_write.proofs.put_number.Goals as goal

pub loop-rest-init : goal.loop-rest-init
loop-rest-init c = (refl, refl, refl)

pub bounds-out-place : goal.bounds-out-place
bounds-out-place c = omega (arith, length_more c.loop-rest.rest c.loop-rest-test.true)

pub overflow_add-place : goal.overflow_add-place
overflow_add-place c = omega (arith, length_more c.loop-rest.rest c.loop-rest-test.true)

pub loop-rest-preserved : goal.loop-rest-preserved
loop-rest-preserved c =
    let l = c.loop-rest in
    let m = length_more l.rest c.loop-rest-test.true in (
      put-more l.out l.place l.rest c.loop-rest-test.true (omega arith) ∙ l.invariant.0,
      omega arith,
      simp length-set l.invariant.2,
    )

pub bounds-out-place-2 : goal.bounds-out-place-2
bounds-out-place-2 c = omega (arith, length_last c.loop-rest.rest c.loop-rest-test.false)

pub shape_of-out : goal.shape_of-out
shape_of-out c = simp length-set c.loop-rest.invariant.2

pub returns : goal.returns
returns c =
    let l = c.loop-rest in
    let m = length_last l.rest c.loop-rest-test.false in
    put_last l.out l.place l.rest c.loop-rest-test.false (omega arith) ∙ l.invariant.0
