-- `decimal_len` counts the digits: those counted and those of the rest are always as many as the number has.
use mathlib.Core.Path.{ap}
use native.Mathlib.Omega.{arith}
use lib.ListN.{length}
use Rattle.text.proofs.Decimal.{digits-none, digits_step, length-decimal, length-decimal_64}
use Rattle.text.proofs.decimal_len.Goals as goal

pub loop-rest-init : goal.loop-rest-init
loop-rest-init c = omega (arith, length-decimal c.args.number)

pub overflow_add-count : goal.overflow_add-count
overflow_add-count c = omega (arith, length-decimal_64 c.args.number (omega arith))

pub loop-rest-preserved : goal.loop-rest-preserved
loop-rest-preserved c =
    let r = c.loop-rest.rest in
    omega (arith, length-decimal r, ap length (digits_step r c.loop-rest-test.true))

pub returns : goal.returns
returns c = omega (arith, digits-none c.loop-rest.rest c.loop-rest-test.false)
