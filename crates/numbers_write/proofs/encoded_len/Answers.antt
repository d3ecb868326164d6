-- `encoded_len` meets its contract: the groups counted and those of what is left are those of n, one counted twice.
use native.Mathlib.Omega.{arith}
use Rattle.numbers.proofs.Encoded.{length_last, length_more}
use Rattle.numbers_write.proofs.encoded_len.Goals as goal

pub loop-rest-preserved : goal.loop-rest-preserved
loop-rest-preserved c = omega (arith, length_more c.loop-rest.rest c.loop-rest-test.true)

pub returns : goal.returns
returns c = omega (arith, length_last c.loop-rest.rest c.loop-rest-test.false)
