-- `read_u32` meets its contract: the worker's, at the largest number of 32 bits.
use Rattle.numbers.specs.Numbers.{number_at}
use Rattle.numbers_read.proofs.read_u32.Goals as goal

pub returns : goal.returns
unfolding number_at
returns c = c.read_number.ensures
