-- `is_odd` tests the lowest bit.
use Rattle.keys.proofs.Bits.{lowest}
use Rattle.keys.proofs.is_odd.Goals as goal

pub returns : goal.returns
returns c = rw lowest
