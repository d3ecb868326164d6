-- `odd_version` sets the lowest bit.
use Rattle.keys.proofs.Bits.{set_lowest}
use Rattle.keys.proofs.odd_version.Goals as goal

pub returns : goal.returns
returns c = rw set_lowest
