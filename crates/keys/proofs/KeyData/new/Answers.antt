-- `KeyData::new` sets the version's lowest bit.
use Rattle.keys.proofs.Bits.{set_lowest}
use Rattle.keys.proofs.KeyData.new.Goals as goal

pub returns : goal.returns
returns c = rw set_lowest
