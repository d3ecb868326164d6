-- `KeyData::as_ffi` packs a key by shift and or.
use Rattle.std.proofs.Common.{rules}
use Rattle.keys.proofs.Bits.{pack32}
use Rattle.keys.proofs.KeyData.as_ffi.Goals as goal

pub returns : goal.returns
returns c = pack32 c.args.self.version c.args.self.idx (search rules) (search rules)
