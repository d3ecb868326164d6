-- `KeyData::from_ffi` reads a number by shift and mask, with the version's lowest bit set.
use Rattle.std.proofs.Common.{arith}
use Rattle.keys.proofs.Bits.{low32, set_lowest}
use Rattle.keys.proofs.Keys.{version_64}
use Rattle.keys.proofs.KeyData.from_ffi.Goals as goal

pub overflow_cast-idx : goal.overflow_cast-idx
overflow_cast-idx c = rw low32 (omega arith)

pub overflow_cast-version : goal.overflow_cast-version
overflow_cast-version c = rw set_lowest (omega arith)

pub returns : goal.returns
returns c = rw (low32, set_lowest, version_64 c.args.value (omega arith))
