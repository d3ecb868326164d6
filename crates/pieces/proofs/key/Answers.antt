-- `key` hands back the place that `write_key` tells of the key that the number names.
use Rattle.pieces.proofs.Pieces.{wrote_by}
use Rattle.pieces.proofs.key.Goals as goal

pub returns : goal.returns
returns c = wrote_by _ _ _ _ _ _ c.unwrap_or.ensures (rw c.from_ffi.ensures at c.write_key.ensures)
