-- `number` hands back the place that `write_decimal` tells.
use Rattle.pieces.proofs.Pieces.{wrote_by}
use Rattle.pieces.proofs.number.Goals as goal

pub returns : goal.returns
returns c = wrote_by _ _ _ _ _ _ c.unwrap_or.ensures c.write_decimal.ensures
