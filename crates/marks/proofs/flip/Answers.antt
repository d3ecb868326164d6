-- `marks::flip` turns the lowest bit.
use Rattle.marks.proofs.Turns.{xor_one}
use Rattle.marks.proofs.flip.Goals as goal

pub returns : goal.returns
returns c = xor_one _
