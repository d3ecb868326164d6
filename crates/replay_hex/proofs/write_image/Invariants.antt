-- `write_image` writes the bytes from their front: what is left of them, written from where the loop stands, gives the whole.
use mathlib.Core.Path.{◌≡◌}
use lib.ListN.{drop}
use Rattle.pieces.specs.Pieces.{page, wrote_all}
use Rattle.replay_hex.specs.Hex.{hex_line}
use Rattle.replay_hex.proofs.write_image.Given as goal

abbrev pub invariant-loop-b : goal.invariant-loop-b
invariant-loop-b l = wrote_all (page l.place l.out) (hex_line (drop l.b-index l.image)) ≡ wrote_all (page 0 l.initial.out) (hex_line l.image)
