-- `spell` writes the text from its front: what is left of it, spelled from where the loop stands, gives the whole.
use mathlib.Core.Path.{◌≡◌}
use lib.ListN.{length, drop}
use Rattle.pieces.specs.Pieces.{page, wrote_all}
use Rattle.replay_input.specs.Input.{spelled}
use Rattle.replay_input.proofs.spell.Given as goal

abbrev pub invariant-loop-digits : goal.invariant-loop-digits
invariant-loop-digits l = wrote_all (page l.place l.out) (spelled l.digits) ≡ wrote_all (page 0 l.fn.out) (spelled (drop 1 l.line))

abbrev pub decreases-loop-digits : goal.decreases-loop-digits
decreases-loop-digits l = length l.digits
