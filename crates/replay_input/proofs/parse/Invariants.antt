-- `parse` walks the line: what is left of it is taken into what has been reached.
use mathlib.Core.Path.{◌≡◌}
use lib.ListN.{drop}
use Rattle.replay.specs.Runs.{run}
use Rattle.replay.specs.Lines.{taken}
use Rattle.replay_input.specs.Input.{said}
use Rattle.replay_input.proofs.parse.Given as goal

abbrev pub invariant-loop-b : goal.invariant-loop-b
invariant-loop-b l = run taken l.line (drop l.b-index l.text) ≡ said l.text
