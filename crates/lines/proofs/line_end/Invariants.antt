-- `line_end` walks to the newline: the line from each place reached ends where the line asked for ends.
use mathlib.Core.Path.{◌≡◌}
use Rattle.lines.specs.Lines.{line_end}
use Rattle.lines.proofs.line_end.Given as goal

abbrev pub invariant-loop-i : goal.invariant-loop-i
invariant-loop-i l = line_end l.text l.i ≡ line_end l.text l.at
