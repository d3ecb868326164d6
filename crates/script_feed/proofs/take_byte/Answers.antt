-- `take_byte` runs the line at a newline and holds any other byte.
use mathlib.Core.Path.{◌∙◌}
use native.Mathlib.Omega.{arith}
use Rattle.script_input.proofs.Steps.{took-newline, took-held, took_past}
use Rattle.script_feed.proofs.take_byte.Goals as goal

pub returns-then-b-eq-NEWLINE : goal.returns-then-b-eq-NEWLINE
returns-then-b-eq-NEWLINE c =
    (c.close.ensures.0 ∙ took-newline _ _ _ c.if-b-eq-NEWLINE.true, c.close.ensures.1)

pub bounds-line-count : goal.bounds-line-count
bounds-line-count c = omega (arith, c.if-count-lt-HELD.true, c.requires.long)

pub returns-then-count-lt-HELD : goal.returns-then-count-lt-HELD
returns-then-count-lt-HELD c = (took-held _ _ _ c.if-b-eq-NEWLINE.false c.if-count-lt-HELD.true, omega arith)

pub returns-else-count-lt-HELD : goal.returns-else-count-lt-HELD
returns-else-count-lt-HELD c = (took_past _ _ _ c.if-b-eq-NEWLINE.false c.if-count-lt-HELD.false, omega arith)
