-- `marks::mark` meets its contract: a slot past the end is none.
use mathlib.Core.Path.{sym}
use Rattle.marks.specs.Marks.{toggled}
use Rattle.marks.proofs.Turns.{toggled-out}
use Rattle.marks.proofs.mark.Goals as goal

pub returns-then-i-versions : goal.returns-then-i-versions
unfolding toggled
returns-then-i-versions c = rw (c.flip.ensures, c.from_ffi-i.ensures)

pub returns-else-i-versions : goal.returns-else-i-versions
returns-else-i-versions c = sym (toggled-out _ _ (rw c.from_ffi-i.ensures at c.if-i-versions.false))
