-- `first` lends the front of the text, or all of it.
use mathlib.Core.Path.{sym}
use native.Mathlib.Omega.{arith}
use lib.ListN.{length-take}
use lib.Seq.{take_all}
use Rattle.lines.proofs.first.Goals as goal

pub returns-then-text-end : goal.returns-then-text-end
returns-then-text-end c = sym (take_all _ _ c.if-text-end.true)

pub slice_bounds-result-end : goal.slice_bounds-result-end
slice_bounds-result-end c = simp length-take (omega arith)
