-- `line_end` walks to the newline: the line from each place reached ends where the line asked for ends.
use mathlib.Core.Path.{◌∙◌}
use native.Mathlib.Numerals.{add-one}
use borrow.Author.Tests.{eqb-true, eqb-false}
use Rattle.lists.proofs.Tests.{confirmed, refuted}
use Rattle.lines.proofs.Lines.{line-end_at, line-end-on, line-end-last}
use Rattle.lines.proofs.line_end.Goals as goal

pub returns-then-is_newline : goal.returns-then-is_newline
returns-then-is_newline c =
    line-end_at c.args.text.now c.loop-i.i c.loop-i-test.true (eqb-true _ 10 (confirmed c.is_newline.ensures c.if-is_newline.true)) ∙ c.loop-i.invariant

pub loop-i-preserved : goal.loop-i-preserved
loop-i-preserved c =
    rw add-one (line-end-on c.args.text.now c.loop-i.i c.loop-i-test.true (eqb-false _ 10 (refuted c.is_newline.ensures c.if-is_newline.false)) ∙ c.loop-i.invariant)

pub returns : goal.returns
returns c = line-end-last c.args.text.now c.loop-i.i c.loop-i-test.false ∙ c.loop-i.invariant
