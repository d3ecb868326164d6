-- `parse` answers by the first byte, in the definition's order.
use mathlib.Core.Path.{◌∙◌}
use Rattle.commands.proofs.Lines.{asked-long, asked_empty, asked_i, asked-key}
use Rattle.commands.proofs.parse.Goals as goal

pub returns-then-n-gt-LONGEST : goal.returns-then-n-gt-LONGEST
returns-then-n-gt-LONGEST c = asked-long c.args.line.now c.if-n-gt-LONGEST.true

pub returns-then-n-eq0 : goal.returns-then-n-eq0
returns-then-n-eq0 c = asked_empty c.args.line.now c.if-n-eq0.true

pub returns-then-letter-eq105 : goal.returns-then-letter-eq105
returns-then-letter-eq105 c =
    c.insert_of.ensures ∙ asked_i _ c.if-n-gt-LONGEST.false c.if-letter-eq105.true

pub returns : goal.returns
returns c =
    c.keyed.ensures ∙ asked-key _ c.if-n-gt-LONGEST.false c.if-letter-eq108.false c.if-letter-eq105.false
