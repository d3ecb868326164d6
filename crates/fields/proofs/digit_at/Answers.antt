-- `digit_at` answers 10 past the end and on either side of the digits.
use mathlib.Core.Path.{sym}
use Rattle.fields.proofs.Numbers.{digit_past}
use Rattle.fields.proofs.digit_at.Goals as goal

pub returns-then-line-i : goal.returns-then-line-i
returns-then-line-i c = sym (digit_past c.args.line.now c.args.i c.if-line-i.true)
