-- `field` answers what stands after a space.
use Rattle.fields.proofs.Fields.{field_past}
use Rattle.fields.proofs.field.Goals as goal

pub returns-then-line-at : goal.returns-then-line-at
returns-then-line-at c = field_past _ c.args.line.now c.args.at c.if-line-at.true
