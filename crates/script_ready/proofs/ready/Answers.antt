-- `ready` judges one thing after the other.
use Rattle.script_input.proofs.Steps.{ready-line, ready-count, ready-room}
use Rattle.script_ready.proofs.ready.Goals as goal

pub returns-then-line-lt-HELD : goal.returns-then-line-lt-HELD
returns-then-line-lt-HELD c = ready-line _ _ _ _ c.if-line-lt-HELD.true

pub returns-then-count-gt-HELD : goal.returns-then-count-gt-HELD
returns-then-count-gt-HELD c = ready-count _ _ _ _ c.if-line-lt-HELD.false c.if-count-gt-HELD.true

pub returns : goal.returns
returns c = ready-room _ _ _ _ c.if-line-lt-HELD.false c.if-count-gt-HELD.false
