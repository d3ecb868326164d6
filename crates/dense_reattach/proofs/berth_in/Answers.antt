-- `dense_reattach::berth_in` meets its contract: the rule of reattach, then the room.
use mathlib.Core.Path.{◌∙◌, sym}
use Rattle.table.proofs.Judging.{berth-low, berth-high, berth-version}
use Rattle.dense_reattach.proofs.berth_in.Goals as goal

pub returns-then-i-lt1 : goal.returns-then-i-lt1
returns-then-i-lt1 c = berth-low _ _ _ c.if-i-lt1.true

pub returns-then-h-i : goal.returns-then-h-i
returns-then-h-i c = berth-high _ _ _ c.if-i-lt1.false c.if-h-i.true

pub returns-then-versions-at : goal.returns-then-versions-at
returns-then-versions-at c = berth-version _ _ _ c.if-i-lt1.false c.if-h-i.false (λ e. c.if-versions-at.true (e ∙ sym c.version_up.ensures))
