-- `dense_sound::are_home` meets its contract. The loop's invariant: every place below p is at home.
use Rattle.lists.proofs.Tests.{refuted, confirmed}
use Rattle.lists.proofs.Count.{every-none, every_yes, every_no}
use Rattle.dense_sound.proofs.are_home.Goals as goal

pub loop-p-init : goal.loop-p-init
loop-p-init c = every-none _

pub returns-then-not-is_home : goal.returns-then-not-is_home
returns-then-not-is_home c = every_no _ c.loop-p-test.true (refuted c.is_home.ensures c.if-not-is_home.true)

pub loop-p-preserved : goal.loop-p-preserved
loop-p-preserved c = every_yes _ _ c.loop-p.invariant (confirmed c.is_home.ensures c.if-not-is_home.false)
