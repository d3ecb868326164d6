-- `finish` runs the line that has begun, if one has.
use Rattle.lists.proofs.Tests.{refuted, confirmed}
use Rattle.script_input.proofs.Steps.{finished_short, finished-ready}
use Rattle.script_feed.proofs.finish.Goals as goal

pub returns-then-not-ready : goal.returns-then-not-ready
returns-then-not-ready c = finished_short _ (refuted c.ready.ensures c.if-not-ready.true)

pub close-step-requires : goal.close-step-requires
close-step-requires c = finished-ready _ _ _ (confirmed c.ready.ensures c.if-not-ready.false)
