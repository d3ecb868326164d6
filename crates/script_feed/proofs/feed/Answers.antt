-- `feed` takes byte after byte: what the rest of the part brings is always what the whole part brings.
use mathlib.Core.Path.{refl, ap, ◌∙◌}
use Rattle.lists.proofs.Tests.{refuted, confirmed}
use Rattle.script_input.specs.Machine.{ending}
use Rattle.script_input.proofs.Steps.{fed_short, fed-ready, feeding_start, feeding_ready, feeding_turn, feeding_end}
use Rattle.script_feed.proofs.feed.Goals as goal

pub returns-then-not-ready : goal.returns-then-not-ready
returns-then-not-ready c = fed_short _ _ (refuted c.ready.ensures c.if-not-ready.true)

pub loop-i-init : goal.loop-i-init
loop-i-init c = (refl, refl, refl, refl, refl, refl, feeding_start _ _ (confirmed c.ready.ensures c.if-not-ready.false))

pub take_byte-requires : goal.take_byte-requires
take_byte-requires c =
    feeding_ready c.loop-i.invariant.6 c.loop-i-test.true

pub loop-i-preserved : goal.loop-i-preserved
loop-i-preserved c =
    let t = c.take_byte in
    let inv = c.loop-i.invariant in (
      t.auto.versions ∙ inv.0,
      t.auto.links ∙ inv.1,
      t.auto.keys ∙ inv.2,
      t.auto.values ∙ inv.3,
      t.auto.line ∙ inv.4,
      t.auto.out ∙ inv.5,
      feeding_turn inv.6 c.loop-i-test.true t.ensures.0 t.ensures.1 t.auto.line t.auto.out,
    )

pub returns : goal.returns
returns c =
    ap ending (feeding_end c.loop-i.invariant.6 c.loop-i-test.false) ∙ fed-ready _ _ (confirmed c.ready.ensures c.if-not-ready.false)
