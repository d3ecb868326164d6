-- `secondary_sweep::drain_all` meets its contract: each step goes on past vacant slots, so it is a step from the front.
use Rattle.std.proofs.Common.{rules}
use mathlib.Core.Path.{◌≡◌, ap}
use mathlib.Core.Logic.{◌≢◌}
use Rattle.secondary.specs.declared.Element.{Element}
use Rattle.std.specs.Prelude.{Some, Ok}
use Rattle.map.specs.Calls.{Out}
use Rattle.secondary_sweep.proofs.Turns.{draining_start, draining_less, draining_turn, draining_ends, step-element, step-none}
use Rattle.secondary_sweep.proofs.drain_all.Goals as goal

pub loop-element-init : goal.loop-element-init
loop-element-init c = draining_start _

pub loop-element-smaller : goal.loop-element-smaller
loop-element-smaller c =
    let a : c.drain_step-d.result.answer ≡ Ok (Some c.in-Ok-Some.element) = search rules in
    draining_less _ _ _ _ c.loop-element.invariant _ _ _ (step-element _ _ _ _ c.drain_step-d.ensures _ a)

pub loop-element-preserved : goal.loop-element-preserved
loop-element-preserved c =
    let a : c.drain_step-d.result.answer ≡ Ok (Some c.in-Ok-Some.element) = search rules in
    draining_turn _ _ _ _ c.loop-element.invariant _ _ _ (step-element _ _ _ _ c.drain_step-d.ensures _ a)

pub returns-in-Ok-None : goal.returns-in-Ok-None
returns-in-Ok-None c =
    let none : (x : Element) → c.drain_step-d.result.answer ≢ Ok (Some x) = λ x h. search rules in
    draining_ends _ _ _ _ c.loop-element.invariant (step-none _ _ _ _ c.drain_step-d.ensures none) (ap (λ (o : Out). o.1) c.drain_step-d.ensures)
