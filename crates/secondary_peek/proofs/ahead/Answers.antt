-- `secondary_peek::ahead` meets its contract: what is left of the search is the whole search.
use mathlib.Core.Path.{sym, ◌∙◌}
use mathlib.Core.Logic.{by_cases}
use native.Mathlib.Omega.{arith}
use native.Mathlib.Decide.{dec_lt}
use Rattle.map.proofs.Shaped.{shaped}
use Rattle.map.proofs.Seek.{seek-occupied, seek_vacant, seek-end, ahead_from}
use Rattle.secondary_peek.proofs.ahead.Goals as goal

pub bounds-versions-i : goal.bounds-versions-i
bounds-versions-i c = omega (arith, shaped _ c.args.map.shape)

pub returns-then-versions-i-ne0 : goal.returns-then-versions-i-ne0
returns-then-versions-i-ne0 c =
    sym (seek-occupied _ _ _ c.loop-i-test.true c.if-versions-i-ne0.true) ∙ c.loop-i.invariant ∙ ahead_from _ _ _ c.max-from.ensures

pub loop-i-preserved : goal.loop-i-preserved
loop-i-preserved c = sym (seek_vacant _ _ _ c.loop-i-test.true c.if-versions-i-ne0.false) ∙ c.loop-i.invariant

-- the search ends after the last slot, or at the place if that is past it
pub returns : goal.returns
returns c =
    let end = seek-end c.args.map.view.versions.now _ _ c.loop-i-test.false in
    rw (← ahead_from _ _ _ c.max-from.ensures)
    (by_cases (dec_lt c.max-from.result c.args.map.view.h.s)
    (λ l. omega (arith, end, c.loop-i.invariant))
    (λ g. omega (arith, end, c.loop-i.invariant, seek-end c.args.map.view.versions.now c.args.map.view.h.s c.max-from.result (omega arith))))
