-- `secondary_sweep::asked` meets its contract.
use mathlib.Core.Path.{refl}
use Rattle.std.proofs.lemmas.Result.{err_from_is_err_and}
use Rattle.lists.proofs.Tests.{refuted, confirmed}
use Rattle.secondary_sweep.proofs.asked.Goals as goal

pub returns-in_err-map : goal.returns-in_err-map
returns-in_err-map c =
    let p = err_from_is_err_and c.from_residual.result c.from_residual.ensures.1 in
    rw p.1 (λ after. rw (p.2, c.in_err-map.ensures.0, c.in_err-map.ensures.1) refl)

pub returns-then-not-is_whole : goal.returns-then-not-is_whole
returns-then-not-is_whole c = λ after. rw (← c.in_ok-map.ensures, c.in_ok-map.map.shape, refuted c.is_whole.ensures c.if-not-is_whole.true) refl

pub returns : goal.returns
returns c = rw (← c.in_ok-map.ensures) (c.in_ok-map.map.shape, confirmed c.is_whole.ensures c.if-not-is_whole.false)
