-- `rebuild` meets its contract: the lengths, the image's faults, and then the stores.
use mathlib.Core.Path.{sym}
use Rattle.std.proofs.lemmas.Result.{err_from_is_err_and}
use Rattle.lists.proofs.Tests.{refuted, confirmed}
use Rattle.image.proofs.Building.{starts, rebuild-shape, rebuild-refused, rebuild-told}
use Rattle.image_read.proofs.rebuild.Goals as goal

pub returns-then-not-lengths_fit : goal.returns-then-not-lengths_fit
returns-then-not-lengths_fit c = rebuild-shape _ _ _ _ _ (refuted c.lengths_fit.ensures c.if-not-lengths_fit.true)

pub returns-in_err-judged : goal.returns-in_err-judged
returns-in_err-judged c =
    let p = err_from_is_err_and c.from_residual.result c.from_residual.ensures.1 in
    rw (p.1, p.2) (rebuild-refused _ _ _ _ _ (confirmed c.lengths_fit.ensures c.if-not-lengths_fit.false) _ (sym c.in_err-judged.ensures))

pub store_records-requires : goal.store_records-requires
store_records-requires c = starts _ _ _ _ _ (confirmed c.lengths_fit.ensures c.if-not-lengths_fit.false) _ _ (sym c.in_ok-judged.ensures)

pub returns : goal.returns
returns c = rebuild-told _ _ _ _ _ (confirmed c.lengths_fit.ensures c.if-not-lengths_fit.false) _ c.store_records.ensures
