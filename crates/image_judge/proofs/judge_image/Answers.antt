-- `judge_image` meets its contract: the counts among what is kept.
use mathlib.Core.Path.{sym}
use Rattle.std.proofs.lemmas.Result.{err_from_is_err_and}
use Rattle.image.proofs.Faults.{counts-refused, counts-told}
use Rattle.image_judge.proofs.judge_image.Goals as goal

pub returns-in_err-summary : goal.returns-in_err-summary
returns-in_err-summary c =
    let p = err_from_is_err_and c.from_residual.result c.from_residual.ensures.1 in
    rw (p.1, p.2) (counts-refused _ _ _ (sym c.in_err-summary.ensures))

pub returns : goal.returns
returns c = counts-told _ _ _ _ (sym c.in_ok-summary.ensures)
