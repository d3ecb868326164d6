-- `end_line` writes the newline where the text ended, and hands a refusal on.
use Rattle.std.proofs.Common.{[], ◌∷◌, ◌∙◌}
use Rattle.std.proofs.lemmas.Result.{err_from_is_err_and}
use Rattle.writing.proofs.Writing.{then_end, then_refused}
use Rattle.script_say.specs.Says.{newline}
use Rattle.script_say.proofs.end_line.Goals as goal

pub returns : goal.returns
returns c = c.write_bytes.ensures ∙ then_end (newline ∷ []) _ c.in_ok-w.was

pub returns-in_err-w : goal.returns-in_err-w
returns-in_err-w c =
    let p = err_from_is_err_and c.from_residual.result c.from_residual.ensures.1 in
    rw (p.1, p.2) (then_refused _ _ c.in_err-w.was)
