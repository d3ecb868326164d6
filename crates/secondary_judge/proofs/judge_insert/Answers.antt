-- `secondary_judge::judge_insert` meets its contract: each return is a case of the definition.
use Rattle.std.proofs.Common.{rules}
use Rattle.std.proofs.lemmas.Result.{err_from_is_err_and}
use mathlib.Core.Path.{sym, ◌∙◌}
use native.Mathlib.Omega.{arith}
use Rattle.map.specs.Calls.{fate}
use Rattle.map.proofs.Shaped.{shaped}
use Rattle.map.proofs.Fates.{fate-null, fate-below, fate_above}
use Rattle.secondary.proofs.Seen.{shape_of_view}
use Rattle.secondary_judge.proofs.judge_insert.Goals as goal

pub returns-in_err-map : goal.returns-in_err-map
unfolding fate
returns-in_err-map c =
    let p = err_from_is_err_and c.from_residual.result c.from_residual.ensures.1 in
    rw (p.1, p.2) (simp (c.in_err-map.ensures.0, c.in_err-map.ensures.1))

pub returns-then-is_null : goal.returns-then-is_null
returns-then-is_null c = sym (fate-null _ _ (shape_of_view c.in_ok-map.map c.in_ok-map.ensures) (sym c.is_null.ensures ∙ c.if-is_null.true))

pub overflow_add-key : goal.overflow_add-key
overflow_add-key c = omega (arith, shaped _ c.in_ok-map.map.shape)

pub returns-then-key-h : goal.returns-then-key-h
returns-then-key-h c = rw (← c.in_ok-map.ensures)
    (c.settle.ensures ∙ sym (fate-below _ _ c.in_ok-map.map.shape (sym c.is_null.ensures ∙ c.if-is_null.false) (search rules) c.if-versions-i.false c.if-key-h.true))

pub returns : goal.returns
returns c = rw (← c.in_ok-map.ensures)
    (c.settle-2.ensures ∙ sym (fate_above _ _ c.in_ok-map.map.shape (sym c.is_null.ensures ∙ c.if-is_null.false) (search rules) c.if-versions-i.false c.if-key-h.false))
