-- `dense_free::is_free_list` meets its contract. The loop's invariant: what is ahead of slot g, after met steps, is what was ahead at first.
-- The measure is what is left of s steps.
use borrow.Author.Rules.{rules}
use mathlib.Core.Path.{◌∙◌}
use native.Mathlib.Omega.{arith}
use Rattle.keys.proofs.Versions.{told-odd, told-even}
use Rattle.table.proofs.Checking.{walk_start, walk_round, walk_low, walk_high, walk_odd, walk_turn, walk_end}
use Rattle.dense_free.proofs.is_free_list.Goals as goal

pub loop-g-init : goal.loop-g-init
loop-g-init c = (search rules, walk_start _ _)

pub returns-then-met-h : goal.returns-then-met-h
returns-then-met-h c = walk_round _ _ _ _ c.loop-g-test.true c.if-met-h.true ∙ c.loop-g.invariant.1

pub returns-then-g-lt1 : goal.returns-then-g-lt1
returns-then-g-lt1 c = walk_low _ _ _ _ c.loop-g-test.true c.loop-g.invariant.0 c.if-met-h.false c.if-g-lt1.true ∙ c.loop-g.invariant.1

pub returns-then-h-g : goal.returns-then-h-g
returns-then-h-g c = walk_high _ _ _ _ c.loop-g-test.true c.loop-g.invariant.0 c.if-met-h.false c.if-g-lt1.false c.if-h-g.true ∙ c.loop-g.invariant.1

pub returns-then-is_odd : goal.returns-then-is_odd
returns-then-is_odd c = walk_odd _ _ _ _ c.loop-g-test.true c.loop-g.invariant.0 c.if-met-h.false c.if-g-lt1.false c.if-h-g.false (told-odd _ c.is_odd.ensures c.if-is_odd.true) ∙ c.loop-g.invariant.1

pub loop-g-preserved : goal.loop-g-preserved
loop-g-preserved c = (
  omega (arith, c.if-met-h.false),
  walk_turn _ _ _ _ c.loop-g-test.true c.loop-g.invariant.0 c.if-met-h.false c.if-g-lt1.false c.if-h-g.false (told-even _ c.is_odd.ensures c.if-is_odd.false) ∙ c.loop-g.invariant.1,
)

pub returns : goal.returns
returns c = walk_end _ _ _ _ c.loop-g-test.false ∙ c.loop-g.invariant.1
