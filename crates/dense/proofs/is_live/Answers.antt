-- `dense::is_live` meets its contract: a return for each test.
use native.Mathlib.Omega.{arith}
use Rattle.lists.proofs.Tests.{tests}
use Rattle.table.specs.Table.{is_live}
use Rattle.dense.proofs.is_live.Goals as goal

pub returns-then-i-lt1 : goal.returns-then-i-lt1
unfolding is_live
returns-then-i-lt1 c = search (tests, arith)

pub returns-then-h-i : goal.returns-then-h-i
unfolding is_live
returns-then-h-i c = search (tests, arith)

pub returns : goal.returns
unfolding is_live
returns c = search (tests, arith)
