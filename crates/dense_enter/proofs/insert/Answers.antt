-- `dense_enter::insert` meets its contract.
use Rattle.table.specs.Calls.{insert}
use Rattle.table.proofs.Judged.{roomy}
use Rattle.dense.proofs.Answers.{issued-key, issued-refused}
use Rattle.dense_enter.proofs.insert.Goals as goal

pub fill-header-requires : goal.fill-header-requires
fill-header-requires c = roomy _ _ (issued-key _ c.next_key-answer.ensures c.in-Ok.is)

pub returns-in-Ok : goal.returns-in-Ok
unfolding insert
returns-in-Ok c = simp (issued-key _ c.next_key-answer.ensures c.in-Ok.is, ← c.fill-header.ensures)

pub returns-in-Err : goal.returns-in-Err
unfolding insert
returns-in-Err c = simp (issued-refused _ c.next_key-answer.ensures c.in-Err.is, c.in-Err.is)
