-- `dense_free::is_waiting` meets its contract: a return for each test.
use Rattle.keys.proofs.Versions.{told-odd, told-even}
use Rattle.table.proofs.Checking.{waiting_low, waiting_odd, waiting_link}
use Rattle.dense_free.proofs.is_waiting.Goals as goal

pub returns-then-i-lt1 : goal.returns-then-i-lt1
returns-then-i-lt1 c = waiting_low _ _ c.if-i-lt1.true

pub returns-then-is_odd : goal.returns-then-is_odd
returns-then-is_odd c = waiting_odd _ _ c.if-i-lt1.false (told-odd _ c.is_odd.ensures c.if-is_odd.true)

pub returns : goal.returns
returns c = waiting_link _ _ c.if-i-lt1.false (told-even _ c.is_odd.ensures c.if-is_odd.false)
