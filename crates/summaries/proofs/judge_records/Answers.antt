-- `judge_records` meets its contract: the count was read as a number of 32 bits.
use Rattle.std.proofs.Common.{sym}
use Rattle.numbers.proofs.Bounds.{number_fits}
use Rattle.records.proofs.Records.{count-is}
use Rattle.summaries.proofs.judge_records.Goals as goal

pub overflow_cast-count : goal.overflow_cast-count
overflow_cast-count c =
    let a = c.args in
    record { fits = number_fits 32 a.bytes.now 0 _ _ (count-is a.bytes.now a.most _ _ (sym c.in_ok-count.ensures)).0 }
