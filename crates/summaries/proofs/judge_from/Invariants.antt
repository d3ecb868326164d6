-- `judge_from` meets its contract. The loop's invariant: what is kept of all records is what is kept of those left, after those read.
use Rattle.std.proofs.Common.{◌≡◌, ◌-◌}
use Rattle.summaries.specs.Summaries.{blank}
use Rattle.summaries.proofs.Summaries.{keeping}
use Rattle.summaries.proofs.judge_from.Given as goal

abbrev pub invariant-loop : goal.invariant-loop
invariant-loop l = keeping l.count l.bytes l.from blank ≡ keeping (l.count - l.counter) l.bytes l.at l.summary
