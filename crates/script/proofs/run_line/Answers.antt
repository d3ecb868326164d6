-- `run_line` does what the line asks for and says the answer.
use Rattle.std.proofs.Common.{zero-le}
use Rattle.lists.proofs.Tests.{refuted, confirmed}
use Rattle.script_input.proofs.Runs.{ran_short, runs, ends_in_room}
use Rattle.script.proofs.run_line.Goals as goal

pub returns-then-not-has_room : goal.returns-then-not-has_room
returns-then-not-has_room c = (ran_short _ _ _ _ (refuted c.has_room.ensures c.if-not-has_room.true), zero-le)

pub returns : goal.returns
returns c =
    let fits = confirmed c.has_room.ensures c.if-not-has_room.false in
    let said = c.say.ensures in
    (runs _ _ _ _ _ _ _ fits c.parse.ensures c.act-answer.ensures said.0 said.1, ends_in_room _ _ _ _ fits said.0 said.1)
