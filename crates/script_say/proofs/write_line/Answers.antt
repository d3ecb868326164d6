-- `write_line` ends the line behind the answer's text.
use Rattle.std.proofs.Common.{◌+◌, ◌≤◌, length, rules}
use Rattle.script_say.specs.Says.{room}
use Rattle.script_say.proofs.Says.{says}
use Rattle.script_say.proofs.write_line.Goals as goal

pub returns : goal.returns
returns c =
    let fits : 0 + room ≤ length c.args.out.now = search rules in
    says _ _ _ _ fits c.end_line.ensures _ c.write_text-w.ensures.0 c.write_text-w.ensures.1
