-- `write_refusal` writes the number where the word ended; there is room for both.
use Rattle.std.proofs.Common.{◌+◌, ◌≤◌, ◌∙◌, length, rules}
use Rattle.script_say.specs.Says.{room}
use Rattle.script_say.proofs.Says.{refusal-text, refusal-fits}
use Rattle.script_say.proofs.write_refusal.Goals as goal

pub returns-in_err-n : goal.returns-in_err-n
returns-in_err-n c =
    let fits : 0 + room ≤ length c.args.out.now = search rules in
    absurd (refusal-fits _ _ _ fits c.write_bytes.ensures c.in_err-n.was)

pub returns : goal.returns
returns c =
    let fits : 0 + room ≤ length c.args.out.now = search rules in
    c.write_decimal.ensures ∙ refusal-text _ _ _ fits c.write_bytes.ensures c.args.refusal c.in_ok-n.was c.number.ensures
