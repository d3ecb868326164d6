-- `say` makes the line at the front of its own buffer, where it always fits, and writes it as bytes.
use Rattle.std.proofs.Common.{◌∙◌, arith}
use lib.ListN.{length-take}
use Rattle.script_say.proofs.Says.{front_end, front_written, front_in, front_fits}
use Rattle.script_say.proofs.say.Goals as goal

pub slice_bounds-line-end : goal.slice_bounds-line-end
slice_bounds-line-end c = omega (arith, front_end _ _ _ c.write_line.ensures.0 c.in_ok-n.was, c.write_line.ensures.1)

pub slice_bounds-write_bytes-end : goal.slice_bounds-write_bytes-end
slice_bounds-write_bytes-end c = simp length-take (omega (arith, front_in _ _ _ c.write_line.ensures.0 c.in_ok-n.was))

pub returns : goal.returns
returns c =
    let line = c.write_line.ensures in
    (c.write_bytes.ensures ∙ front_written _ _ _ line.0 c.in_ok-n.was _ _, line.1)

pub returns-in_err-n : goal.returns-in_err-n
returns-in_err-n c = absurd (front_fits _ _ _ c.write_line.ensures.0 c.in_err-n.was)
