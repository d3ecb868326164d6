-- `close` runs the bytes that are held; the room it asks for is there.
use mathlib.Core.Path.{sym}
use native.Mathlib.Omega.{arith}
use lib.Seq.{length-take-le}
use Rattle.script_input.proofs.Steps.{closes}
use Rattle.script_feed.proofs.close.Goals as goal

pub slice_bounds-run_line-end : goal.slice_bounds-run_line-end
slice_bounds-run_line-end c =
    let pre = c.requires in
    sym (length-take-le _ _ (omega (arith, pre.long, pre.within)))

pub returns : goal.returns
returns c =
    (closes _ _ _ _ c.requires.roomy c.run_line-ran.ensures.0 c.end_of.ensures, omega (arith, c.end_of.ensures, c.run_line-ran.ensures.1))
