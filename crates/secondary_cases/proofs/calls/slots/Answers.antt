-- `slots` lends a part of its output, and shows that part.
use mathlib.Core.Path.{refl}
use native.Mathlib.Omega.{arith}
use Rattle.replay.proofs.Parts.{part_lent, part_back}
use Rattle.secondary_cases.proofs.calls.slots.Goals as goal

pub slice_bounds-disjoint-end : goal.slice_bounds-disjoint-end
slice_bounds-disjoint-end c = part_lent 8 _ _ _ refl c.least-o.ensures

pub slice_bounds-out-end-2 : goal.slice_bounds-out-end-2
slice_bounds-out-end-2 c =
    omega (arith, c.least-o.ensures, part_back 8 _ _ _ refl c.least-o.ensures c.disjoint.new.out c.disjoint.auto.out)

pub slice_bounds-show_words-end : goal.slice_bounds-show_words-end
slice_bounds-show_words-end c =
    part_lent 8 _ _ _ (part_back 8 _ _ _ refl c.least-o.ensures c.disjoint.new.out c.disjoint.auto.out) c.least-o.ensures
