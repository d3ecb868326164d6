-- `dense_disjoint::write_places` meets its contract: what is left to write gives the same whole at every turn.
use Rattle.std.proofs.Common.{◌≡◌, drop}
use Rattle.lists.specs.Put.{put}
use Rattle.table.proofs.Marking.{linked}
use Rattle.dense_disjoint.proofs.write_places.Given as goal

abbrev pub invariant-loop-j : goal.invariant-loop-j
invariant-loop-j l = put l.out l.j (linked l.links (drop l.j l.wanted)) ≡ put l.initial.out 0 (linked l.links l.wanted)
