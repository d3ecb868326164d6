-- `mix_all` walks the list: what is left of it is mixed into what has been reached.
use Rattle.std.proofs.Common.{◌≡◌, drop}
use Rattle.replay.specs.Digest.{mixed_each}
use Rattle.replay.proofs.mix_all.Given as goal

abbrev pub invariant-loop-x : goal.invariant-loop-x
invariant-loop-x g l = mixed_each g.T.Wide.wide l.d (drop l.x-index l.list) ≡ mixed_each g.T.Wide.wide l.initial.d l.list
