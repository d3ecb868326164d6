-- `secondary_sweep::retain` meets its contract: the run is made on a whole map.
use Rattle.map.proofs.Whole.{passes_whole}
use Rattle.secondary_sweep.proofs.retain.Goals as goal

pub sieve_all-g-requires : goal.sieve_all-g-requires
sieve_all-g-requires c = passes_whole _ c.in_default.ensures.1
