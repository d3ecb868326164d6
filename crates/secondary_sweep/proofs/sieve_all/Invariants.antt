-- `secondary_sweep::sieve_all` meets its contract: the slots that are left to be looked at give the run's result.
use Rattle.rules.specs.Rules.{keeps_of}
use Rattle.secondary_sweep.proofs.Turns.{Sieving}
use Rattle.secondary_sweep.proofs.sieve_all.Given as goal

abbrev pub invariant-loop-i : goal.invariant-loop-i
invariant-loop-i l = Sieving (keeps_of l.rule) (record { versions = l.initial.versions; values = l.values; head = l.initial.g })
    (record { versions = l.versions; values = l.values; head = l.g }) l.s l.i
