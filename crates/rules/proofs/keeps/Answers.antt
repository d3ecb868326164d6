-- `rules::keeps` meets its contract: each arm tests what its kind of rule says.
use borrow.Author.Tests.{le-leb, lt-leb}
use Rattle.rules.specs.Rules.{keeps_of}
use Rattle.rules.proofs.keeps.Goals as goal

pub returns-then-value-lo : goal.returns-then-value-lo
unfolding keeps_of
returns-then-value-lo c = rw (c.in-Values.is, lt-leb _ _ c.if-value-lo.true)

pub returns-then-index-lo : goal.returns-then-index-lo
unfolding keeps_of
returns-then-index-lo c = rw (c.in-Indexes.is, lt-leb _ _ c.if-index-lo.true)

pub returns-else-value-lo : goal.returns-else-value-lo
unfolding keeps_of
returns-else-value-lo c = rw (c.in-Values.is, le-leb _ _ c.if-value-lo.false)

pub returns-in-Masked : goal.returns-in-Masked
unfolding keeps_of
returns-in-Masked c = rw c.in-Masked.is

pub returns-else-index-lo : goal.returns-else-index-lo
unfolding keeps_of
returns-else-index-lo c = rw (c.in-Indexes.is, le-leb _ _ c.if-index-lo.false)
