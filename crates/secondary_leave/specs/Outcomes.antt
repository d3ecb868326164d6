-- The rules' reading of what remove and a drain step answer, with the map after them. Assumes nothing.
use Rattle.std.specs.Prelude.{List, ℕ, Option}
use Rattle.refusal.specs.declared.Changed.{Changed}
use Rattle.map.specs.declared.MapHeader.{MapHeader}
use Rattle.map.specs.Calls.{Out}
use Rattle.secondary.specs.declared.Element.{Element}
use Rattle.secondary.specs.Answers.{lent_map, got_of, step_of}

abbrev pub removal_of : Changed MapHeader ℕ → List ℕ → List ℕ → Out
removal_of r vs xs = (got_of r.answer, lent_map vs xs r.header)

abbrev pub drained_of : Changed MapHeader (Option Element) → List ℕ → List ℕ → Out
drained_of r vs xs = (step_of r.answer, lent_map vs xs r.header)
