-- What a drain step's answer says on paper. Assumes nothing.
use Rattle.std.specs.Prelude.{ℕ, Option, Some, None, Result}
use Rattle.refusal.specs.declared.Refusal.{Refusal}
use Rattle.table.specs.Table.{Table, key, val, last, freed_head, freed}
use Rattle.table.specs.Calls.{Said, Out, said_pair, said_done}
use Rattle.dense.specs.Answers.{said}
use Rattle.dense_drain.specs.declared.Drained.{Drained}

-- what a step takes; nothing, when it is done
abbrev pub taken_said : Option Drained → Said
taken_said (Some d) = said_pair d.key d.value
taken_said None = said_done

abbrev pub pair_said : Result (Option Drained) Refusal → Said
pair_said = said taken_said

-- ---- for private functions

-- the last element, and the table when the slot i has let it go
abbrev pub taking : Table → ℕ → Out
taking t i = (said_pair (key t (last t)) (val t (last t)), freed t i t.head.f (freed_head t.head i))
