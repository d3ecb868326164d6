-- The rules' reading of what the calls over many elements answer, with the map after them. Assumes nothing.
use Rattle.std.specs.Prelude.{List, ℕ, Result}
use Rattle.refusal.specs.declared.Refusal.{Refusal}
use Rattle.refusal.specs.declared.Changed.{Changed}
use Rattle.map.specs.declared.MapHeader.{MapHeader}
use Rattle.map.specs.Calls.{Said, said_done, refused, Out}
use Rattle.secondary.specs.Answers.{lent_map, reading}

abbrev pub swept_of : Result (Unit {0}) Refusal → Said
swept_of r = reading (λ u. said_done) refused r

abbrev pub sweep_of : Changed MapHeader (Unit {0}) → List ℕ → List ℕ → Out
sweep_of r vs xs = (swept_of r.answer, lent_map vs xs r.header)
