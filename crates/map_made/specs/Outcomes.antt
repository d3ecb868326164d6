-- What a call on a secondary map leaves, with its answer as the programs tell it. Assumes nothing.
use Rattle.std.specs.Prelude.{List, ℕ}
use Rattle.map.specs.declared.MapHeader.{MapHeader}
use Rattle.map.specs.Map.{Map}
use Rattle.map.specs.Calls.{Out, Begun, begins, cannot}
use Rattle.secondary.specs.Answers.{lent_map}
use Rattle.answers.specs.declared.Answer.{Answer}
use Rattle.answers.specs.declared.Made.{Made}
use Rattle.map_answers.specs.Listed.{listed, listed_header}

-- the answer, and the map with the header that is handed back
abbrev pub outcome : Made MapHeader → List ℕ → List ℕ → Answer × Map
outcome r vs xs = (r.answer, lent_map vs xs r.header)

-- an outcome of the rules; d is what "done" answers
abbrev pub tells : Answer → Out → Answer × Map
tells d o = (listed d o.0, o.1)

-- a map that begins has its first header; of one that cannot begin the header stays
abbrev pub begun : MapHeader → Begun → Made MapHeader
begun h (begins g) = record { header = g; answer = listed_header (begins g) }
begun h (cannot r) = record { header = h; answer = listed_header (cannot r) }

-- what a disjoint call leaves: the answer, the map and the output
abbrev pub leaves : Answer → Map → List ℕ → (Answer × Map) × List ℕ
leaves a m out = ((a, m), out)

abbrev pub tells_slots : Answer → Out × List ℕ → (Answer × Map) × List ℕ
tells_slots d o = (tells d o.0, o.1)
