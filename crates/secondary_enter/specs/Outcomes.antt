-- The rules' reading of what insert answers, with the map after it. Assumes nothing.
use Rattle.std.specs.Prelude.{List, ℕ, Result}
use Rattle.refusal.specs.declared.Refusal.{Refusal}
use Rattle.refusal.specs.declared.Changed.{Changed}
use Rattle.map.specs.declared.MapHeader.{MapHeader}
use Rattle.map.specs.Calls.{Said, said_ignored, said_replaced, said_kept, said_stored, refused, Out}
use Rattle.secondary.specs.Answers.{lent_map, reading}
use Rattle.secondary_enter.specs.declared.Inserted.{Inserted}
use Rattle.secondary_enter.specs.declared.Inserted.TheVariants as Inserted·

-- ---- the answers

abbrev pub inserted : Inserted → Said
inserted Inserted·.Ignored = said_ignored
inserted (Inserted·.Replaced x) = said_replaced x
inserted Inserted·.Kept = said_kept
inserted Inserted·.Stored = said_stored

abbrev pub inserted_of : Result Inserted Refusal → Said
inserted_of r = reading inserted refused r

-- ---- the answer with the map that it leaves

abbrev pub insertion_of : Changed MapHeader Inserted → List ℕ → List ℕ → Out
insertion_of r vs xs = (inserted_of r.answer, lent_map vs xs r.header)
