-- What the calls on a secondary map say, as answers. Assumes nothing.
use Rattle.map.specs.Calls.{Said, said_value, said_count, said_truth, said_ignored, said_replaced, said_kept, said_stored, said_element, said_done, refused, Judged, found, fails, Begun, begins, cannot}
use Rattle.answers.specs.declared.Answer.{Answer}
use Rattle.answers.specs.declared.Answer.TheVariants.{Refused, Number, Step, Kept, Ignored, Replaced, Stored, Truth}
use Rattle.answers.specs.Listed.{map_headed}

-- what a call says. Where it says "done" it depends on the call what is to be told: that it is done, that nothing was left, or what stands
-- in the output
abbrev pub listed : Answer → Said → Answer
listed d (said_value x) = Number x
listed d (said_count m) = Number m
listed d (said_truth b) = Truth b
listed d said_ignored = Ignored
listed d (said_replaced x) = Replaced x
listed d said_kept = Kept
listed d said_stored = Stored
listed d (said_element k x q) = Step k x q
listed d said_done = d
listed d (refused r) = Refused r

-- a key's slot
abbrev pub listed_slot : Judged → Answer
listed_slot (found i) = Number i
listed_slot (fails r) = Refused r

-- the header that a map begins with
abbrev pub listed_header : Begun → Answer
listed_header (begins h) = map_headed h
listed_header (cannot r) = Refused r
