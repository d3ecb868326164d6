-- What the calls on a dense table say, as answers. Assumes nothing.
use Rattle.table.specs.Calls.{Said, said_key, said_value, said_pair, said_done, said_count, said_truth, refused, Judged, found, fails, Begun, begins, cannot}
use Rattle.answers.specs.declared.Answer.{Answer}
use Rattle.answers.specs.declared.Answer.TheVariants.{Refused, Number, Key, Pair, Truth}
use Rattle.answers.specs.declared.Answer.TheVariants as kinds
use Rattle.table.specs.declared.Header.{Header}
use Rattle.map.specs.declared.MapHeader.{MapHeader}

-- what a call says. Where it says "done" it depends on the call what is to be told: that it is done, that nothing was left, or what stands
-- in the output
abbrev pub listed : Answer → Said → Answer
listed d (said_key k) = Key k
listed d (said_value x) = Number x
listed d (said_pair k x) = Pair k x
listed d said_done = d
listed d (said_count m) = Number m
listed d (said_truth b) = Truth b
listed d (refused r) = Refused r

-- a key's place
abbrev pub listed_place : Judged → Answer
listed_place (found p) = Number p
listed_place (fails r) = Refused r

-- the header of a table, and of a secondary map
abbrev pub headed : Header → Answer
headed h = kinds.Header h.n h.s h.f

abbrev pub map_headed : MapHeader → Answer
map_headed h = kinds.MapHeader h.s h.count

-- the header that a table begins with
abbrev pub listed_header : Begun → Answer
listed_header (begins h) = headed h
listed_header (cannot r) = Refused r
