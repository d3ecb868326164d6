-- What each answer of the code says on paper: the number of a refusal, or the values. Assumes nothing.
use Rattle.std.specs.Prelude.{ℕ, Bool, Result, Ok, Err}
use Rattle.refusal.specs.declared.Refusal.{Refusal}
use Rattle.refusal.specs.Refusals.{number_of}
use Rattle.table.specs.declared.Header.{Header}
use Rattle.table.specs.Table.{Table}
use Rattle.table.specs.Calls.{Said, said_key, said_value, said_count, said_truth, said_done, refused, Out, Judged, found, fails, Begun, begins, cannot}

-- an answer with the table after the call
abbrev pub outcome : Said → Table → Out
outcome said t = (said, t)

-- a place or a slot that a judgement finds
abbrev pub judged_of : Result ℕ Refusal → Judged
judged_of (Ok p) = found p
judged_of (Err r) = fails (number_of r)

abbrev pub begun_of : Result Header Refusal → Begun
begun_of (Ok h) = begins h
begun_of (Err r) = cannot (number_of r)

-- an answer, told in the given way, or the refusal
abbrev pub said : {A : Type 0} → (A → Said) → Result A Refusal → Said
said tells (Ok x) = tells x
said tells (Err r) = refused (number_of r)

abbrev pub value_said : Result ℕ Refusal → Said
value_said = said said_value

abbrev pub issued_said : Result ℕ Refusal → Said
issued_said = said said_key

abbrev pub count_said : Result ℕ Refusal → Said
count_said = said said_count

abbrev pub truth_said : Result Bool Refusal → Said
truth_said = said said_truth

abbrev pub done_said : Result Unit Refusal → Said
done_said = said (λ _. said_done)
