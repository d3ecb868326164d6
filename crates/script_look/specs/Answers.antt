-- What a line of a script does to a table (the rules, section "Script"). Assumes nothing.
use Rattle.std.specs.Prelude.{Result, Ok, Err}
use Rattle.refusal.specs.declared.Refusal.{Refusal}
use Rattle.refusal.specs.Refusals.{number_of}
use Rattle.table.specs.Table.{Table}
use Rattle.table.specs.Calls.{Said, said_key, said_value, said_done, said_count, refused, Out, len, lookup}
use Rattle.table.specs.Steps.{step}
use Rattle.dense.specs.Answers.{said}
use Rattle.commands.specs.declared.Command.{Command}
use Rattle.commands.specs.declared.Command.TheVariants as command
use Rattle.commands.specs.Lines.{Asked, asks, asks_len, rejects}
use Rattle.script_look.specs.declared.Answer.{Answer}
use Rattle.script_look.specs.declared.Answer.TheVariants.{Key, Value, Done, Count}

-- what an answer of the code says on paper
abbrev pub answer_told : Answer → Said
answer_told (Key k) = said_key k
answer_told (Value x) = said_value x
answer_told Done = said_done
answer_told (Count m) = said_count m

abbrev pub answer_said : Result Answer Refusal → Said
answer_said = said answer_told

-- what is asked for, done: a call of the table, the number of its elements, or a refusal that touches nothing
unfoldable pub answered : Table → Asked → Out
answered t (asks c) = step t c
answered t asks_len = (len t, t)
answered t (rejects r) = (refused r, t)

-- what the commands that only look are answered; the others are not understood there
unfoldable pub looked : Table → Result Command Refusal → Said
looked t (Ok (command.Get k)) = (lookup t k).0
looked t (Ok command.Len) = len t
looked t (Err r) = refused (number_of r)
looked t (Ok (command.Insert x)) = refused 17
looked t (Ok (command.Remove k)) = refused 17
looked t (Ok (command.Detach k)) = refused 17
looked t (Ok (command.Reattach k x)) = refused 17
