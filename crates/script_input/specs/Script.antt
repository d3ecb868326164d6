-- A line of a script run on a table, its answer in a lent buffer (the rules, section "Script"). Assumes nothing.
use Rattle.std.specs.Prelude.{Result, ℕ, ◌+◌, cond, List, length, leb}
use Rattle.lists.specs.Put.{put}
use Rattle.refusal.specs.declared.Refusal.{Refusal}
use Rattle.writing.specs.Told.{Told, tells}
use Rattle.writing.specs.Writing.{told_of}
use Rattle.writing.specs.Told as told
use Rattle.table.specs.Table.{Table}
use Rattle.table.specs.Calls.{Out}
use Rattle.commands.specs.Lines.{asked}
use Rattle.script_look.specs.Answers.{answered}
use Rattle.script_say.specs.Says.{line_out, room}

-- "C=1,000"
abbrev pub capacity : ℕ
capacity = 1000

-- where a text was told to end; 0 of a refusal
abbrev pub end_of : Told ℕ → ℕ
end_of (tells n) = n
end_of (told.refused r) = 0

-- a line's outcome: where the printed text ends, the table and the buffer
abbrev pub Run : Type 0
Run = Told ℕ × (Table × List ℕ)

abbrev pub ran_of : Result ℕ Refusal → Table → List ℕ → Run
ran_of w t b = (told_of w, (t, b))

-- the answer o, printed into the buffer b from a place on
abbrev pub shown : Out → ℕ → List ℕ → Run
shown o at b = (tells (at + length (line_out o.0)), (o.1, put b at (line_out o.0)))

-- a line run on a table, its answer printed into the buffer b from a place on. The room for the longest answer is judged before the line is
-- run, since no call is made that could not be answered: 6, and nothing is done
unfoldable pub ran : Table → List ℕ → ℕ → List ℕ → Run
ran t line at b = cond (leb (at + room) (length b)) (shown (answered t (asked line)) at b) (told.refused 6, (t, b))
