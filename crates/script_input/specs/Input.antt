-- The lines of an input, and what all of them print (the rules, section "Script"). Assumes nothing.
use Rattle.std.specs.Prelude.{ℕ, cond, List, [], ◌∷◌, ◌++◌, eqb}
use Rattle.table.specs.Table.{Table}
use Rattle.table.specs.Steps.{Call}
use Rattle.commands.specs.Lines.{Asked, asks, asks_len, rejects, asked}
use Rattle.script_look.specs.Answers.{answered}
use Rattle.script_say.specs.Says.{newline, line_out}

-- the last line, where the bytes p came after the last newline: "the last may lack it"; where none came there is no line
abbrev pub last_line : List ℕ → List (List ℕ)
last_line [] = []
last_line (b ∷ p) = (b ∷ p) ∷ []

-- the lines of the rest of an input, where the bytes p came since the last newline: "a newline ends a line"
unfoldable pub lines_from : List ℕ → List ℕ → List (List ℕ)
lines_from p [] = last_line p
lines_from p (b ∷ s) = cond (eqb b newline) (p ∷ lines_from [] s) (lines_from (p ++ (b ∷ [])) s)

abbrev pub lines : List ℕ → List (List ℕ)
lines s = lines_from [] s

-- a text before what is printed later, and the table at the end
abbrev pub ahead : List ℕ → List ℕ × Table → List ℕ × Table
ahead x q = (x ++ q.0, q.1)

-- what lines print, each run on the table that the one before it left; and the table that the last one leaves
unfoldable pub printed_lines : Table → List (List ℕ) → List ℕ × Table
printed_lines t [] = ([], t)
printed_lines t (l ∷ ls) = ahead (line_out (answered t (asked l)).0) (printed_lines (answered t (asked l)).1 ls)

-- what an input prints, from the table t on; and the table after it
abbrev pub printed : Table → List ℕ → List ℕ × Table
printed t s = printed_lines t (lines s)

-- ---- the calls that lines ask for

-- the calls made, the latest first, once what a line asks for is done; `l` and a line that is not understood make none
abbrev pub called_by : List Call → Asked → List Call
called_by cs (asks c) = c ∷ cs
called_by cs asks_len = cs
called_by cs (rejects r) = cs

-- the same of all lines, after the calls cs
unfoldable pub called : List Call → List (List ℕ) → List Call
called cs [] = cs
called cs (l ∷ ls) = called (called_by cs (asked l)) ls
