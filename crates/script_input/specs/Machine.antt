-- The machine that reads an input part by part: a table, the line that has begun, and the output. Assumes nothing.
use Rattle.std.specs.Prelude.{Result, ℕ, ◌+◌, ◌*◌, Bool, true, cond, ◌&&◌, List, [], ◌∷◌, ◌++◌, length, take, set, leb, ltb, eqb}
use Rattle.lists.specs.Put.{put}
use Rattle.refusal.specs.declared.Refusal.{Refusal}
use Rattle.writing.specs.Told.{Told, tells, refused}
use Rattle.writing.specs.Writing.{told_of}
use Rattle.table.specs.Table.{Table}
use Rattle.table.specs.Calls.{Out}
use Rattle.commands.specs.Lines.{longest, asked}
use Rattle.script_look.specs.Answers.{answered}
use Rattle.script_say.specs.Says.{newline, line_out, room}
use Rattle.script_input.specs.Script.{end_of}

-- how many bytes of a line are held: one more than a line may have, so that a longer one shows
abbrev pub held : ℕ
held = longest + 1

-- the table; the line that has begun, as a count and a buffer; and the output
pub record Machine : Type 0 where
  pub table : Table
  pub count : ℕ
  pub line : List ℕ
  pub out : List ℕ

abbrev pub machine : Table → ℕ → List ℕ → List ℕ → Machine
machine t n line out = record { table = t; count = n; line = line; out = out }

-- the bytes that are held of the line that has begun
abbrev pub begun : Machine → List ℕ
begun m = take m.count m.line

-- ---- one byte

-- a place of the output, and the machine
abbrev pub Step : Type 0
Step = ℕ × Machine

abbrev pub step_of : ℕ → Machine → Step
step_of at m = (at, m)

-- the answer o printed from a place on, with the next line not begun
abbrev pub closed_by : Machine → ℕ → Out → Step
closed_by m at o = (at + length (line_out o.0), machine o.1 0 m.line (put m.out at (line_out o.0)))

-- the line that has begun, run, and its answer printed from a place on
unfoldable pub closed : Machine → ℕ → Step
closed m at = closed_by m at (answered m.table (asked (begun m)))

-- a byte taken: a newline ends the line, which is then answered, and any other byte is held as long as there is room for it
unfoldable pub took : Machine → ℕ → ℕ → Step
took m at b =
    cond (eqb b newline) (closed m at)
    (cond (ltb m.count held) (at, machine m.table (m.count + 1) (set m.line m.count b) m.out) (at, m))

-- bytes taken one after the other, from a place of the output on
unfoldable pub took_all : Machine → ℕ → List ℕ → Step
took_all m at [] = (at, m)
took_all m at (b ∷ s) = took_all (took m at b).1 (took m at b).0 s

-- ---- a part of the input, and its end

-- the line's buffer is long enough and the count within it, and the output has room for so many answers
unfoldable pub is_ready_for : ℕ → ℕ → ℕ → ℕ → Bool
is_ready_for count line answers out = leb held line && (leb count held && leb (answers * room) out)

abbrev pub is_ready : Machine → ℕ → Bool
is_ready m n = is_ready_for m.count (length m.line) n (length m.out)

-- what was printed ends at a place; or it is a refusal, and nothing changed
abbrev pub Fed : Type 0
Fed = Told ℕ × Machine

abbrev pub fed_of : Result ℕ Refusal → Machine → Fed
fed_of w m = (told_of w, m)

abbrev pub ending : Step → Fed
ending p = (tells p.0, p.1)

-- a part of the input, its answers printed from the front of the output on. Room for an answer to each of its bytes is judged first, 6
unfoldable pub fed : Machine → List ℕ → Fed
fed m s = cond (is_ready m (length s)) (ending (took_all m 0 s)) (refused 6, m)

-- the end of the input: the line that has begun is run, unless it is empty
unfoldable pub finished : Machine → Fed
finished m = cond (is_ready m 1) (ending (cond (eqb m.count 0) (0, m) (closed m 0))) (refused 6, m)

-- ---- a whole input in parts

-- what a step has printed: the front of the output, up to the place it ends at
abbrev pub said_by : Fed → List ℕ
said_by f = take (end_of f.0) f.1.out

-- whether no part has more than k bytes
unfoldable pub are_within : ℕ → List (List ℕ) → Bool
are_within k [] = true
are_within k (s ∷ parts) = leb (length s) k && are_within k parts

-- what is printed when the parts are fed one after the other and the input then ends; and the table at the end
unfoldable pub fed_all : Machine → List (List ℕ) → List ℕ × Table
fed_all m [] = (said_by (finished m), (finished m).1.table)
fed_all m (s ∷ parts) = (said_by (fed m s) ++ (fed_all (fed m s).1 parts).0, (fed_all (fed m s).1 parts).1)
