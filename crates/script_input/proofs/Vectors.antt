-- The whole case of the rules, computed from the definitions, on a fresh table of C = 3: the rest of 1,000 places is never looked at. Assumes nothing.
use mathlib.Core.Path.{◌≡◌, refl}
use mathlib.Core.List.{List, [], ◌∷◌}
use Prim.Native.Nat.{ℕ}
use Rattle.keys.specs.Keys.{version}
use Rattle.text.specs.Text.{digits, digit_of, key_text}
use Rattle.table.specs.Table.{Table, lengths_fit, has_shape, is_live, dead, is_held, last_in_range, head_is_free, entered, freed, filled, left}
use Rattle.table.specs.Calls.{fresh_head, fresh, fresh_table, len, place_in, place, lookup, next_in, next, inserted, insert, leaving, remove}
use Rattle.table.specs.Steps.{step}
use Rattle.fields.specs.Fields.{number_at, field_at}
use Rattle.commands.specs.Lines.{key_in, asked}
use Rattle.script_look.specs.Answers.{answered}
use Rattle.script_say.specs.Says.{answer_text, line_out}
use Rattle.script_input.specs.Input.{lines_from, printed_lines, printed}

table : Table
table = fresh_table (9 ∷ 9 ∷ 9 ∷ 9 ∷ []) (9 ∷ 9 ∷ 9 ∷ 9 ∷ []) (9 ∷ 9 ∷ 9 ∷ []) (9 ∷ 9 ∷ 9 ∷ []) fresh_head

-- `i 7`, `i 300`, `r 1 1`, `g 1 1`, `i 9`, `l`, the last without its newline
input : List ℕ
input =
    105 ∷ 32 ∷ 55 ∷ 10 ∷ 105 ∷ 32 ∷ 51 ∷ 48 ∷ 48 ∷ 10 ∷ 114 ∷ 32 ∷ 49 ∷ 32 ∷ 49 ∷ 10 ∷ 103 ∷ 32 ∷ 49 ∷ 32 ∷ 49 ∷ 10 ∷ 105 ∷ 32 ∷ 57 ∷ 10 ∷ 108 ∷ []

-- `1v1`, `2v1`, `7`, `refused 2`, `1v3`, `2`, a newline after each
output : List ℕ
output =
    49 ∷ 118 ∷ 49 ∷ 10 ∷ 50 ∷ 118 ∷ 49 ∷ 10 ∷ 55 ∷ 10 ∷ 114 ∷ 101 ∷ 102 ∷ 117 ∷ 115 ∷ 101 ∷ 100 ∷ 32 ∷ 50 ∷ 10 ∷ 49 ∷ 118 ∷ 51 ∷ 10 ∷ 50 ∷ 10 ∷ []

whole_case : (printed table input).0 ≡ output
unfolding lines_from printed_lines answered answer_text line_out step asked number_at field_at key_in digit_of digits key_text version fresh len place_in place lookup next_in next inserted insert leaving remove lengths_fit has_shape is_live dead is_held last_in_range head_is_free entered freed filled left table input output
whole_case = refl

-- an empty line is 17, and what comes after the last newline is no line
empty_line : (printed table (10 ∷ [])).0 ≡ 114 ∷ 101 ∷ 102 ∷ 117 ∷ 115 ∷ 101 ∷ 100 ∷ 32 ∷ 49 ∷ 55 ∷ 10 ∷ []
unfolding lines_from printed_lines answered answer_text line_out asked number_at field_at key_in digit_of digits
empty_line = refl
