-- The numbers of the refusals (the rules, section "Refusal numbers and their order"). Assumes nothing.
use Rattle.std.specs.Prelude.{ℕ}
use Rattle.refusal.specs.declared.Refusal.{Refusal}
use Rattle.refusal.specs.declared.Refusal.TheVariants.{Shape, Dead, Full, NotDetached, Damaged, Short, Beyond, IndexZero, Ends, Form, TooMany, First, Occupation, Trailing, Presence, Line}

-- the number in the first column of the table
abbrev pub number_of : Refusal → ℕ
number_of Shape = 1
number_of Dead = 2
number_of Full = 3
number_of NotDetached = 4
number_of Damaged = 5
number_of Short = 6
number_of Beyond = 8
number_of IndexZero = 9
number_of Ends = 10
number_of Form = 11
number_of TooMany = 12
number_of First = 13
number_of Occupation = 14
number_of Trailing = 15
number_of Presence = 16
number_of Line = 17
