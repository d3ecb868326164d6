-- What reading a number answers. Assumes nothing.
use Rattle.std.specs.Prelude.{ℕ, Result, Ok, Err}
use Rattle.refusal.specs.declared.Refusal.{Refusal}
use Rattle.refusal.specs.Refusals.{number_of}
use Rattle.writing.specs.Told.{Told, tells, refused}
use Rattle.numbers_read.specs.declared.Number.{Number}

-- a number and the place after it; or the number of a refusal
abbrev pub reading_of : Result Number Refusal → Told (ℕ × ℕ)
reading_of (Ok n) = tells (n.value, n.next)
reading_of (Err r) = refused (number_of r)
