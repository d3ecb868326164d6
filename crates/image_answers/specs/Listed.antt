-- What the calls on a slot image say, as answers. Assumes nothing.
use Rattle.std.specs.Prelude.{ℕ}
use Rattle.writing.specs.Told.{Told, tells, refused}
use Rattle.answers.specs.declared.Answer.{Answer}
use Rattle.answers.specs.declared.Answer.TheVariants.{Refused, Number, Counts}

-- how many bytes there are
abbrev pub listed_length : Told ℕ → Answer
listed_length (tells m) = Number m
listed_length (refused r) = Refused r

-- how many slots there are, and how many of them are occupied
abbrev pub listed_counts : Told (ℕ × ℕ) → Answer
listed_counts (tells m) = Counts m.0 m.1
listed_counts (refused r) = Refused r
