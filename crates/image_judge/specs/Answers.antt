-- What the judge of an image says on paper: how many slots there are and how many of them are occupied; or the number of a refusal.
-- Assumes nothing.
use Rattle.std.specs.Prelude.{ℕ, Result, Ok, Err}
use Rattle.refusal.specs.declared.Refusal.{Refusal}
use Rattle.refusal.specs.Refusals.{number_of}
use Rattle.writing.specs.Told.{Told, tells, refused}
use Rattle.image_judge.specs.declared.Counts.{Counts}

abbrev pub counts_of : Result Counts Refusal → Told (ℕ × ℕ)
counts_of (Ok c) = tells (c.count, c.live)
counts_of (Err r) = refused (number_of r)
