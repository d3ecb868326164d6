-- Bytes written into a lent buffer (the rules, refusal 6: "output array or buffer too short"). Assumes nothing.
use Rattle.std.specs.Prelude.{ℕ, ◌+◌, cond, List, leb, length, Result, Ok, Err}
use Rattle.lists.specs.Put.{put}
use Rattle.refusal.specs.declared.Refusal.{Refusal}
use Rattle.refusal.specs.Refusals.{number_of}
use Rattle.writing.specs.Told.{Told, tells, refused}

-- what an answer says: the place after what was written, or the number of a refusal
abbrev pub told_of : Result ℕ Refusal → Told ℕ
told_of (Ok n) = tells n
told_of (Err r) = refused (number_of r)

-- an outcome: what the answer says, and the buffer after
abbrev pub outcome : Result ℕ Refusal → List ℕ → Told ℕ × List ℕ
outcome r b = (told_of r, b)

-- the bytes t asked into the buffer b from a place on: the place after them, and the buffer with them put in, every other byte as it was;
-- where they do not fit, 6, and the buffer stays
unfoldable pub written : ℕ → List ℕ → List ℕ → Told ℕ × List ℕ
written at t b = cond (leb (at + length t) (length b)) (tells (at + length t), put b at t) (refused 6, b)

-- the bytes t asked where others have ended, unless those were refused
abbrev pub written_after : Told ℕ → List ℕ → List ℕ → Told ℕ × List ℕ
written_after (tells at) t b = written at t b
written_after (refused k) t b = (refused k, b)
