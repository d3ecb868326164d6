-- What a judge keeps of an image's records. Assumes nothing.
use Rattle.std.specs.Prelude.{ℕ, ◌+◌, ◌-◌, ◌%◌, ◌^◌, cond, List, [], ◌∷◌, length, ◌==◌, Result, Ok, Err}
use Rattle.refusal.specs.declared.Refusal.{Refusal}
use Rattle.refusal.specs.Refusals.{number_of}
use Rattle.writing.specs.Told.{Told, tells, refused, onward}
use Rattle.records.specs.declared.Record.{Record}
use Rattle.records.specs.declared.Record.TheVariants.{Vacant, Occupied}
use Rattle.summaries.specs.declared.Summary.{Summary}
use Rattle.summaries.specs.declared.Judged.{Judged}
use Rattle.records.specs.Records.{version_of, presence_of, count_of, list_of}

-- the place of the first record, and what is kept of them all; or the number of a refusal
abbrev pub judgement_of : Result Judged Refusal → Told (ℕ × Summary)
judgement_of (Ok j) = tells (j.from, j.summary)
judgement_of (Err r) = refused (number_of r)

-- 1 for a record that contradicts itself: "version odd without value or even with one"
abbrev pub wrong_of : Record → ℕ
wrong_of (Vacant v) = v % 2
wrong_of (Occupied v x) = 1 - v % 2

-- how many records are occupied, and how many contradict themselves
unfoldable pub lives : List Record → ℕ
lives [] = 0
lives (r ∷ l) = presence_of r + lives l

unfoldable pub wrongs : List Record → ℕ
wrongs [] = 0
wrongs (r ∷ l) = wrong_of r + wrongs l

-- ---- what is kept of all records: their number, the first one's version and presence, and the counts over the others

abbrev pub blank : Summary
blank = record { count = 0; version = 0; presence = 0; live = 0; wrong = 0 }

unfoldable pub summary_of : List Record → Summary
summary_of [] = blank
summary_of (r ∷ l) = record { count = length (r ∷ l); version = version_of r; presence = presence_of r; live = lives l; wrong = wrongs l }

-- so many records from a place on, to the end of the bytes: the place, and what is kept of them
unfoldable pub judged_from : ℕ → List ℕ → ℕ → Told (ℕ × Summary)
judged_from count s from = onward (list_of count s from) (λ l. tells (from, summary_of l))

-- the same of a whole image of at most so many slots
unfoldable pub judged_of : List ℕ → ℕ → Told (ℕ × Summary)
judged_of s most = onward (count_of s most) (λ c. judged_from c.0 s c.1)

-- ---- a record more: counted as 32-bit numbers count, in any summary

abbrev pub plus : ℕ → ℕ → ℕ
plus a b = (a + b) % 2 ^ 32

unfoldable pub noted_as : Summary → ℕ → ℕ → ℕ → Summary
noted_as s version presence wrong =
    cond (s.count == 0)
    (record { count = plus s.count 1; version = version; presence = presence; live = s.live; wrong = s.wrong })
    (record { count = plus s.count 1; version = s.version; presence = s.presence; live = plus s.live presence; wrong = plus s.wrong wrong })

unfoldable pub noted : Summary → Record → Summary
noted s r = noted_as s (version_of r) (presence_of r) (wrong_of r)
