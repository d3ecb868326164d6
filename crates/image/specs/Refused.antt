-- The refusals of rebuilding and of writing in their order (the rules, sections "The slot image" and "Refusal numbers and their order"):
-- the tests of each call, and what is answered. Assumes nothing.
use Rattle.std.specs.Prelude.{Bool, true, false, cond, not, List, [], ◌∷◌, ◌++◌, ℕ, zero, suc, ◌+◌, leb, eqb, length}
use Rattle.std.proofs.Math.Option.{Option, none, some}
use Rattle.lists.specs.Tests.{Tests}
use Rattle.writing.specs.Told.{Told, tells, refused}
use Rattle.numbers.specs.Numbers.{number_at}
use Rattle.records.specs.declared.Record.{Record}
use Rattle.records.specs.declared.Record.TheVariants.{Vacant}
use Rattle.records.specs.Records.{version_of, presence_of, record_at, records_from}
use Rattle.summaries.specs.Summaries.{wrongs}
use Rattle.table.specs.Table.{Table, lengths_fit, has_shape}
use Rattle.table.specs.Sound.{is_sound}
use Rattle.image.specs.Image.{image_bytes}
use Rattle.image.specs.Rebuild.{first_wrong}

-- refused with a number; else the answer
abbrev pub ruled : {A : Type 0} → Option ℕ → A → Told A
ruled none a = tells a
ruled (some r) a = refused r

-- ---- a reading as a test: it gives an answer, or the number of its refusal

abbrev pub is_told : {A : Type 0} → Told A → Bool
is_told (tells a) = true
is_told (refused k) = false

abbrev pub fault_of : {A : Type 0} → Told A → ℕ
fault_of (tells a) = 0
fault_of (refused k) = k

abbrev pub reads : {A : Type 0} → Told A → Bool × ℕ
reads x = (is_told x, fault_of x)

-- the answer of a reading, for the tests after it, which count only where there is one
abbrev pub answer_or : {A : Type 0} → A → Told A → A
answer_or d (tells a) = a
answer_or d (refused k) = d

-- ---- the faults of an image: "number faults and 16 as met from the front, with 12 right after the count; then 15; then 13; then 14"

-- the place after a record's version; and its presence with the place after it
abbrev pub version_end : List ℕ → ℕ → ℕ
version_end s at = (answer_or (0, 0) (number_at 32 s at)).1

abbrev pub presence_at : List ℕ → ℕ → ℕ × ℕ
presence_at s at = answer_or (0, 0) (number_at 32 s (version_end s at))

-- a record: its version, its presence, and its value if it has one
abbrev pub record_tests : List ℕ → ℕ → Tests
record_tests s at =
    reads (number_at 32 s at)
    ∷ reads (number_at 32 s (version_end s at))
    ∷ (leb (presence_at s at).0 1, 16)
    ∷ cond (eqb (presence_at s at).0 1) (reads (number_at 64 s (presence_at s at).1) ∷ []) []

abbrev pub record_end : List ℕ → ℕ → ℕ
record_end s at = (answer_or (Vacant 0, 0) (record_at s at)).1

-- so many records from a place on
abbrev pub records_tests : ℕ → List ℕ → ℕ → Tests
records_tests zero s at = []
records_tests (suc k) s at = record_tests s at ++ records_tests k s (record_end s at)

-- the slot count and the place after it; the records and the place after them
abbrev pub count_in : List ℕ → ℕ × ℕ
count_in bytes = answer_or (0, 0) (number_at 32 bytes 0)

abbrev pub records_in : List ℕ → List Record × ℕ
records_in bytes = answer_or ([], 0) (records_from (count_in bytes).0 bytes (count_in bytes).1)

-- 13 "no first slot, or its version is odd"
abbrev pub first_fits : List Record → Bool
first_fits [] = false
first_fits (r ∷ l) = not (first_wrong (version_of r) (presence_of r))

-- 14 "version odd without value or even with one, slot 1 up"
abbrev pub others_fit : List Record → Bool
others_fit [] = true
others_fit (r ∷ l) = eqb (wrongs l) 0

abbrev pub list_tests : List Record → Tests
list_tests l = (first_fits l, 13) ∷ (others_fit l, 14) ∷ []

abbrev pub image_tests : List ℕ → ℕ → Tests
image_tests bytes most =
    reads (number_at 32 bytes 0)
    ∷ (leb (count_in bytes).0 most, 12)
    ∷ (records_tests (count_in bytes).0 bytes (count_in bytes).1 ++ ((leb (length bytes) (records_in bytes).1, 15) ∷ list_tests (records_in bytes).0))

-- ---- the calls

-- "rebuild judges only the array lengths under 1, before image faults"; "image slot count above C+1"
abbrev pub rebuild_tests : List ℕ → List ℕ → List ℕ → List ℕ → List ℕ → Tests
rebuild_tests vs ls ks xs bytes = (lengths_fit vs ls ks xs, 1) ∷ image_tests bytes (length ks + 1)

-- "image writing asks for a sound table, else 5"
abbrev pub len_tests : Table → Tests
len_tests t = (has_shape t, 1) ∷ (is_sound t, 5) ∷ []

-- 6 comes last
abbrev pub write_tests : Table → List ℕ → Tests
write_tests t out = (has_shape t, 1) ∷ (is_sound t, 5) ∷ (leb (length (image_bytes t)) (length out), 6) ∷ []

-- what is told and the buffer: a refusal leaves it as it was
abbrev pub ruled_out : List ℕ → Option ℕ → Told ℕ × List ℕ → Told ℕ × List ℕ
ruled_out out none o = o
ruled_out out (some r) o = (refused r, out)
