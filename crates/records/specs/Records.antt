-- An image as a slot count and records (the rules, section "The slot image"). Assumes nothing.
--
--     03              three slots
--     00 00           slot 0: version 0, presence 0
--     02 00           slot 1: version 2, presence 0
--     01 01 AC 02     slot 2: version 1, presence 1, value 300
use Rattle.std.specs.Prelude.{◌≡◌, ℕ, zero, suc, ◌^◌, ◌≤◌, ◌<◌, cond, List, [], ◌∷◌, ◌++◌, ltb, eqb, length, Result, Ok, Err}
use Rattle.refusal.specs.declared.Refusal.{Refusal}
use Rattle.refusal.specs.Refusals.{number_of}
use Rattle.writing.specs.Told.{Told, tells, refused, onward}
use Rattle.numbers.specs.Numbers.{number_at, encoded}
use Rattle.records.specs.declared.Record.{Record}
use Rattle.records.specs.declared.Record.TheVariants.{Vacant, Occupied}
use Rattle.records.specs.declared.RecordRead.{RecordRead}

-- ---- the answers' values and numbers

-- a record and the place after it; or the number of a refusal
abbrev pub record_of : Result RecordRead Refusal → Told (Record × ℕ)
record_of (Ok r) = tells (r.slot, r.next)
record_of (Err r) = refused (number_of r)

-- a record's version and presence
abbrev pub version_of : Record → ℕ
version_of (Vacant v) = v
version_of (Occupied v x) = v

abbrev pub presence_of : Record → ℕ
presence_of (Vacant v) = 0
presence_of (Occupied v x) = 1

-- ---- reading: a number's faults are met from the front, so what comes after a refused number is not looked at

-- "for each slot its version, presence 0 or 1, and the value if 1"; "versions, presence and s fit 32 bits, values 64;
-- 16 is judged once the number is read"
unfoldable pub record_at : List ℕ → ℕ → Told (Record × ℕ)
record_at s at =
    onward (number_at 32 s at) (λ v.
    onward (number_at 32 s v.1) (λ p.
    cond (eqb p.0 0) (tells (Vacant v.0, p.1))
    (cond (eqb p.0 1)
    (onward (number_at 64 s p.1) (λ x. tells (Occupied v.0 x.0, x.1)))
    (refused 16))))

-- so many records from a place on, and the place after them
unfoldable pub records_from : ℕ → List ℕ → ℕ → Told (List Record × ℕ)
records_from zero s at = tells ([], at)
records_from (suc k) s at =
    onward (record_at s at) (λ r. onward (records_from k s r.1) (λ l. tells (r.0 ∷ l.0, l.1)))

-- the slot count and the place after it: at most so many, else 12 "right after the count"
unfoldable pub count_of : List ℕ → ℕ → Told (ℕ × ℕ)
count_of s most = onward (number_at 32 s 0) (λ c. cond (ltb most c.0) (refused 12) (tells c))

-- so many records, with which the bytes end, else 15
unfoldable pub list_of : ℕ → List ℕ → ℕ → Told (List Record)
list_of count s at = onward (records_from count s at) (λ l. cond (ltb l.1 (length s)) (refused 15) (tells l.0))

-- the records of an image of at most so many slots, or its first fault
unfoldable pub records_of : List ℕ → ℕ → Told (List Record)
records_of s most = onward (count_of s most) (λ c. list_of c.0 s c.1)

-- ---- writing

unfoldable pub record_bytes : Record → List ℕ
record_bytes (Vacant v) = encoded v ++ encoded 0
record_bytes (Occupied v x) = (encoded v ++ encoded 1) ++ encoded x

unfoldable pub list_bytes : List Record → List ℕ
list_bytes [] = []
list_bytes (r ∷ l) = record_bytes r ++ list_bytes l

-- "Image: s; then for each slot .."
unfoldable pub bytes_of : List Record → List ℕ
bytes_of l = encoded (length l) ++ list_bytes l

-- a record of machine numbers, and a list of such
abbrev pub Fit : Record → Type 0
Fit (Vacant v) = v < 2 ^ 32
Fit (Occupied v x) = (v < 2 ^ 32) × (x < 2 ^ 64)

unfoldable pub FitAll : List Record → Type 0
FitAll [] = Unit {0}
FitAll (r ∷ l) = Fit r × FitAll l

-- ---- what the theorems say of an image

-- the refusals that reading its records can give: "image ends before a number is whole", "number not in shortest form, or too large", "image slot count above C+1",
-- "bytes after the last slot", "presence number neither 0 nor 1"
pub data Fault : ℕ → Type 0 where
  ends : Fault 10
  form : Fault 11
  too_many : Fault 12
  trailing : Fault 15
  presence : Fault 16

-- an accepted image is the bytes of its records, which are not too many and of machine numbers
pub record Accepted (s : List ℕ) (most : ℕ) (l : List Record) : Type 0 where
  pub spelled : s ≡ bytes_of l
  pub few : length l ≤ most
  pub small : length l < 2 ^ 32
  pub fit : FitAll l
