-- No second outcome: each answer's reading is one-to-one, so a contract that gives the reading is met by one outcome only. What writes a
-- record answers as a number's writer does. Assumes nothing.
use Prim.Native.Nat.{ℕ}
use mathlib.Core.Path.{◌≡◌, sym, ap, ap₂}
use Rattle.std.specs.Prelude.{Result, Ok, Err}
use Rattle.refusal.specs.declared.Refusal.{Refusal}
use Rattle.refusal.proofs.Numbers.{number_one_to_one}
use Rattle.writing.proofs.Told.{never, told, refused-same, both}
use Rattle.records.specs.Records.{record_of}
use Rattle.records.specs.declared.Record.{Record}
use Rattle.records.specs.declared.RecordRead.{RecordRead}

pub record_one_to_one : (r q : Result RecordRead Refusal) → record_of r ≡ record_of q → r ≡ q
record_one_to_one (Ok x) (Ok y) e = let p = both (told e) in ap₂ (λ (r : Record) (n : ℕ). Ok (record { slot = r; next = n })) p.0 p.1
record_one_to_one (Ok x) (Err k) e = never (sym e)
record_one_to_one (Err k) (Ok x) e = never e
record_one_to_one (Err k) (Err j) e = ap Err (number_one_to_one k j (refused-same e))
