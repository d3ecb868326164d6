-- No second outcome of `read_u32` and `read_u64`: what their answer says is one-to-one. Assumes nothing.
use Prim.Native.Nat.{ℕ}
use mathlib.Core.Path.{◌≡◌, sym, ap, ap₂}
use Rattle.std.specs.Prelude.{Result, Ok, Err}
use Rattle.refusal.specs.declared.Refusal.{Refusal}
use Rattle.refusal.proofs.Numbers.{number_one_to_one}
use Rattle.writing.proofs.Told.{never, told, refused-same, both}
use Rattle.numbers_read.specs.Reading.{reading_of}
use Rattle.numbers_read.specs.declared.Number.{Number}

pub reading_one_to_one : (r q : Result Number Refusal) → reading_of r ≡ reading_of q → r ≡ q
reading_one_to_one (Ok n) (Ok m) e = let p = both (told e) in ap₂ (λ (v k : ℕ). Ok (record { value = v; next = k })) p.0 p.1
reading_one_to_one (Ok n) (Err k) e = never (sym e)
reading_one_to_one (Err k) (Ok n) e = never e
reading_one_to_one (Err k) (Err j) e = ap Err (number_one_to_one k j (refused-same e))
