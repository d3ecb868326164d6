-- No second outcome: what an answer says is one-to-one, so a writer's contract is met by one answer and one buffer only. Assumes nothing.
use Prim.Native.Nat.{ℕ}
use mathlib.Core.Path.{◌≡◌, sym, ap}
use mathlib.Core.List.{List}
use Rattle.std.specs.Prelude.{Result, Ok, Err}
use Rattle.lists.proofs.Only.{only_both}
use Rattle.refusal.specs.declared.Refusal.{Refusal}
use Rattle.refusal.proofs.Numbers.{number_one_to_one}
use Rattle.writing.specs.Told.{Told}
use Rattle.writing.specs.Writing.{told_of, outcome}
use Rattle.writing.proofs.Told.{never, told, refused-same}

pub told_one_to_one : (r q : Result ℕ Refusal) → told_of r ≡ told_of q → r ≡ q
told_one_to_one (Ok m) (Ok n) e = ap Ok (told e)
told_one_to_one (Ok m) (Err s) e = never (sym e)
told_one_to_one (Err r) (Ok n) e = never e
told_one_to_one (Err r) (Err s) e = ap Err (number_one_to_one r s (refused-same e))

-- two answers with their buffers that meet a writer's contract are one
pub written_only : {x : Told ℕ × List ℕ} {r q : Result ℕ Refusal} {b d : List ℕ} → outcome r b ≡ x → outcome q d ≡ x → (r ≡ q) × (b ≡ d)
written_only {x} {r} {q} e f = let same = only_both e f in (told_one_to_one r q same.0, same.1)
