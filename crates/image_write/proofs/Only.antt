-- No second outcome: a length that an answer tells is told by one answer; what writes an image answers as every writer does. Assumes nothing.
use Prim.Native.Nat.{ℕ}
use mathlib.Core.Path.{◌≡◌}
use Rattle.std.specs.Prelude.{Result}
use Rattle.lists.proofs.Only.{only_read}
use Rattle.refusal.specs.declared.Refusal.{Refusal}
use Rattle.writing.specs.Told.{Told}
use Rattle.writing.specs.Writing.{told_of}
use Rattle.writing.proofs.Outcomes.{told_one_to_one}

pub only_length : {x : Told ℕ} {r q : Result ℕ Refusal} → told_of r ≡ x → told_of q ≡ x → r ≡ q
only_length = only_read told_of told_one_to_one
