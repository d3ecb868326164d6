-- No second outcome: the reading of a judgement's counts is one-to-one, so a contract leaves one answer. Assumes nothing.
use Prim.Native.Nat.{ℕ}
use mathlib.Core.Path.{◌≡◌, sym, ap, ap₂}
use Rattle.lists.proofs.Only.{only_read}
use Rattle.std.specs.Prelude.{Result, Ok, Err}
use Rattle.refusal.specs.declared.Refusal.{Refusal}
use Rattle.refusal.proofs.Numbers.{number_one_to_one}
use Rattle.writing.specs.Told.{Told}
use Rattle.writing.proofs.Told.{never, told, refused-same, both}
use Rattle.image_judge.specs.Answers.{counts_of}
use Rattle.image_judge.specs.declared.Counts.{Counts}

pub counts_one_to_one : (r q : Result Counts Refusal) → counts_of r ≡ counts_of q → r ≡ q
counts_one_to_one (Ok c) (Ok d) e = let p = both (told e) in ap₂ (λ (m n : ℕ). Ok (record { count = m; live = n })) p.0 p.1
counts_one_to_one (Ok c) (Err k) e = never (sym e)
counts_one_to_one (Err k) (Ok d) e = never e
counts_one_to_one (Err k) (Err j) e = ap Err (number_one_to_one k j (refused-same e))

pub only_counts : {x : Told (ℕ × ℕ)} {r q : Result Counts Refusal} → counts_of r ≡ x → counts_of q ≡ x → r ≡ q
only_counts = only_read counts_of counts_one_to_one
