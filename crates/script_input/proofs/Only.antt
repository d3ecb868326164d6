-- No second outcome of `feed` and `finish`: one answer, one table, one line that has begun and one output. Assumes nothing.
use Rattle.std.specs.Prelude.{ℕ, Result}
use mathlib.Core.Path.{◌≡◌}
use Rattle.lists.proofs.Only.{only_both}
use Rattle.refusal.specs.declared.Refusal.{Refusal}
use Rattle.writing.proofs.Outcomes.{told_one_to_one}
use Rattle.script_input.specs.Machine.{Machine, Fed, fed_of}

-- the machine holds the arrays, the header, the count and both buffers
pub feed_only : {x : Fed} {r q : Result ℕ Refusal} {m n : Machine} → fed_of r m ≡ x → fed_of q n ≡ x → (r ≡ q) × (m ≡ n)
feed_only {x} {r} {q} e f = let both = only_both e f in (told_one_to_one r q both.0, both.1)
