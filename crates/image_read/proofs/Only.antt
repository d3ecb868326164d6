-- No second outcome of rebuild: how the table begins, and the four arrays. Assumes nothing.
use Rattle.std.proofs.Common.{◌≡◌, Result}
use Rattle.lists.proofs.Only.{only_both}
use Rattle.refusal.specs.declared.Refusal.{Refusal}
use Rattle.table.specs.declared.Header.{Header}
use Rattle.table.specs.Calls.{Begun}
use Rattle.dense.specs.Answers.{begun_of}
use Rattle.dense.proofs.Only.{begun_one_to_one}
use Rattle.image.specs.Rebuild.{Arrays}

pub only_rebuilt : {x : Begun × Arrays} {r q : Result Header Refusal} {a b : Arrays} → (begun_of r, a) ≡ x → (begun_of q, b) ≡ x → (r ≡ q) × (a ≡ b)
only_rebuilt {x} {r} {q} {a} {b} e f = let p = only_both e f in (begun_one_to_one r q p.0, p.1)
