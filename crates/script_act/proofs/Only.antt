-- No second outcome of `act`: the reading of its answer is one-to-one. Assumes nothing.
use Rattle.std.proofs.Common.{◌≡◌, Result}
use Rattle.refusal.specs.declared.Refusal.{Refusal}
use Rattle.table.specs.Table.{Table}
use Rattle.table.specs.Calls.{Out}
use Rattle.dense.specs.Answers.{outcome}
use Rattle.dense.proofs.Only.{only_outcome}
use Rattle.script_look.specs.declared.Answer.{Answer}
use Rattle.script_look.specs.Answers.{answer_said}
use Rattle.script_look.proofs.Only.{answer_one_to_one}

-- the answer, the arrays and the header after a line
pub act_only : {o : Out} {a b : Result Answer Refusal} {t u : Table} → outcome (answer_said a) t ≡ o → outcome (answer_said b) u ≡ o → (a ≡ b) × (t ≡ u)
act_only = only_outcome answer_said answer_one_to_one
