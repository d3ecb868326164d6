-- No second outcome of `run_line`. Assumes nothing.
use Rattle.std.specs.Prelude.{Result}
use mathlib.Core.Path.{◌≡◌, refl}
use mathlib.Core.List.{List}
use Prim.Native.Nat.{ℕ}
use Rattle.lists.proofs.Only.{only_both}
use Rattle.refusal.specs.declared.Refusal.{Refusal}
use Rattle.writing.proofs.Outcomes.{told_one_to_one}
use Rattle.table.specs.Table.{Table}
use Rattle.script_input.specs.Script.{Run, ran_of}

-- where the line ends, the arrays, the header and the buffer
pub run-line_only : {x : Run} {r q : Result ℕ Refusal} {t u : Table} {b d : List ℕ} → ran_of r t b ≡ x → ran_of q u d ≡ x → (r ≡ q) × ((t ≡ u) × (b ≡ d))
run-line_only {x} {r} {q} e f =
    let told = only_both e f in
    let rest = only_both told.1 refl in
    (told_one_to_one r q told.0, rest)
