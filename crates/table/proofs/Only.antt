-- No second outcome: whatever meets the equation of a call has its answer, and everything else, equal. Assumes nothing.
use mathlib.Core.Path.{◌≡◌}
use mathlib.Core.List.{List}
use Prim.Native.Nat.{ℕ}
use Rattle.lists.proofs.Only.{only_both}
use Rattle.table.specs.Table.{Table}
use Rattle.table.specs.Calls.{Said, Begun, fresh}
use Rattle.table.specs.Sweeps.{disjoint}
use Rattle.table.specs.Steps.{Call, step}

-- a call that answers and leaves a table
pub only_step : (t : Table) (c : Call) {a b : Said} {u w : Table} → (a, u) ≡ step t c → (b, w) ≡ step t c → (a ≡ b) × (u ≡ w)
only_step t c e f = only_both e f

-- fresh: the answer, the versions and the links
pub only_fresh : (vs ls ks xs : List ℕ) {a b : Begun} {u w : List ℕ × List ℕ} → (a, u) ≡ fresh vs ls ks xs → (b, w) ≡ fresh vs ls ks xs → (a ≡ b) × (u ≡ w)
only_fresh vs ls ks xs e f = only_both e f

-- disjoint: the answer and the output
pub only_disjoint : (t : Table) (ks out : List ℕ) {a b : Said} {u w : List ℕ} → (a, u) ≡ disjoint t ks out → (b, w) ≡ disjoint t ks out → (a ≡ b) × (u ≡ w)
only_disjoint t ks out e f = only_both e f
