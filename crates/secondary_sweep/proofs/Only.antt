-- No second outcome of retain and clear: two outcomes that meet one contract are the same answer, header and arrays. Assumes nothing.
use mathlib.Core.Path.{◌≡◌, refl}
use mathlib.Core.List.{List}
use Prim.Native.Nat.{ℕ}
use Rattle.std.specs.Prelude.{Result}
use Rattle.refusal.specs.declared.Refusal.{Refusal}
use Rattle.refusal.specs.declared.Changed.{Changed}
use Rattle.map.specs.declared.MapHeader.{MapHeader}
use Rattle.map.specs.Calls.{said_done, Out}
use Rattle.secondary.proofs.Only.{said_one_to_one, changed_only, map_of}
use Rattle.secondary_sweep.specs.Outcomes.{swept_of}

pub swept_one_to_one : (a b : Result (Unit {0}) Refusal) → swept_of a ≡ swept_of b → a ≡ b
swept_one_to_one = said_one_to_one (λ u. said_done) (λ x y e. refl) (λ x n e. cc)

module _ (vs us xs ys : List ℕ) where
  pub sweep_only : (r q : Changed MapHeader (Unit {0})) (o : Out) → ◌≡◌ {A = Out} (swept_of r.answer, map_of vs xs r.header) o → ◌≡◌ {A = Out} (swept_of q.answer, map_of us ys q.header) o
      → (r ≡ q) × (vs ≡ us) × (xs ≡ ys)
  sweep_only r q o e f = changed_only swept_of swept_one_to_one vs us xs ys o r q e f
