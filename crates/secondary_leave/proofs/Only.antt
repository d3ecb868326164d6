-- No second outcome of remove and a drain step: two outcomes that meet one contract are the same answer, header and arrays. Assumes nothing.
use mathlib.Core.Path.{◌≡◌}
use mathlib.Core.List.{List}
use Prim.Native.Nat.{ℕ}
use Rattle.std.specs.Prelude.{Option}
use Rattle.refusal.specs.declared.Changed.{Changed}
use Rattle.map.specs.declared.MapHeader.{MapHeader}
use Rattle.map.specs.Calls.{Out}
use Rattle.secondary.specs.declared.Element.{Element}
use Rattle.secondary.specs.Answers.{got_of, step_of}
use Rattle.secondary.proofs.Only.{got_one_to_one, step_one_to_one, changed_only, map_of}

module _ (vs us xs ys : List ℕ) (o : Out) where
  pub remove_only : (r q : Changed MapHeader ℕ) → ◌≡◌ {A = Out} (got_of r.answer, map_of vs xs r.header) o → ◌≡◌ {A = Out} (got_of q.answer, map_of us ys q.header) o
      → (r ≡ q) × (vs ≡ us) × (xs ≡ ys)
  remove_only = changed_only got_of got_one_to_one vs us xs ys o

  pub drain_only : (r q : Changed MapHeader (Option Element)) → ◌≡◌ {A = Out} (step_of r.answer, map_of vs xs r.header) o → ◌≡◌ {A = Out} (step_of q.answer, map_of us ys q.header) o
      → (r ≡ q) × (vs ≡ us) × (xs ≡ ys)
  drain_only = changed_only step_of step_one_to_one vs us xs ys o
