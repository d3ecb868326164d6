-- No second outcome of the judgement: the reading of what an insert comes to is one-to-one. Assumes nothing.
use mathlib.Core.Path.{◌≡◌, refl, sym, ap, ◌∙◌}
use mathlib.Core.Logic.{◌≢◌}
use Prim.Native.Nat.{ℕ}
use Rattle.std.specs.Prelude.{Result}
use Rattle.refusal.specs.declared.Refusal.{Refusal}
use Rattle.map.specs.Calls.{Fate as Fated, replaces, keeps, stores, bars}
use Rattle.secondary.proofs.Only.{reading_one_to_one}
use Rattle.secondary_judge.specs.declared.Fate.{Fate}
use Rattle.secondary_judge.specs.declared.Fate.TheVariants as Fate·
use Rattle.secondary_judge.specs.Fates.{comes_to, fate_of}

-- what an insert comes to, found again; a refusal gives the first
came : Fated → Fate
came replaces = Fate·.Replaces
came keeps = Fate·.Keeps
came (stores n) = Fate·.Stores n
came o = Fate·.Ignores

came_again : (a : Fate) → came (comes_to a) ≡ a
unfolding came
came_again Fate·.Ignores = refl
came_again Fate·.Replaces = refl
came_again Fate·.Keeps = refl
came_again (Fate·.Stores n) = refl

comes_one_to_one : (a b : Fate) → comes_to a ≡ comes_to b → a ≡ b
comes_one_to_one a b e = sym (came_again a) ∙ ap came e ∙ came_again b

comes_apart : (a : Fate) (n : ℕ) → comes_to a ≢ bars n
comes_apart Fate·.Ignores n e = cc
comes_apart Fate·.Replaces n e = cc
comes_apart Fate·.Keeps n e = cc
comes_apart (Fate·.Stores m) n e = cc

pub fate_one_to_one : (a b : Result Fate Refusal) → fate_of a ≡ fate_of b → a ≡ b
fate_one_to_one = reading_one_to_one comes_to bars comes_one_to_one (λ n m e. cc) comes_apart
