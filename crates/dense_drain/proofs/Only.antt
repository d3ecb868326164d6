-- No second outcome: the reading of a drain step's answer is one-to-one. Assumes nothing.
use Rattle.std.proofs.Common.{ℕ, ◌≡◌, refl, ap, Option, Some, None, Result, Ok, Err}
use mathlib.Core.Path.{ap₂}
use Rattle.refusal.specs.declared.Refusal.{Refusal}
use Rattle.dense.proofs.Only.{said-refusal}
use Rattle.dense_drain.specs.Answers.{pair_said}
use Rattle.dense_drain.specs.declared.Drained.{Drained}

abbrev took : ℕ → ℕ → Result (Option Drained) Refusal
took k x = Ok (Some (record { key = k; value = x }))

pub pair_one_to_one : (a b : Result (Option Drained) Refusal) → pair_said a ≡ pair_said b → a ≡ b
pair_one_to_one (Ok (Some d)) (Ok (Some g)) e = ap₂ took (cc) (cc)
pair_one_to_one (Ok (Some d)) (Ok None) e = cc
pair_one_to_one (Ok (Some d)) (Err q) e = cc
pair_one_to_one (Ok None) (Ok (Some g)) e = cc
pair_one_to_one (Ok None) (Ok None) e = refl
pair_one_to_one (Ok None) (Err q) e = cc
pair_one_to_one (Err r) (Ok (Some g)) e = cc
pair_one_to_one (Err r) (Ok None) e = cc
pair_one_to_one (Err r) (Err q) e = ap Err (said-refusal r q e)
