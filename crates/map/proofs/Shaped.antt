-- What the shape test tells, as facts, and back. Assumes nothing.
use mathlib.Core.Path.{◌≡◌}
use mathlib.Core.Bool.{true}
use mathlib.Core.List.{List}
use Prim.Native.Nat.{ℕ, ◌≤◌}
use native.Mathlib.Omega.{arith}
use lib.ListN.{length}
use Rattle.lists.proofs.Tests.{tests, parts}
use Rattle.map.specs.Map.{Map, limit, lengths_fit, has_shape}

pub record Fits (vs xs : List ℕ) : Type 0 where
  pub some : 1 ≤ length vs
  pub few : length vs ≤ limit
  pub same : length xs ≡ length vs

pub fits : (vs xs : List ℕ) → lengths_fit vs xs ≡ true → Fits vs xs
unfolding lengths_fit
fits vs xs e = search parts

pub record Shaped (m : Map) : Type 0 where
  pub some : 1 ≤ length m.versions
  pub few : length m.versions ≤ limit
  pub same : length m.values ≡ length m.versions
  pub low : 1 ≤ m.head.s
  pub high : m.head.s ≤ length m.versions

pub shaped : (m : Map) → has_shape m ≡ true → Shaped m
unfolding has_shape lengths_fit
shaped m e = search parts

pub shape_true : (m : Map) → Shaped m → has_shape m ≡ true
unfolding has_shape lengths_fit
shape_true m h = search (tests, arith)
