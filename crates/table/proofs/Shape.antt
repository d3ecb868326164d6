-- The shape as facts. Assumes nothing.
use mathlib.Core.Path.{◌≡◌}
use mathlib.Core.Bool.{true}
use mathlib.Core.List.{List}
use Prim.Native.Nat.{ℕ, ◌+◌, ◌-◌, ◌≤◌}
use native.Mathlib.Omega.{arith}
use lib.ListN.{length}
use Rattle.lists.proofs.Tests.{tests, parts}
use Rattle.table.specs.Table.{Table, cap, limit, lengths_fit, has_shape}

pub record Lengths (vs ls ks xs : List ℕ) : Type 0 where
  pub small : length ks ≤ limit
  pub vlen : length vs ≡ length ks + 1
  pub llen : length ls ≡ length ks + 1
  pub xlen : length xs ≡ length ks

pub lengths : (vs ls ks xs : List ℕ) → lengths_fit vs ls ks xs ≡ true → Lengths vs ls ks xs
unfolding lengths_fit
lengths vs ls ks xs e = search parts

pub record Shape (t : Table) : Type 0 where
  pub small : cap t ≤ limit
  pub vlen : length t.versions ≡ cap t + 1
  pub llen : length t.links ≡ cap t + 1
  pub xlen : length t.values ≡ cap t
  pub s_low : 1 ≤ t.head.s
  pub s_high : t.head.s ≤ cap t + 1
  pub n_high : t.head.n ≤ t.head.s - 1
  pub f_low : 1 ≤ t.head.f
  pub f_high : t.head.f ≤ t.head.s

pub shape : (t : Table) → has_shape t ≡ true → Shape t
unfolding has_shape lengths_fit
shape t e = search parts

pub has_shape_lem : (t : Table) → Shape t → has_shape t ≡ true
unfolding has_shape lengths_fit
has_shape_lem t h = search (tests, arith)
