-- What len, is_empty and the two lists answer on a sound table, place by place. Assumes nothing.
use mathlib.Core.Path.{◌≡◌, refl}
use Prim.Native.Nat.{ℕ, ◌<◌}
use native.Mathlib.Omega.{arith}
use lib.Dec.{eqb}
use lib.ListN.{length, get_or}
use lib.Seq.{length-take-le, get_or-take}
use Rattle.table.specs.Table.{Table, key, val}
use Rattle.table.specs.Calls.{said_count, said_truth, len, is_empty, listed_keys, listed_values}
use Rattle.table.specs.Sound.{Sound}
use Rattle.table.proofs.Shape.{Shape, shape}

module _ (t : Table) (a : Sound t) where
  s : Shape t
  s = shape t a.shape

  pub len-counts : len t ≡ said_count t.head.n
  unfolding len
  len-counts = rw a.shape refl

  pub empty_counts : is_empty t ≡ said_truth (eqb t.head.n 0)
  unfolding is_empty
  empty_counts = rw a.shape refl

  pub keys-count : length (listed_keys t) ≡ t.head.n
  unfolding listed_keys
  keys-count = let z = s in rw a.shape (length-take-le _ _ (omega (arith, z)))

  pub values-count : length (listed_values t) ≡ t.head.n
  unfolding listed_values
  values-count = let z = s in rw a.shape (length-take-le _ _ (omega (arith, z)))

  pub key_at : (p : ℕ) → p < t.head.n → get_or (listed_keys t) p 0 ≡ key t p
  unfolding listed_keys
  key_at p h = rw a.shape (get_or-take _ _ p 0 h)

  pub value_at : (p : ℕ) → p < t.head.n → get_or (listed_values t) p 0 ≡ val t p
  unfolding listed_values
  value_at p h = rw a.shape (get_or-take _ _ p 0 h)
