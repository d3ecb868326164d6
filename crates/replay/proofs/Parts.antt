-- The first part of an array, lent and taken back: it is as long as was said, and with it back the array is as long as it was. Assumes nothing.
use Rattle.std.proofs.Common.{◌≡◌, ℕ, min, List, ◌++◌, length, take, drop, arith, length-append, length-drop, length-take}

module _ (n : ℕ) (before : List ℕ) (wanted lent : ℕ) (there : length before ≡ n) (cut : lent ≡ min wanted n) where
  pub part_lent : lent ≡ length (take lent before)
  part_lent = simp length-take (omega arith)

  pub part_back : (part : List ℕ) → length part ≡ length (take lent before) → length (part ++ drop lent before) ≡ n
  part_back part same = simp (length-append, length-drop) (omega (arith, simp length-take at same))
