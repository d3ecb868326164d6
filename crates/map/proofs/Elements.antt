-- The key of an element, as a look or a drain step answers it: it is read back as the slot's index and version, so the map has it. Assumes nothing.
use mathlib.Core.Path.{◌≡◌, refl, ap, ◌∙◌}
use mathlib.Core.Logic.{◌≢◌, ⊎_elim}
use mathlib.Core.Bool.{true}
use Prim.Native.Nat.{ℕ, ◌%◌, ◌<◌}
use native.Mathlib.Omega.{arith}
use Rattle.keys.specs.Keys.{W, idx, version, odd, pack}
use Rattle.keys.proofs.Keys.{idx-pack, version-pack}
use Rattle.keys.proofs.Versions.{odd-same}
use Rattle.map.specs.Map.{Map, ver, val, is_there, emptied}
use Rattle.map.specs.Calls.{said_value, lookup, remove, key_at}
use Rattle.map.specs.Whole.{Whole}
use Rattle.map.proofs.Shaped.{shaped}
use Rattle.map.proofs.Keeps.{whole-some}
use Rattle.map.proofs.Cases.{there_true, lookup-there, remove-there}

-- versions are 32-bit numbers, as in every lent array
module _ (m : Map) (w : Whole m) (i : ℕ) (l : i < m.head.s) (ne : ver m i ≢ 0) (word : ver m i < W) where
  key-odd : ver m i % 2 ≡ 1
  key-odd = ⊎_elim (λ z. absurd (ne z)) (λ o. o) (w.each i l)

  pub key-idx : idx (key_at m i) ≡ i
  unfolding key_at
  key-idx = idx-pack i (odd (ver m i)) (omega (arith, shaped m w.shape))

  pub key-version : version (key_at m i) ≡ ver m i
  unfolding key_at
  key-version =
      ap (λ (v : ℕ). version (pack i v)) (odd-same (ver m i) key-odd)
      ∙ version-pack i (ver m i) (omega (arith, shaped m w.shape)) word key-odd

  pub key-there : is_there m (idx (key_at m i)) (version (key_at m i)) ≡ true
  key-there = rw (key-idx, key-version) (there_true m i (ver m i) l refl)

  pub lookup-element : lookup m (key_at m i) ≡ (said_value (val m i), m)
  lookup-element = lookup-there m (key_at m i) w.shape key-there ∙ ap (λ (j : ℕ). (said_value (val m j), m)) key-idx

  pub remove-element : remove m (key_at m i) ≡ (said_value (val m i), emptied m i)
  remove-element =
      remove-there m (key_at m i) w.shape key-there (whole-some m w i l ne)
      ∙ ap (λ (j : ℕ). (said_value (val m j), emptied m j)) key-idx
