-- What the arms of insert's match tell: the judge's answer is the fate of the key, so each arm's outcome is the definition's. Assumes nothing.
use mathlib.Core.Path.{◌≡◌, sym, ap, ◌∙◌}
use mathlib.Core.Bool.{true}
use Prim.Native.Nat.{ℕ, ◌<◌}
use lib.ListN.{length}
use Rattle.keys.specs.Keys.{key_of}
use Rattle.keys.specs.declared.KeyData.{KeyData}
use Rattle.map.specs.Map.{Map, grown}
use Rattle.map.specs.Calls.{fate, fated, insert}
use Rattle.map.proofs.Shaped.{Shaped}
use Rattle.map.proofs.Ways.{insert_by, insert-old, read_some, insert_key_lem, settles, comes, compares, slot-there}
use Rattle.secondary_judge.specs.declared.Fate.{Fate}
use Rattle.secondary_judge.specs.Fates.{comes_to}

module _ (m : Map) (k : ℕ) (key : KeyData) (r : Fate) (q : key ≡ key_of k) (e : comes_to r ≡ fate m key) (v : Fate) (h : r ≡ v) where
  fate-told : fate m key ≡ comes_to v
  fate-told = sym e ∙ ap comes_to h

  -- the key's index is that of a slot of the arrays
  pub told-fits : settles (comes_to v) ≡ true → (Shaped m) × (key.idx < length m.versions)
  told-fits t = comes m key (comes_to v) (read_some k q) t fate-told

  pub told-out : (x : ℕ) → fated m (grown m key.idx) key x (comes_to v) ≡ insert m k x
  told-out x = sym (insert_by m key x (comes_to v) fate-told) ∙ insert_key_lem m k x q

  -- a key whose slot is there grows nothing
  pub told-old : (x : ℕ) → compares (comes_to v) ≡ true → fated m m key x (comes_to v) ≡ insert m k x
  told-old x t = sym (insert-old m key x (comes_to v) (slot-there m key (comes_to v) (read_some k q) t fate-told) fate-told) ∙ insert_key_lem m k x q
