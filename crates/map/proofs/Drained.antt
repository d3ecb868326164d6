-- A look and a drain step answer a key that the map has, with its value; after the drain step it is gone, and every other key is as before.
-- Of a whole map, whose versions are 32-bit numbers as in every lent array. Assumes nothing.
use mathlib.Core.Path.{◌≡◌, refl, sym, ap, ◌∙◌}
use mathlib.Core.Logic.{◌≢◌, by_cases}
use Prim.Native.Nat.{ℕ, ◌-◌, ◌<◌}
use native.Mathlib.Omega.{arith}
use native.Mathlib.Decide.{ℕ_discrete}
use lib.ListN.{length}
use Rattle.lists.proofs.Tests.{false_if}
use Rattle.keys.specs.Keys.{W, idx, version, as_read}
use Rattle.keys.proofs.Keys.{is_read}
use Rattle.map.specs.Map.{Map, ver, val, is_there}
use Rattle.map.specs.Calls.{Said, said_value, said_element, Out, lookup, key_at, peek, drain, gone}
use Rattle.map.specs.Whole.{Whole}
use Rattle.map.proofs.Shaped.{shaped}
use Rattle.map.proofs.Cases.{there, lookup_absent}
use Rattle.map.proofs.Drains.{Meets, meeting, seen, Taken, taken}
use Rattle.map.proofs.Elements.{key-idx, key-version, lookup-element}
use Rattle.map.proofs.Lookups.{answer, lookup-emptied_at, lookup-emptied_off}

-- a pair from its parts
both : (o : Out) (a : Said) → o.0 ≡ a → o ≡ (a, o.1)
both o a e = ap (λ (b : Said). (b, o.1)) e

module _ (m : Map) (w : Whole m) (words : (i : ℕ) → i < m.head.s → ver m i < W) where
  -- the element in an occupied slot
  found : (p i k x : ℕ) → Meets m p i → k ≡ key_at m i → x ≡ val m i → (lookup m k).0 ≡ said_value x
  found p i k x h a b =
      ap (λ (j : ℕ). (lookup m j).0) a ∙ answer (lookup-element m w i h.below h.full (words i h.below)) ∙ ap said_value (sym b)

  pub lookup-peek : (p k x q : ℕ) → peek m p ≡ said_element k x q → (lookup m k).0 ≡ said_value x
  lookup-peek p k x q e = let s = seen m p k x q (sym e) in found p (q - 1) k x (meeting m p (q - 1) s.at) s.key s.value

  module _ (p k x q : ℕ) (e : (drain m p).0 ≡ said_element k x q) where
    took : Taken m p k x q (drain m p).1
    took = taken m p k x q (drain m p).1 (both (drain m p) (said_element k x q) e)

    index : idx k ≡ q - 1
    index = let h = took.at in ap idx took.key ∙ key-idx m w (q - 1) h.below h.full (words (q - 1) h.below)

    read-version : version k ≡ ver m (q - 1)
    read-version = let h = took.at in ap version took.key ∙ key-version m w (q - 1) h.below h.full (words (q - 1) h.below)

    high : q - 1 < length m.versions
    high = omega (arith, took.at.below, shaped m w.shape)

    -- the answer was the map's
    pub lookup-drain-before : (lookup m k).0 ≡ said_value x
    lookup-drain-before = found p (q - 1) k x took.at took.key took.value

    pub lookup-drain-same : (lookup (drain m p).1 k).0 ≡ gone m k
    lookup-drain-same = ap (λ (u : Map). (lookup u k).0) took.left ∙ lookup-emptied_at m (q - 1) w.shape k index high

    pub lookup-drain-other : (j : ℕ) → as_read j ≢ as_read k → (lookup (drain m p).1 j).0 ≡ (lookup m j).0
    lookup-drain-other j ne =
        ap (λ (u : Map). (lookup u j).0) took.left
        ∙ by_cases (ℕ_discrete (idx j) (q - 1))
        (λ i.
        lookup-emptied_at m (q - 1) w.shape j i high
        ∙ sym (answer (lookup_absent m j w.shape
        (false_if (is_there m (idx j) (version j))
        (λ is.
        ne (is_read j (idx k) (version k) (i ∙ sym index) (sym (there m (idx j) (version j) is).same ∙ ap (ver m) i ∙ sym read-version)
        ∙ sym (is_read k (idx k) (version k) refl refl)))))))
        (λ i. lookup-emptied_off m (q - 1) w.shape j i)
