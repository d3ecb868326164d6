-- What an insert comes to, case by case. Assumes nothing.
use mathlib.Core.Path.{◌≡◌, ap, ◌∙◌}
use mathlib.Core.Logic.{◌≢◌}
use mathlib.Core.Bool.{true, false}
use Prim.Native.Nat.{ℕ, ◌+◌, ◌≤◌, ◌<◌}
use native.Mathlib.Omega.{arith}
use lib.ListN.{length}
use borrow.Author.Tests.{eq-eqb, ne_eqb, le-leb, lt-leb}
use Rattle.keys.specs.Keys.{is_null}
use Rattle.keys.specs.declared.KeyData.{KeyData}
use Rattle.map.specs.Map.{Map, ver, has_shape, grown}
use Rattle.map.specs.Calls.{ignores, bars, settled, fate_in, fate}
use Rattle.map.proofs.Grown.{grown-below, grown_above, grown-new}

pub fate_unshaped : (m : Map) (key : KeyData) → has_shape m ≡ false → fate m key ≡ bars 1
unfolding fate
fate_unshaped m key sh = rw sh

module _ (m : Map) (key : KeyData) (sh : has_shape m ≡ true) where
  pub fate-null : is_null key ≡ true → fate m key ≡ ignores
  unfolding fate
  fate-null e = rw (sh, e)

  module _ (some : is_null key ≡ false) where
    pub fate_zero : key.idx ≡ 0 → fate m key ≡ bars 9
    unfolding fate
    fate_zero e = rw (sh, some, eq-eqb key.idx 0 e)

    pub fate-far : key.idx ≢ 0 → length m.versions ≤ key.idx → fate m key ≡ bars 8
    unfolding fate
    fate-far ne l = rw (sh, some, ne_eqb key.idx 0 ne, le-leb (length m.versions) key.idx l)

    module _ (ne : key.idx ≢ 0) (l : key.idx < length m.versions) where
      fate_in_lem : fate m key ≡ fate_in (grown m key.idx) key.idx key.version
      unfolding fate
      fate_in_lem = rw (sh, some, ne_eqb key.idx 0 ne, lt-leb (length m.versions) key.idx l)

      -- in a slot that is there
      pub fate-below : key.idx < m.head.s → fate m key ≡ settled m.head.s m.head.count (ver m key.idx) key.version
      fate-below b = fate_in_lem ∙ ap (λ (g : Map). fate_in g key.idx key.version) (grown-below m key.idx b)

      -- in a slot that is made: it is vacant
      pub fate_above : m.head.s ≤ key.idx → fate m key ≡ settled (key.idx + 1) m.head.count 0 key.version
      fate_above b =
          fate_in_lem
          ∙ ap (λ (g : Map). settled g.head.s g.head.count (ver (grown m key.idx) key.idx) key.version) (grown_above m key.idx b)
          ∙ ap (λ (w : ℕ). settled (key.idx + 1) m.head.count w key.version) (grown-new m key.idx key.idx l b (omega arith))
