-- What has_shape answers, from the facts that its tests tell. Assumes nothing.
use mathlib.Core.Path.{◌≡◌}
use mathlib.Core.Bool.{true, false}
use Prim.Native.Nat.{◌+◌, ◌-◌, ◌≤◌, ◌<◌}
use lib.Dec.{leb}
use Rattle.lists.proofs.Tests.{tests}
use Rattle.table.specs.Table.{Table, cap, lengths_fit, has_shape}
use Rattle.table.proofs.Shape.{has_shape_lem}
use Rattle.dense.specs.declared.View.{View}
use Rattle.dense.specs.declared.judged.Shaped.{Shaped}
use Rattle.dense.specs.Lent.{seen}

module _ (t : Table) (fit : lengths_fit t.versions t.links t.keys t.values ≡ true) where
  pub shape_no_slot : t.head.s < 1 → false ≡ has_shape t
  unfolding has_shape
  shape_no_slot h = simp (fit, tests)

  module _ (s_low : 1 ≤ t.head.s) where
    pub shape_too_many : cap t + 1 < t.head.s → false ≡ has_shape t
    unfolding has_shape
    shape_too_many h = simp (fit, tests)

    module _ (s_high : t.head.s ≤ cap t + 1) where
      pub shape_crowded : t.head.s - 1 < t.head.n → false ≡ has_shape t
      unfolding has_shape
      shape_crowded h = simp (fit, tests)

      module _ (n_high : t.head.n ≤ t.head.s - 1) where
        pub shape-head-low : t.head.f < 1 → false ≡ has_shape t
        unfolding has_shape
        shape-head-low h = simp (fit, tests)

        pub shape_by_head : 1 ≤ t.head.f → leb t.head.f t.head.s ≡ has_shape t
        unfolding has_shape
        shape_by_head h = simp (fit, tests)

-- what `with_shape` tells of the view that it was given
pub shape_of_view : (table : Shaped) {view : View} → table.view ≡ view → has_shape (seen view) ≡ true
shape_of_view table e = rw (← e) (has_shape_lem _ table.shape)
