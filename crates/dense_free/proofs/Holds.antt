-- What `free_list_holds` answers: no where the shape fails, else what is told of the free list. Assumes nothing.
use mathlib.Core.Path.{◌≡◌}
use mathlib.Core.Bool.{false, ◌&&◌}
use Prim.Native.Nat.{ℕ}
use lib.Dec.{eqb}
use Rattle.lists.specs.Count.{count}
use Rattle.table.specs.Table.{Table, has_shape}
use Rattle.table.specs.Sound.{is_waiting, leads, steps}
use Rattle.table.proofs.Shape.{Shape, has_shape_lem}
use Rattle.dense_free.specs.Holds.{free_list_holds}

module _ (t : Table) where
  pub holds_shape : has_shape t ≡ false → false ≡ free_list_holds t
  unfolding free_list_holds
  holds_shape e = simp e

  pub holds_list : {m : ℕ} → Shape t → m ≡ count (is_waiting t) t.head.s
      → (leads t t.head.s t.head.f && eqb (steps t t.head.s t.head.f) m) ≡ free_list_holds t
  unfolding free_list_holds
  holds_list sh e = simp (has_shape_lem t sh, e)
