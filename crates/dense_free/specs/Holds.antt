-- The part of the check that is about the free list. Assumes nothing.
use Rattle.std.specs.Prelude.{Bool, ◌&&◌, eqb}
use Rattle.lists.specs.Count.{count}
use Rattle.table.specs.Table.{Table, has_shape}
use Rattle.table.specs.Sound.{is_waiting, leads, steps}

-- the shape holds; from f the links lead to s over vacant slots, as many as have to be on the list
unfoldable pub free_list_holds : Table → Bool
free_list_holds t =
    has_shape t
    && (leads t t.head.s t.head.f
    && eqb (steps t t.head.s t.head.f) (count (is_waiting t) t.head.s))
