-- What a sweep judges before its first step. Assumes nothing.
use Rattle.std.specs.Prelude.{cond}
use Rattle.table.specs.Table.{Table, has_shape}
use Rattle.table.specs.Calls.{Said, said_done, refused}
use Rattle.table.specs.Sound.{is_sound}

-- 1, then 5 unless the table is sound
unfoldable pub asked_said : Table → Said
asked_said t = cond (has_shape t) (cond (is_sound t) said_done (refused 5)) (refused 1)
