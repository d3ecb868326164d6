-- The digest of a whole table. Assumes nothing.
use Rattle.std.specs.Prelude.{ℕ, cond, [], ◌∷◌}
use Rattle.table.specs.Table.{Table}
use Rattle.table.specs.Sound.{is_sound}
use Rattle.replay.specs.Digest.{mixed_all}

-- 1 for a sound table and 0 for another; the header; versions, links, keys and values to their ends
unfoldable pub digest : Table → ℕ
digest t =
    let head = mixed_all 0 (cond (is_sound t) 1 0 ∷ t.head.n ∷ t.head.s ∷ t.head.f ∷ []) in
    mixed_all (mixed_all (mixed_all (mixed_all head t.versions) t.links) t.keys) t.values
