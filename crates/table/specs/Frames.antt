-- What a call leaves as it was (the rules, section "The dense table"): "remove and detach write header, the key's slot, the moved key's slot and
-- one place; insert and reattach write header, one slot and place n; a drain step writes header and one slot". Assumes nothing.
use Rattle.std.specs.Prelude.{◌≡◌, ◌≢◌, ℕ, ◌<◌, length}
use Rattle.keys.specs.Keys.{idx}
use Rattle.table.specs.Table.{Table, ver, link, key, val, last_idx}

abbrev pub SameSlot : Table → Table → ℕ → Type 0
SameSlot t u i = (ver u i ≡ ver t i) × (link u i ≡ link t i)

-- the slot of the last element, where that is moved, gets another link
abbrev pub SameUnlessMoved : Table → Table → ℕ → Type 0
SameUnlessMoved t u i = (ver u i ≡ ver t i) × (i ≢ last_idx t → link u i ≡ link t i)

abbrev pub SamePlace : Table → Table → ℕ → Type 0
SamePlace t u p = (key u p ≡ key t p) × (val u p ≡ val t p)

abbrev pub SameLengths : Table → Table → Type 0
SameLengths t u =
    (length u.versions ≡ length t.versions)
    × (length u.links ≡ length t.links)
    × (length u.keys ≡ length t.keys)
    × (length u.values ≡ length t.values)

-- no place holds a key of the index i: a sweep frees the slots of listed keys, and no other
abbrev pub Unlisted : Table → ℕ → Type 0
Unlisted t i = (p : ℕ) → p < t.head.n → idx (key t p) ≢ i
