-- Slots marked by the lowest bit of their version (the Rust's get_disjoint_mut): a marked slot's version is even where it was odd,
-- so a key that comes a second time is not live. Assumes nothing.
use Rattle.std.specs.Prelude.{List, [], ◌∷◌, ℕ, ◌+◌, ◌-◌, ◌*◌, ◌%◌, get_or, set}
use Rattle.keys.specs.Keys.{idx}

-- a version with its lowest bit turned
abbrev pub flipped : ℕ → ℕ
flipped v = v + 1 - v % 2 * 2

-- the versions with the lowest bit turned in the slot of a key; a slot past the end is none
unfoldable pub toggled : List ℕ → ℕ → List ℕ
toggled vs k = set vs (idx k) (flipped (get_or vs (idx k) 0))

-- the same for each key of a list
unfoldable pub marked : List ℕ → List ℕ → List ℕ
marked vs [] = vs
marked vs (k ∷ ks) = marked (toggled vs k) ks
