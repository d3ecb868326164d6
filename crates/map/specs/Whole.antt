-- What a whole map is, and the check that decides it (the rules, section "Secondary map"). Assumes nothing.
use Rattle.std.specs.Prelude.{◌≡◌, ◌⊎◌, Bool, true, cond, ◌&&◌, ℕ, ◌%◌, ◌<◌, eqb}
use Rattle.lists.specs.Count.{count, every}
use Rattle.map.specs.Map.{Map, ver, is_occupied, has_shape}

pub record Whole (m : Map) : Type 0 where
  -- the lengths and s fit
  pub shape : has_shape m ≡ true
  -- "slot 0 vacant"
  pub first : ver m 0 ≡ 0
  -- "each stored version must be 0 or odd"
  pub each : (i : ℕ) → i < m.head.s → (ver m i ≡ 0) ⊎ (ver m i % 2 ≡ 1)
  -- "the element count true"
  pub counted : count (is_occupied m) m.head.s ≡ m.head.count

-- "else the whole check says no": it looks only below s
abbrev pub is_fit : Map → ℕ → Bool
is_fit m i = cond (eqb (ver m i) 0) true (eqb (ver m i % 2) 1)

unfoldable pub is_whole : Map → Bool
is_whole m =
    has_shape m
    && (eqb (ver m 0) 0
    && (every (is_fit m) m.head.s
    && eqb (count (is_occupied m) m.head.s) m.head.count))
