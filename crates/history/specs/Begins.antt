-- A table that reads as a base (the rules, section "What the promises have to say"): "the table's side is lookup and the reattach rule".
-- Assumes nothing.
use Rattle.std.specs.Prelude.{◌≡◌, Bool, true, false, cond, ℕ}
use mathlib.Core.List.{Memᴰ}
use Rattle.std.proofs.Math.Option.{Option, none, some}
use Rattle.lists.specs.Among.{among}
use Rattle.lists.specs.Once.{Once}
use Rattle.keys.specs.Keys.{idx, version, as_read}
use Rattle.table.specs.Table.{Table, link, val, is_live, dead, is_detached}
use Rattle.table.specs.Calls.{Said, said_value, refused}
use Rattle.table.specs.Sound.{Sound}
use Rattle.history.specs.Reading.{Reading, value_in, keys_of}

-- ---- the table's side

-- the value of a key that is live
unfoldable pub find : Table → ℕ → Option ℕ
find t k = cond (is_live t (idx k) (version k)) (some (val t (link t (idx k)))) none

-- whether the reattach rule holds of a key
abbrev pub away : Table → ℕ → Bool
away t k = is_detached t (idx k) (version k)

-- ---- a table reads as a base

pub record Begins (t : Table) (base : Reading) : Type 0 where
  pub sound : Sound t
  -- the same keys live, with the same values, and the same are detached
  pub finds : (k : ℕ) → find t k ≡ value_in base.live (as_read k)
  pub aways : (k : ℕ) → away t k ≡ among (as_read k) base.detached
  -- each key stands there once, as read
  pub live_once : Once (keys_of base.live)
  pub live_read : (k : ℕ) → Memᴰ k (keys_of base.live) → as_read k ≡ k
  pub detached_once : Once base.detached
  pub detached_read : (k : ℕ) → Memᴰ k base.detached → as_read k ≡ k

-- ---- answers in the reading's words

-- what a call on a key answers, where g is the key's value if it lives: "key not live" is 2, which `dead` names
abbrev pub value_or : Table → ℕ → Option ℕ → Said
value_or t k none = refused (dead t (idx k) (version k))
value_or t k (some v) = said_value v

abbrev pub is_some : Option ℕ → Bool
is_some none = false
is_some (some v) = true
