-- What a change does to one key, as functions of what held before: its value, and whether it is detached. Assumes nothing.
use mathlib.Core.Bool.{Bool, true, false, cond}
use mathlib.Core.Option.{Option, none, some}
use Prim.Native.Nat.{ℕ}
use lib.Dec.{eqb}
use Rattle.keys.specs.Keys.{idx}
use Rattle.history.specs.Reading.{Change, nothing, issued, returned, revalued, dies, parts, sieved}

-- a value stays, if the rule keeps the key's index and it
abbrev pub sieve : (ℕ → ℕ → Bool) → ℕ → Option ℕ → Option ℕ
sieve keeps i none = none
sieve keeps i (some x) = cond (keeps i x) (some x) none

-- the value x, if the key lives
abbrev pub on_some : ℕ → Option ℕ → Option ℕ
on_some x none = none
on_some x (some y) = some x

-- the value of the key k after a change, where g is its value before
abbrev pub lives_after : Change → ℕ → Option ℕ → Option ℕ
lives_after nothing k g = g
lives_after (issued j x) k g = cond (eqb k j) (some x) g
lives_after (returned j x) k g = cond (eqb k j) (some x) g
lives_after (revalued j x) k g = cond (eqb k j) (on_some x g) g
lives_after (dies j) k g = cond (eqb k j) none g
lives_after (parts j) k g = cond (eqb k j) none g
lives_after (sieved keeps) k g = sieve keeps (idx k) g

-- whether the key k is detached after a change, where d says so of before
abbrev pub detached_after : Change → ℕ → Bool → Bool
detached_after nothing k d = d
detached_after (issued j x) k d = d
detached_after (returned j x) k d = cond (eqb k j) false d
detached_after (revalued j x) k d = d
detached_after (dies j) k d = d
detached_after (parts j) k d = cond (eqb k j) true d
detached_after (sieved keeps) k d = d
