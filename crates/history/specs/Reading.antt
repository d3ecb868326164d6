-- What a list of calls and answers says of the keys (the rules, section "What the promises have to say"):
-- "that reading knows no slots, links, places or free list". Assumes nothing.
use Rattle.std.specs.Prelude.{◌≡◌, ◌⊎◌, Bool, true, false, cond, List, [], ◌∷◌, ℕ, suc, ◌+◌, eqb}
use Rattle.std.proofs.Math.Option.{Option, none, some}
use Rattle.lists.specs.Among.{among}
use Rattle.keys.specs.Keys.{idx, as_read}
use Rattle.rules.specs.Rules.{keeps_of}
use Rattle.table.specs.Calls.{Said, said_key, said_value, said_pair, said_done, said_count, said_truth, refused}
use Rattle.table.specs.Steps.{Call, c_lookup, c_put, c_insert, c_remove, c_detach, c_reattach, c_drain, c_retain, c_clear, History}

-- ---- what an answered call does to the keys, as read

pub data Change : Type 0 where
  nothing : Change
  -- a key begins to live with a value: issued by insert, or named by a reattach, which ends its being detached
  issued : ℕ → ℕ → Change
  returned : ℕ → ℕ → Change
  -- a live key gets another value
  revalued : ℕ → ℕ → Change
  -- a key dies, or is detached
  dies : ℕ → Change
  parts : ℕ → Change
  -- every key dies "whose rule its index or value fails"
  sieved : (ℕ → ℕ → Bool) → Change

-- x, unless the call was refused
abbrev pub accepted : Said → Change → Change
accepted (said_key k) x = x
accepted (said_value v) x = x
accepted (said_pair k v) x = x
accepted said_done x = x
accepted (said_count m) x = x
accepted (said_truth b) x = x
accepted (refused r) x = nothing

-- the key that an answer issues, and the key that it says was drained
abbrev pub issue : Said → ℕ → Change
issue (said_key k) x = issued (as_read k) x
issue (said_value v) x = nothing
issue (said_pair k v) x = nothing
issue said_done x = nothing
issue (said_count m) x = nothing
issue (said_truth b) x = nothing
issue (refused r) x = nothing

abbrev pub drained : Said → Change
drained (said_key k) = nothing
drained (said_value v) = nothing
drained (said_pair k v) = dies (as_read k)
drained said_done = nothing
drained (said_count m) = nothing
drained (said_truth b) = nothing
drained (refused r) = nothing

-- "a key as read lives from the accepted insert answering it or reattach naming it until a remove or detach naming it,
-- a drain step answering it, a clear, or a retain whose rule its index or value fails"
unfoldable pub change : Call → Said → Change
change (c_lookup k) a = nothing
change (c_put k x) a = accepted a (revalued (as_read k) x)
change (c_insert x) a = issue a x
change (c_remove k) a = accepted a (dies (as_read k))
change (c_detach k) a = accepted a (parts (as_read k))
change (c_reattach k x) a = accepted a (returned (as_read k) x)
change c_drain a = drained a
change (c_retain rule) a = accepted a (sieved (keeps_of rule))
change c_clear a = accepted a (sieved (λ i x. false))

-- ---- the reading: two finite lists

-- the live keys with their values, and the detached keys
pub record Reading : Type 0 where
  pub live : List (ℕ × ℕ)
  pub detached : List ℕ

-- before any call on a fresh table there are none
abbrev pub blank : Reading
blank = record { live = []; detached = [] }

-- the list without the key k
unfoldable pub without : ℕ → List (ℕ × ℕ) → List (ℕ × ℕ)
without k [] = []
without k (e ∷ l) = cond (eqb k e.0) (without k l) (e ∷ without k l)

unfoldable pub except : ℕ → List ℕ → List ℕ
except k [] = []
except k (j ∷ l) = cond (eqb k j) (except k l) (j ∷ except k l)

-- the list with the value x at the key k
unfoldable pub valued : ℕ → ℕ → List (ℕ × ℕ) → List (ℕ × ℕ)
valued k x [] = []
valued k x (e ∷ l) = cond (eqb k e.0) ((k, x) ∷ valued k x l) (e ∷ valued k x l)

-- the entries whose index and value the rule keeps
unfoldable pub sifted : (ℕ → ℕ → Bool) → List (ℕ × ℕ) → List (ℕ × ℕ)
sifted keeps [] = []
sifted keeps (e ∷ l) = cond (keeps (idx e.0) e.1) (e ∷ sifted keeps l) (sifted keeps l)

unfoldable pub changed : Change → Reading → Reading
changed nothing r = r
changed (issued k x) r = record { live = (k, x) ∷ r.live; detached = r.detached }
changed (returned k x) r = record { live = (k, x) ∷ r.live; detached = except k r.detached }
changed (revalued k x) r = record { live = valued k x r.live; detached = r.detached }
changed (dies k) r = record { live = without k r.live; detached = r.detached }
changed (parts k) r = record { live = without k r.live; detached = k ∷ r.detached }
changed (sieved keeps) r = record { live = sifted keeps r.live; detached = r.detached }

-- what a list of answered calls says, from what is known at its start
unfoldable pub reading : Reading → History → Reading
reading base [] = base
reading base (e ∷ h) = changed (change e.0 e.1) (reading base h)

-- the value of a live key
unfoldable pub value_in : List (ℕ × ℕ) → ℕ → Option ℕ
value_in [] k = none
value_in (e ∷ l) k = cond (eqb k e.0) (some e.1) (value_in l k)

-- the live keys alone
abbrev pub keys_of : List (ℕ × ℕ) → List ℕ
keys_of [] = []
keys_of (e ∷ l) = e.0 ∷ keys_of l

-- a key is live or detached
abbrev pub Known : Reading → ℕ → Type 0
Known r k = ((x : ℕ) × (value_in r.live k ≡ some x)) ⊎ (among k r.detached ≡ true)

-- ---- removals at an index: "drops, drain steps and clears count as removals"

-- the entries of index i that the rule does not keep
unfoldable pub dropped_at : (ℕ → ℕ → Bool) → ℕ → List (ℕ × ℕ) → ℕ
dropped_at keeps i [] = 0
dropped_at keeps i (e ∷ l) =
    cond (eqb (idx e.0) i) (cond (keeps (idx e.0) e.1) (dropped_at keeps i l) (suc (dropped_at keeps i l))) (dropped_at keeps i l)

-- how many elements of index i a change removes, where r is what is known before it
unfoldable pub removed_at : Change → ℕ → Reading → ℕ
removed_at nothing i r = 0
removed_at (issued k x) i r = 0
removed_at (returned k x) i r = 0
removed_at (revalued k x) i r = 0
removed_at (dies k) i r = cond (eqb (idx k) i) 1 0
removed_at (parts k) i r = 0
removed_at (sieved keeps) i r = dropped_at keeps i r.live

unfoldable pub removals : Reading → History → ℕ → ℕ
removals base [] i = 0
removals base (e ∷ h) i = removed_at (change e.0 e.1) i (reading base h) + removals base h i

-- as many removals at an index bring its versions, which are odd numbers below 2 ^ 32, round to the same one
abbrev pub round : ℕ
round = 2147483648
