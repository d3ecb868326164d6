-- The calls as one type, and lists of calls (the rules, section "What the promises have to say"). Assumes nothing.
use Rattle.std.specs.Prelude.{◌≡◌, List, [], ◌∷◌, ℕ}
use Rattle.rules.specs.declared.Rule.{Rule}
use Rattle.table.specs.Table.{Table}
use Rattle.table.specs.Calls.{Said, Out, lookup, put, insert, remove, detach, reattach, drain}
use Rattle.table.specs.Sweeps.{retain, clear}

pub data Call : Type 0 where
  c_lookup : ℕ → Call
  c_put : ℕ → ℕ → Call
  c_insert : ℕ → Call
  c_remove : ℕ → Call
  c_detach : ℕ → Call
  c_reattach : ℕ → ℕ → Call
  c_drain : Call
  c_retain : Rule → Call
  c_clear : Call

-- the outcome of a call
unfoldable pub step : Table → Call → Out
step t (c_lookup k) = lookup t k
step t (c_put k x) = put t k x
step t (c_insert x) = insert t x
step t (c_remove k) = remove t k
step t (c_detach k) = detach t k
step t (c_reattach k x) = reattach t k x
step t c_drain = drain t
step t (c_retain rule) = retain t rule
step t c_clear = clear t

-- calls with their answers, the latest first
abbrev pub History : Type 0
History = List (Call × Said)

-- a list of calls made from the table t, the latest first: the table after them, and the calls with their answers
unfoldable pub after : Table → List Call → Table
after t [] = t
after t (c ∷ cs) = (step (after t cs) c).1

unfoldable pub history : Table → List Call → History
history t [] = []
history t (c ∷ cs) = (c, (step (after t cs) c).0) ∷ history t cs

-- ---- the same as a chain of outcomes

-- from the table t the calls and answers h lead to the table u: each answer, with the table after it, is what the call gives
abbrev pub Run : Table → History → Table → Type 0
Run t [] u = u ≡ t
Run t (e ∷ h) u = (before : Table) × Run t h before × ((e.1, u) ≡ step before e.0)

-- the calls of a history
abbrev pub calls_of : History → List Call
calls_of [] = []
calls_of (e ∷ h) = e.0 ∷ calls_of h
