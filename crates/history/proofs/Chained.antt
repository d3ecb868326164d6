-- Theorem B2: the same of the arrays themselves. Over any chain of outcomes that each meet their call's equation, as the contracts of the code do,
-- the last table reads as the chain says; every theorem over a base then holds of it. Assumes nothing.
use mathlib.Core.Path.{◌≡◌, sym, subst}
use mathlib.Core.List.{List, []}
use Prim.Native.Nat.{ℕ}
use lib.ListN.{length}
use Rattle.lists.specs.Among.{among}
use Rattle.keys.specs.Keys.{idx, version, as_read}
use Rattle.table.specs.declared.Header.{Header}
use Rattle.table.specs.Table.{Table, is_detached}
use Rattle.table.specs.Calls.{said_count, begins, fresh, fresh_table, len, lookup}
use Rattle.table.specs.Steps.{History, after, history, Run, calls_of}
use Rattle.history.specs.Reading.{Reading, blank, reading, value_in}
use Rattle.history.specs.Begins.{Begins, value_or}
use Rattle.history.proofs.Runs.{run-after}
use Rattle.history.proofs.Begins.{fresh-begins, begins-after}
use Rattle.history.proofs.Promises.{lookup-reads}
use Rattle.history.proofs.Listed.{count-lives, len-lives}

module _ (t : Table) (base : Reading) (b : Begins t base) (h : History) (u : Table) (r : Run t h u) where
  pub run-begins : Begins u (reading base h)
  run-begins =
      let e = run-after t h u r in
      subst (λ (w : Table). Begins w (reading base h)) (sym e.0)
      (subst (λ (g : History). Begins (after t (calls_of h)) (reading base g)) (sym e.1) (begins-after t base b (calls_of h)))

  -- lookup answers exactly what the chain's calls and answers say, for every number given as a key
  pub run-lookup : (k : ℕ) → (lookup u k).0 ≡ value_or u k (value_in (reading base h).live (as_read k))
  unfolding after history reading
  run-lookup k = lookup-reads u (reading base h) run-begins [] k

  -- reattach's rule holds exactly where they say detached
  pub run-detached : (k : ℕ) → is_detached u (idx k) (version k) ≡ among (as_read k) (reading base h).detached
  run-detached k = run-begins.aways k

  -- n is the number of keys that they leave alive
  pub run-count : u.head.n ≡ length (reading base h).live
  run-count = count-lives u (reading base h) run-begins

  pub run_len : len u ≡ said_count (length (reading base h).live)
  run_len = len-lives u (reading base h) run-begins

-- a chain that starts at a fresh table starts from nothing
pub run-fresh : (vs ls ks xs : List ℕ) (g : Header) → (fresh vs ls ks xs).0 ≡ begins g → (h : History) (u : Table) → Run (fresh_table vs ls ks xs g) h u
    → Begins u (reading blank h)
run-fresh vs ls ks xs g e h u r = run-begins (fresh_table vs ls ks xs g) blank (fresh-begins vs ls ks xs g e) h u r
