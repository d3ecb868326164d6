-- What remove and detach share, for the private function that both call. Assumes nothing.
use Rattle.std.specs.Prelude.{ℕ}
use Rattle.keys.specs.Keys.{idx}
use Rattle.table.specs.Table.{Table, val, freed_head, left}
use Rattle.table.specs.Calls.{Out, on, leaving, said_value}

-- the key's element leaves: its slot's link becomes l, and f is the free head after it
unfoldable pub taken : Table → ℕ → ℕ → ℕ → Out
taken t k l f = on t (leaving t k) (λ p. (said_value (val t p), left t (idx k) l (freed_head t.head f)))
