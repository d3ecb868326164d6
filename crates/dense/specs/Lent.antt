-- The lent arrays and the header as one table. Assumes nothing.
use Rattle.std.specs.Prelude.{List, ℕ}
use Rattle.table.specs.declared.Header.{Header}
use Rattle.table.specs.Table.{Table}
use Rattle.dense.specs.declared.View.{View}

-- four arrays and a header: a clause gives the arrays as a call is handed them (`.old`, `.now`) or as it leaves them (`.new`, `.now`)
abbrev pub table : List ℕ → List ℕ → List ℕ → List ℕ → Header → Table
table vs ls ks xs h = record { versions = vs; links = ls; keys = ks; values = xs; head = h }

-- what a call that only looks is lent
abbrev pub seen : View → Table
seen view = table view.versions.now view.links.now view.keys.now view.values.now view.h
