-- What a call on a dense table leaves, with its answer as the programs tell it. Assumes nothing.
use Rattle.std.specs.Prelude.{List, ℕ}
use Rattle.table.specs.declared.Header.{Header}
use Rattle.table.specs.Table.{Table}
use Rattle.table.specs.Calls.{Out, Begun, begins, cannot}
use Rattle.dense.specs.Lent.{table}
use Rattle.answers.specs.declared.Answer.{Answer}
use Rattle.answers.specs.declared.Made.{Made}
use Rattle.answers.specs.Listed.{listed, listed_header}

-- the answer, and the table with the header that is handed back
abbrev pub outcome : Made Header → List ℕ → List ℕ → List ℕ → List ℕ → Answer × Table
outcome r vs ls ks xs = (r.answer, table vs ls ks xs r.header)

-- an outcome of the rules; d is what "done" answers
abbrev pub tells : Answer → Out → Answer × Table
tells d o = (listed d o.0, o.1)

-- a table that begins has its first header; of one that cannot begin the header stays
abbrev pub begun : Header → Begun → Made Header
begun h (begins g) = record { header = g; answer = listed_header (begins g) }
begun h (cannot r) = record { header = h; answer = listed_header (cannot r) }
