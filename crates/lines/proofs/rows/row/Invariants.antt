-- `row` writes number by number: what is left to write, after what was written, gives the same whole at every turn.
use mathlib.Core.Path.{◌≡◌}
use lib.ListN.{drop}
use Rattle.pieces.specs.Pieces.{page, wrote_all}
use Rattle.lines.specs.Lines.{row}
use Rattle.lines.proofs.rows.row.Given as goal

abbrev pub invariant-loop-piece : goal.invariant-loop-piece
invariant-loop-piece g l =
    wrote_all (page l.place l.out) (row g.T.Piece.text (drop l.piece-index l.list)) ≡ wrote_all (page l.at l.initial.out) (row g.T.Piece.text l.list)
