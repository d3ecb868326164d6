-- `map_state` writes the header's line and the two arrays, one behind the other.
use mathlib.Core.List.{◌∷◌, ◌++◌}
use Rattle.text.specs.Text.{decimal}
use Rattle.lines.specs.Lines.{row}
use Rattle.pieces.proofs.Pieces.{wrote_all_then}
use Rattle.answers.specs.Listed.{map_headed}
use Rattle.answer_lines.specs.Answers.{line_of}
use Rattle.state_lines.specs.States.{versions_text, values_text}
use Rattle.state_lines.proofs.map_state.Goals as goal

pub returns : goal.returns
returns c =
    let m = c.args.view in
    let versions = versions_text ∷ row decimal m.versions.now in
    let values = values_text ∷ row decimal m.values.now in
    wrote_all_then _ _ _ (line_of (map_headed m.h)) (versions ++ values) (rw c.map_header.ensures at c.line-a.ensures)
    (wrote_all_then _ _ _ versions values c.named_row-b.ensures c.named_row.ensures)
