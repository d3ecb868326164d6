-- `state` writes the header's line and the four arrays, one behind the other.
use mathlib.Core.List.{◌∷◌, ◌++◌}
use Rattle.text.specs.Text.{decimal}
use Rattle.lines.specs.Lines.{row}
use Rattle.pieces.proofs.Pieces.{wrote_all_then}
use Rattle.answers.specs.Listed.{headed}
use Rattle.answer_lines.specs.Answers.{line_of}
use Rattle.state_lines.specs.States.{versions_text, links_text, keys_text, values_text}
use Rattle.state_lines.proofs.state.Goals as goal

pub returns : goal.returns
returns c =
    let t = c.args.view in
    let versions = versions_text ∷ row decimal t.versions.now in
    let links = links_text ∷ row decimal t.links.now in
    let keys = keys_text ∷ row decimal t.keys.now in
    let values = values_text ∷ row decimal t.values.now in
    wrote_all_then _ _ _ (line_of (headed t.h)) (versions ++ (links ++ (keys ++ values))) (rw c.header.ensures at c.line-a.ensures)
    (wrote_all_then _ _ _ versions (links ++ (keys ++ values)) c.named_row-b.ensures
    (wrote_all_then _ _ _ links (keys ++ values) c.named_row-c.ensures
    (wrote_all_then _ _ _ keys values c.named_row-d.ensures c.named_row.ensures)))
