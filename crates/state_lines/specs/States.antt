-- Whole states as lines: the header, and each array with its name before it. Assumes nothing.
use Rattle.std.specs.Prelude.{ℕ, List, [], ◌∷◌, ◌++◌}
use Rattle.text.specs.Text.{decimal}
use Rattle.lines.specs.Lines.{row}
use Rattle.table.specs.Table.{Table}
use Rattle.map.specs.Map.{Map}
use Rattle.answers.specs.Listed.{headed, map_headed}
use Rattle.answer_lines.specs.Answers.{line_of}

-- the names, letter by letter

-- `versions`
abbrev pub versions_text : List ℕ
versions_text = 118 ∷ 101 ∷ 114 ∷ 115 ∷ 105 ∷ 111 ∷ 110 ∷ 115 ∷ []

-- `links`
abbrev pub links_text : List ℕ
links_text = 108 ∷ 105 ∷ 110 ∷ 107 ∷ 115 ∷ []

-- `keys`
abbrev pub keys_text : List ℕ
keys_text = 107 ∷ 101 ∷ 121 ∷ 115 ∷ []

-- `values`
abbrev pub values_text : List ℕ
values_text = 118 ∷ 97 ∷ 108 ∷ 117 ∷ 101 ∷ 115 ∷ []

abbrev pub state_lines : Table → List (List ℕ)
state_lines t =
    line_of (headed t.head)
    ++ ((versions_text ∷ row decimal t.versions)
    ++ ((links_text ∷ row decimal t.links) ++ ((keys_text ∷ row decimal t.keys) ++ (values_text ∷ row decimal t.values))))

abbrev pub map_state_lines : Map → List (List ℕ)
map_state_lines m =
    line_of (map_headed m.head) ++ ((versions_text ∷ row decimal m.versions) ++ (values_text ∷ row decimal m.values))
