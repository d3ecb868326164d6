-- The rules' reading of what the code answers, and of the arrays that a call is lent. Assumes nothing.
use Rattle.std.specs.Prelude.{List, Bool, ℕ, Option, Some, None, Result, Ok, Err}
use Rattle.refusal.specs.declared.Refusal.{Refusal}
use Rattle.refusal.specs.Refusals.{number_of}
use Rattle.map.specs.declared.MapHeader.{MapHeader}
use Rattle.secondary.specs.declared.MapView.{MapView}
use Rattle.secondary.specs.declared.Element.{Element}
use Rattle.map.specs.Map.{Map}
use Rattle.map.specs.Calls.{Said, said_value, said_count, said_truth, said_element, said_done, refused, Judged, found, fails}

-- ---- the lent arrays

-- two arrays and a header as one map: a clause gives the arrays as a call is handed them (`.old`, `.now`) or as it leaves them (`.new`, `.now`)
abbrev pub lent_map : List ℕ → List ℕ → MapHeader → Map
lent_map vs xs h = record { versions = vs; values = xs; head = h }

-- the map that a call only looks at
abbrev pub seen_map : MapView → Map
seen_map m = record { versions = m.versions.now; values = m.values.now; head = m.h }

-- ---- the answers

-- what an accepted call answers is read by the first function, and the number of a refusal by the second
abbrev pub reading : {A B : Type 0} → (A → B) → (ℕ → B) → Result A Refusal → B
reading accepted barred (Ok x) = accepted x
reading accepted barred (Err r) = barred (number_of r)

abbrev pub length_of : Result ℕ Refusal → Said
length_of r = reading said_count refused r

abbrev pub truth_of : Result Bool Refusal → Said
truth_of r = reading said_truth refused r

abbrev pub found_of : Result ℕ Refusal → Judged
found_of r = reading found fails r

abbrev pub got_of : Result ℕ Refusal → Said
got_of r = reading said_value refused r

-- an element, or none
abbrev pub stepped : Option Element → Said
stepped (Some e) = said_element e.key e.value e.next
stepped None = said_done

abbrev pub step_of : Result (Option Element) Refusal → Said
step_of r = reading stepped refused r
