-- Disjoint's marks, which are undone before it answers: no rule speaks of them. Assumes nothing.
use Rattle.std.specs.Prelude.{◌≡◌, List, [], ℕ, zero, suc, ◌≤◌, ◌<◌, length, get_or, set, Result}
use Rattle.refusal.specs.declared.Refusal.{Refusal}
use Rattle.keys.specs.Keys.{idx, version}
use Rattle.map.specs.Map.{Map}
use Rattle.map.specs.Sweeps.{Slots, slots, misses, slots_of}
use Rattle.map.specs.Refused.{indexes}
use Rattle.secondary.specs.Answers.{reading}
use Rattle.secondary_disjoint.specs.declared.Marked.{Marked}

-- ---- for private functions

-- the versions with the slots of the first n keys given back the keys' versions, the last key first
unfoldable pub unmarked : List ℕ → List ℕ → ℕ → List ℕ
unmarked vs ks zero = vs
unmarked vs ks (suc n) = unmarked (set vs (idx (get_or ks n 0)) (version (get_or ks n 0))) ks n

-- what marking has found of a list of keys
abbrev pub marked_of : Result (Unit {0}) Refusal → List ℕ → Slots
marked_of r ks = reading (λ u. slots (indexes ks)) misses r

-- what marking a map's slots leaves: its finding, and versions that unmarking turns back
pub record Marking (m : Map) (ks : List ℕ) (r : Marked) (vs : List ℕ) : Type 0 where
  pub found : marked_of r.answer ks ≡ slots_of m [] ks
  pub few : r.count ≤ length ks
  pub within : (j : ℕ) → j < r.count → idx (get_or ks j 0) < length vs
  pub back : unmarked vs ks r.count ≡ m.versions
