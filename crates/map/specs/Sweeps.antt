-- The calls over many elements: retain, clear, disjoint (the rules, section "Secondary map"). Assumes nothing.
use Rattle.std.specs.Prelude.{Bool, cond, not, ◌&&◌, List, [], ◌∷◌, ℕ, zero, suc, ◌+◌, leb, length}
use Rattle.lists.specs.Among.{among}
use Rattle.lists.specs.Put.{put}
use Rattle.keys.specs.Keys.{idx, version, as_read}
use Rattle.rules.specs.declared.Rule.{Rule}
use Rattle.rules.specs.Rules.{keeps_of}
use Rattle.map.specs.Map.{Map, val, is_occupied, has_shape, emptied}
use Rattle.map.specs.Calls.{said_done, refused, Out, Judged, found, fails, slot_in, drain}
use Rattle.map.specs.Whole.{is_whole}

-- ---- retain and clear: "asks for the whole check, else 5"; they answer only the new header

abbrev pub asked : Map → Map → Out
asked m u = cond (has_shape m) (cond (is_whole m) (said_done, u) (refused 5, m)) (refused 1, m)

-- slot i is looked at: an element that the rule doesn't keep is removed
unfoldable pub sieved : (ℕ → ℕ → Bool) → ℕ → Map → Map
sieved keeps i m = cond (is_occupied m i && not (keeps i (val m i))) (emptied m i) m

-- n slots are looked at, from slot i on
unfoldable pub retaining : (ℕ → ℕ → Bool) → ℕ → ℕ → Map → Map
retaining keeps zero i m = m
retaining keeps (suc n) i m = retaining keeps n (i + 1) (sieved keeps i m)

-- "retain takes the rules above": every slot is looked at
unfoldable pub retain : Map → Rule → Out
retain m rule = asked m (retaining (keeps_of rule) m.head.s 0 m)

-- n drain steps
unfoldable pub clearing : ℕ → Map → Map
clearing zero m = m
clearing (suc n) m = clearing n (drain m 0).1

-- clear is drain steps until done: one for each element
unfoldable pub clear : Map → Out
clear m = asked m (clearing m.head.count m)

-- ---- disjoint

-- the slots of a list of keys, or the refusal of the first bad one
pub data Slots : Type 0 where
  slots : List ℕ → Slots
  misses : ℕ → Slots

abbrev pub slotted : Judged → Slots → Slots
slotted (found i) (slots is) = slots (i ∷ is)
slotted (found i) (misses r) = misses r
slotted (fails r) rest = misses r

-- keys in list order; 2 also where the key, as read, is among the earlier ones
unfoldable pub slots_of : Map → List ℕ → List ℕ → Slots
slots_of m earlier [] = slots []
slots_of m earlier (k ∷ ks) =
    cond (among (as_read k) earlier) (misses 2)
    (slotted (slot_in m (idx k) (version k)) (slots_of m (as_read k ∷ earlier) ks))

-- the slots go into the output from its front on; "success doesn't touch output past the answer's end"; "2, then 6"
abbrev pub given : Map → Slots → List ℕ → List ℕ → Out × List ℕ
given m (slots is) ks out = cond (leb (length ks) (length out)) ((said_done, m), put out 0 is) ((refused 6, m), out)
given m (misses r) ks out = ((refused r, m), out)

-- "disjoint gives slot indexes"; the empty list is accepted
unfoldable pub disjoint : Map → List ℕ → List ℕ → Out × List ℕ
disjoint m ks out = cond (has_shape m) (given m (slots_of m [] ks) ks out) ((refused 1, m), out)
