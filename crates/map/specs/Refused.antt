-- The refusals in their order (the rules, sections "Secondary map" and "Refusal numbers and their order"): the tests of each call, and what
-- is done where all hold. `ruled` says what the dense table's says, over this map's answers.
-- Assumes nothing.
use Rattle.std.specs.Prelude.{Bool, true, cond, not, List, [], ◌∷◌, ◌++◌, ℕ, ◌+◌, ◌-◌, leb, ltb, eqb, length}
use Rattle.std.proofs.Math.Option.{Option, none, some}
use Rattle.lists.specs.Among.{among}
use Rattle.lists.specs.Tests.{Tests}
use Rattle.keys.specs.Keys.{idx, version, as_read, is_null}
use Rattle.keys.specs.declared.KeyData.{KeyData}
use Rattle.map.specs.Map.{Map, ver, val, is_vacant, has_shape, is_there, absent, older, grown, with_value, stored, emptied}
use Rattle.map.specs.Calls.{Said, said_ignored, said_replaced, said_kept, said_stored, said_done, refused, Out, ahead, element}
use Rattle.map.specs.Whole.{is_whole}

-- "each gives its number only and writes nothing": refused with that number, and u is as it was; else the outcome o
abbrev pub ruled : {A : Type 0} → A → Option ℕ → Said × A → Said × A
ruled u none o = o
ruled u (some r) o = (refused r, u)

-- ---- the tests of each call: "other calls judge lengths and s first (1); last, counting down at 0 or up at or above the new s−1 is 5"

-- lookup and put
abbrev pub slot_tests : Map → ℕ → Tests
slot_tests m k = (has_shape m, 1) ∷ (is_there m (idx k) (version k), absent m (idx k) (version k)) ∷ []

-- an element can be counted down
abbrev pub can_leave : Map → Bool
can_leave m = not (eqb m.head.count 0)

abbrev pub remove_tests : Map → ℕ → Tests
remove_tests m k = (has_shape m, 1) ∷ (is_there m (idx k) (version k), absent m (idx k) (version k)) ∷ (can_leave m, 5) ∷ []

-- an element that comes to slot i can be counted up, if it is counted: "the count grows only if the slot was vacant"
abbrev pub can_enter : Map → ℕ → Bool
can_enter g i = cond (is_vacant g i) (ltb g.head.count (g.head.s - 1)) true

-- "null key: ignored; index 0: 9; index ≥ L: 8"
abbrev pub insert_tests : Map → KeyData → Tests
insert_tests m key =
    (has_shape m, 1)
    ∷ cond (is_null key) []
    ((not (eqb key.idx 0), 9) ∷ (not (leb (length m.versions) key.idx), 8) ∷ (can_enter (grown m key.idx) key.idx, 5) ∷ [])

abbrev pub drain_tests : Map → ℕ → Tests
drain_tests m p = (has_shape m, 1) ∷ cond (ltb (ahead m p) m.head.s) ((can_leave m, 5) ∷ []) []

-- retain and clear
abbrev pub sweep_tests : Map → Tests
sweep_tests m = (has_shape m, 1) ∷ (is_whole m, 5) ∷ []

-- disjoint: keys in list order, "with 2, then 6"
abbrev pub key_tests : Map → List ℕ → List ℕ → Tests
key_tests m earlier [] = []
key_tests m earlier (k ∷ ks) =
    (not (among (as_read k) earlier), 2)
    ∷ (is_there m (idx k) (version k), absent m (idx k) (version k))
    ∷ key_tests m (as_read k ∷ earlier) ks

abbrev pub disjoint_tests : Map → List ℕ → List ℕ → Tests
disjoint_tests m ks out = (has_shape m, 1) ∷ (key_tests m [] ks ++ ((leb (length ks) (length out), 6) ∷ []))

-- ---- what is done where every test holds

-- an element of version v and value x comes to slot i of the map g, grown to it: "same version: replace, answer the old value; occupied by
-- a newer version: kept; else stored; the count grows only if the slot was vacant"
abbrev pub enters : Map → ℕ → ℕ → ℕ → Out
enters g i v x =
    cond (eqb (ver g i) v) (said_replaced (val g i), with_value g i x)
    (cond (is_vacant g i) (said_stored, stored g i v x (g.head.count + 1))
    (cond (older v (ver g i)) (said_kept, g) (said_stored, stored g i v x g.head.count)))

abbrev pub inserts : Map → KeyData → ℕ → Out
inserts m key x = cond (is_null key) (said_ignored, m) (enters (grown m key.idx) key.idx key.version x)

abbrev pub drains : Map → ℕ → Out
drains m p = cond (ltb (ahead m p) m.head.s) (element m (ahead m p), emptied m (ahead m p)) (said_done, m)

-- "disjoint gives slot indexes"
unfoldable pub indexes : List ℕ → List ℕ
indexes [] = []
indexes (k ∷ ks) = idx k ∷ indexes ks

-- an answer and the output, with the map, which disjoint leaves alone
abbrev pub beside : Map → Said × List ℕ → Out × List ℕ
beside m o = ((o.0, m), o.1)
