-- The refusals in their order (the rules, section "Refusal numbers and their order"): the tests of each call, and what they decide. Assumes nothing.
use Rattle.std.specs.Prelude.{◌≡◌, ◌⊎◌, true, cond, not, List, [], ◌∷◌, ◌++◌, ℕ, leb, ltb, eqb, length}
use Rattle.std.proofs.Math.Option.{Option, none, some}
use Rattle.lists.specs.Among.{among}
use Rattle.lists.specs.Tests.{Tests}
use Rattle.keys.specs.Keys.{idx, pack, version, as_read, odd}
use Rattle.table.specs.Table.{Table, ver, link, key, val, cap, has_shape, is_live, dead, is_detached, is_held, last, last_idx, last_in_range, last_is_held, has_place, head_is_free, freed_head, freed}
use Rattle.table.specs.Calls.{Said, said_pair, said_done, refused, Out, Judged, found, fails}
use Rattle.table.specs.Sound.{is_sound}

-- ---- what tests in order decide

-- the numbers that may be given
abbrev pub numbers : Tests → List ℕ
numbers [] = []
numbers (e ∷ l) = e.1 ∷ numbers l

-- "each gives its number only and writes nothing": refused with that number, and u is as it was; else the outcome o
abbrev pub ruled : {A : Type 0} → A → Option ℕ → Said × A → Said × A
ruled u none o = o
ruled u (some r) o = (refused r, u)

-- the same of what a judgement finds
abbrev pub judged : Option ℕ → ℕ → Judged
judged none p = found p
judged (some r) p = fails r

-- ---- the tests of each call: "order on a table: 1, then 2, 3 or 4, then 5, then 6"

-- lookup and put
abbrev pub place_tests : Table → ℕ → Tests
place_tests t k = (has_shape t, 1) ∷ (is_live t (idx k) (version k), dead t (idx k) (version k)) ∷ (is_held t (idx k) (version k), 5) ∷ []

-- remove and detach
abbrev pub leave_tests : Table → ℕ → Tests
leave_tests t k = (has_shape t, 1) ∷ (is_live t (idx k) (version k), dead t (idx k) (version k)) ∷ (is_held t (idx k) (version k), 5) ∷ (last_in_range t, 5) ∷ []

-- insert: of the free head, or of a new slot
abbrev pub slot_tests : Table → Tests
slot_tests t = cond (ltb t.head.f t.head.s) ((head_is_free t, 5) ∷ []) ((leb t.head.s (cap t), 3) ∷ [])

abbrev pub insert_tests : Table → Tests
insert_tests t = (has_shape t, 1) ∷ slot_tests t

abbrev pub reattach_tests : Table → ℕ → Tests
reattach_tests t k = (has_shape t, 1) ∷ (is_detached t (idx k) (version k), 4) ∷ (has_place t, 5) ∷ []

abbrev pub drain_tests : Table → Tests
drain_tests t = (has_shape t, 1) ∷ cond (eqb t.head.n 0) [] ((last_is_held t, 5) ∷ [])

-- retain and clear
abbrev pub sweep_tests : Table → Tests
sweep_tests t = (has_shape t, 1) ∷ (is_sound t, 5) ∷ []

-- disjoint: "judges keys in list order, each by 2 then 5"; 6 comes last
abbrev pub key_tests : Table → List ℕ → List ℕ → Tests
key_tests t earlier [] = []
key_tests t earlier (k ∷ ks) =
    (not (among (as_read k) earlier), 2)
    ∷ (is_live t (idx k) (version k), dead t (idx k) (version k))
    ∷ (is_held t (idx k) (version k), 5)
    ∷ key_tests t (as_read k ∷ earlier) ks

abbrev pub disjoint_tests : Table → List ℕ → List ℕ → Tests
disjoint_tests t ks out = (has_shape t, 1) ∷ (key_tests t [] ks ++ ((leb (length ks) (length out), 6) ∷ []))

-- ---- what is done where every test holds

-- the key that insert issues
abbrev pub issues : Table → ℕ
issues t = cond (ltb t.head.f t.head.s) (pack t.head.f (odd (ver t t.head.f))) (pack t.head.s 1)

-- the outcome of a drain step
abbrev pub drains : Table → Out
drains t =
    cond (eqb t.head.n 0) (said_done, t)
    (said_pair (key t (last t)) (val t (last t)), freed t (last_idx t) t.head.f (freed_head t.head (last_idx t)))

-- the places of a list of keys
abbrev pub links_of : Table → List ℕ → List ℕ
links_of t [] = []
links_of t (k ∷ ks) = link t (idx k) ∷ links_of t ks

-- ---- "on a sound table 3 means every index 1 to C is live or detached"

-- a key of index i is live or detached
abbrev pub Used : Table → ℕ → Type 0
Used t i = (k : ℕ) × (idx k ≡ i) × ((is_live t i (version k) ≡ true) ⊎ (is_detached t i (version k) ≡ true))
