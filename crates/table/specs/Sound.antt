-- What a sound table is, and the check that decides it (the rules, section "The dense table", Sound). Assumes nothing.
use Rattle.std.specs.Prelude.{◌≡◌, ◌⊎◌, Bool, true, cond, not, ◌&&◌, ℕ, zero, suc, ◌%◌, ◌≤◌, ◌<◌, leb, ltb, eqb}
use mathlib.Core.List.{List, [], ◌∷◌, Memᴰ}
use Rattle.lists.specs.Count.{count, every}
use Rattle.keys.specs.Keys.{W, far, idx, vsn}
use Rattle.table.specs.Table.{Table, ver, link, key, has_shape}

-- ---- the free list

-- the slots met from slot g by following links, until s: at most m of them; and where the walk then stands
unfoldable pub met : Table → ℕ → ℕ → List ℕ
met t zero g = []
met t (suc m) g = cond (eqb g t.head.s) [] (g ∷ met t m (link t g))

unfoldable pub stands : Table → ℕ → ℕ → ℕ
stands t zero g = g
stands t (suc m) g = cond (eqb g t.head.s) g (stands t m (link t g))

-- the slots in the order in which inserts will take them; a list of more than s slots would go round for ever
unfoldable pub free_list : Table → List ℕ
free_list t = met t t.head.s t.head.f

-- how often a number stands in a list
unfoldable pub times : ℕ → List ℕ → ℕ
times i [] = 0
times i (j ∷ l) = cond (eqb i j) (suc (times i l)) (times i l)

-- ---- sound

abbrev pub is_odd : Table → ℕ → Bool
is_odd t i = eqb (ver t i % 2) 1

-- "each place's key has an index from 1 to s−1 and that slot holds the key's odd version and the place as link"
pub record Home (t : Table) (p : ℕ) : Type 0 where
  pub low : 1 ≤ idx (key t p)
  pub high : idx (key t p) < t.head.s
  pub same : ver t (idx (key t p)) ≡ vsn (key t p)
  pub odd : vsn (key t p) % 2 ≡ 1
  pub back : link t (idx (key t p)) ≡ p

-- a slot from 1 up that no element has
pub record Vacant (t : Table) (i : ℕ) : Type 0 where
  pub low : 1 ≤ i
  pub high : i < t.head.s
  pub even : ver t i % 2 ≡ 0

pub record Sound (t : Table) : Type 0 where
  -- "shape holds"
  pub shape : has_shape t ≡ true
  -- versions are 32-bit numbers, as in every lent array
  pub words : (i : ℕ) → i < t.head.s → ver t i < W
  -- "slot 0 is version 0, link 0"
  pub zero_version : ver t 0 ≡ 0
  pub zero_link : link t 0 ≡ 0
  -- "each place's key .."
  pub homes : (p : ℕ) → p < t.head.n → Home t p
  -- "exactly n slots have odd versions"
  pub odd_slots : count (is_odd t) t.head.s ≡ t.head.n
  -- "each other slot from 1 up is either detached or on the free list exactly once"
  pub others : (i : ℕ) → Vacant t i → (link t i ≡ far) ⊎ (times i (free_list t) ≡ 1)
  -- "the list from f ends at s", and runs over such slots only
  pub ends : stands t t.head.s t.head.f ≡ t.head.s
  pub only_vacant : (i : ℕ) → Memᴰ i (free_list t) → Vacant t i

-- ---- "a yes-or-no check decides this"

-- a place's key and its slot name each other
unfoldable pub is_home : Table → ℕ → Bool
is_home t p =
    leb 1 (idx (key t p))
    && (ltb (idx (key t p)) t.head.s
    && (eqb (ver t (idx (key t p))) (vsn (key t p))
    && (eqb (vsn (key t p) % 2) 1
    && eqb (link t (idx (key t p))) p)))

-- a slot that has to be on the free list
unfoldable pub is_waiting : Table → ℕ → Bool
is_waiting t i = leb 1 i && (eqb (ver t i % 2) 0 && not (eqb (link t i) far))

-- from slot g at most m links lead to s, over vacant slots from 1 up; and how many
unfoldable pub leads : Table → ℕ → ℕ → Bool
leads t zero g = eqb g t.head.s
leads t (suc m) g =
    cond (eqb g t.head.s) true
    (leb 1 g && (ltb g t.head.s && (eqb (ver t g % 2) 0 && leads t m (link t g))))

unfoldable pub steps : Table → ℕ → ℕ → ℕ
steps t zero g = 0
steps t (suc m) g = cond (eqb g t.head.s) 0 (suc (steps t m (link t g)))

-- a list that ends meets no slot twice, so it holds every waiting slot when it is as long as there are waiting slots
unfoldable pub is_sound : Table → Bool
is_sound t =
    has_shape t
    && (eqb (ver t 0) 0
    && (eqb (link t 0) 0
    && (every (is_home t) t.head.n
    && (eqb (count (is_odd t) t.head.s) t.head.n
    && (leads t t.head.s t.head.f
    && eqb (steps t t.head.s t.head.f) (count (is_waiting t) t.head.s))))))
