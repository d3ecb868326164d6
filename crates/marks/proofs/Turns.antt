-- Marks turned and turned back: to mark the same keys twice changes nothing. Two slots are marked in either order, so the order does not matter. Assumes nothing.
use mathlib.Core.Path.{◌≡◌, refl, sym, ap, ◌∙◌}
use mathlib.Core.Logic.{◌≢◌, by_cases}
use mathlib.Core.List.{List, [], ◌∷◌, ◌++◌}
use Prim.Native.Nat.{ℕ, ◌+◌, ◌<◌, ◌≤◌}
use native.Mathlib.Numerals.{add-one}
use native.Mathlib.Omega.{arith}
use native.Mathlib.Decide.{ℕ_discrete, dec_lt}
use lib.Bits.{bit_xor, xor_add_and}
use lib.ListN.{length, get_or, set, drop, length-set, drop_of_length-le}
use lib.Seq.{drop-cons, set_out, set-set, set-get_or, set_comm, get_or-set_same, get_or-set_other}
use Rattle.keys.specs.Keys.{idx}
use Rattle.keys.proofs.Bits.{lowest}
use Rattle.marks.specs.Marks.{flipped, toggled, marked}

-- ---- the lowest bit

pub xor_one : (v : ℕ) → bit_xor v 1 ≡ flipped v
xor_one v = omega (arith, xor_add_and v 1, lowest v)

pub flipped_twice : (v : ℕ) → flipped (flipped v) ≡ v
flipped_twice v = omega arith

-- ---- one slot

pub length-toggled : (vs : List ℕ) (k : ℕ) → length (toggled vs k) ≡ length vs
unfolding toggled
length-toggled vs k = length-set vs _ _

-- no slot, no mark
pub toggled-out : (vs : List ℕ) (k : ℕ) → length vs ≤ idx k → toggled vs k ≡ vs
unfolding toggled
toggled-out vs k h = set_out vs _ _ h

pub toggled_at : (vs : List ℕ) (k : ℕ) → idx k < length vs → get_or (toggled vs k) (idx k) 0 ≡ flipped (get_or vs (idx k) 0)
unfolding toggled
toggled_at vs k h = get_or-set_same vs _ _ 0 h

pub toggled_off : (vs : List ℕ) (k j : ℕ) → j ≢ idx k → get_or (toggled vs k) j 0 ≡ get_or vs j 0
unfolding toggled
toggled_off vs k j ne = get_or-set_other vs _ _ _ 0 ne

toggled_twice : (vs : List ℕ) (k : ℕ) → toggled (toggled vs k) k ≡ vs
unfolding toggled
toggled_twice vs k =
    by_cases (dec_lt (idx k) (length vs))
    (λ h. set-set vs _ _ _ ∙ ap (set vs (idx k)) (ap flipped (get_or-set_same vs _ _ 0 h) ∙ flipped_twice _) ∙ set-get_or vs _ 0)
    (λ h. let o : toggled vs k ≡ vs = toggled-out vs k (omega (arith, h)) in ap (λ (us : List ℕ). toggled us k) o ∙ o)

toggled_comm : (vs : List ℕ) (k j : ℕ) → toggled (toggled vs k) j ≡ toggled (toggled vs j) k
unfolding toggled
toggled_comm vs k j =
    by_cases (ℕ_discrete (idx k) (idx j))
    (λ e. rw e)
    (λ ne.
    rw (get_or-set_other vs (idx k) (idx j) _ 0 (λ e. ne (sym e)), get_or-set_other vs (idx j) (idx k) _ 0 ne)
    (set_comm vs _ _ _ _ ne))

-- ---- the slots of a list of keys

pub marked_snoc : (vs ks : List ℕ) (k : ℕ) → marked vs (ks ++ (k ∷ [])) ≡ toggled (marked vs ks) k
unfolding marked
marked_snoc vs [] k = refl
marked_snoc vs (j ∷ ks) k = marked_snoc (toggled vs j) ks k

marked-toggled : (vs ks : List ℕ) (k : ℕ) → marked (toggled vs k) ks ≡ toggled (marked vs ks) k
unfolding marked
marked-toggled vs [] k = refl
marked-toggled vs (j ∷ ks) k = ap (λ (us : List ℕ). marked us ks) (toggled_comm vs k j) ∙ marked-toggled (toggled vs j) ks k

-- the marks are undone
pub marked_twice : (vs ks : List ℕ) → marked (marked vs ks) ks ≡ vs
unfolding marked
marked_twice vs [] = refl
marked_twice vs (k ∷ ks) =
    ap (λ (us : List ℕ). marked us ks) (sym (marked-toggled (toggled vs k) ks k) ∙ ap (λ (us : List ℕ). marked us ks) (toggled_twice vs k))
    ∙ marked_twice vs ks

-- ---- marking in turn: what is left to mark gives the same whole

module _ (vs us ks : List ℕ) (i : ℕ) (rest : marked us (drop i ks) ≡ marked vs ks) where
  pub marks_turn : (ws : List ℕ) → i < length ks → ws ≡ toggled us (get_or ks i 0) → marked ws (drop (i + 1) ks) ≡ marked vs ks
  unfolding marked
  marks_turn ws h e = rw (e, add-one) (rw (drop-cons ks i 0) at rest)

  pub marks_end : length ks ≤ i → us ≡ marked vs ks
  unfolding marked
  marks_end h = rw (drop_of_length-le ks h) at rest
