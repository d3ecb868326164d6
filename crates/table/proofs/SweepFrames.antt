-- Theorem F of retain and clear, for any table: a sweep changes only the header, the slots of the keys that were listed, and places below n; clear
-- changes no place. What holds of a table and is handed on over one step of a sweep holds after the sweep. Assumes nothing.
use mathlib.Core.Path.{refl, sym, ◌∙◌}
use mathlib.Core.Logic.{◌≢◌}
use mathlib.Core.Bool.{Bool}
use mathlib.Core.List.{List, [], ◌∷◌}
use Prim.Native.Nat.{ℕ, zero, suc, ◌+◌, ◌≤◌, ◌<◌}
use native.Mathlib.Omega.{arith}
use lib.Dec.{ltb, eqb}
use lib.ListN.{get_or, set}
use borrow.Author.Tests.{ltb-true, eqb-false}
use Rattle.lists.proofs.Tests.{either, picked}
use Rattle.lists.specs.Tests.{first}
use Rattle.keys.specs.Keys.{idx, version}
use Rattle.rules.specs.declared.Rule.{Rule}
use Rattle.rules.specs.Rules.{keeps_of}
use Rattle.table.specs.Table.{Table, link, key, val, has_shape, is_live, is_held, last, last_idx, freed_head, freed, filled, left}
use Rattle.table.specs.Calls.{Out, remove, drain}
use Rattle.table.specs.Sweeps.{retaining, retain, clearing, clear}
use Rattle.table.specs.Refused.{leave_tests, drain_tests, sweep_tests}
use Rattle.table.specs.Frames.{SameSlot, SamePlace, SameLengths, Unlisted}
use Rattle.table.proofs.Refused.{ruled_either, remove-ruled, drain-ruled, retain-ruled, clear-ruled}
use Rattle.table.proofs.Places.{first-none, held}
use Rattle.table.proofs.Frames.{freed-slot, left_either, left-place, frame_remove-slot, frame_remove_lengths, frame_drain-place, frame_drain_lengths}

-- ---- a sweep, by its steps

module _ (P : Table → Type 0) where
  -- each step drains
  module _ (step : (u : Table) → P u → P (drain u).1) where
    clearing_keeps : (m : ℕ) (u : Table) → P u → P (clearing m u)
    unfolding clearing
    clearing_keeps zero u h = h
    clearing_keeps (suc m) u h = clearing_keeps m (drain u).1 (step u h)

    clear-keeps : (t : Table) → P t → P (clear t).1
    clear-keeps t h = ruled_either P t _ (first (sweep_tests t)) _ (clear-ruled t) h (λ _. clearing_keeps t.head.n t h)

  -- each step passes an element, or removes a listed key
  module _ (step : (u : Table) (p : ℕ) → p < u.head.n → P u → P (remove u (key u p)).1) where
    retaining-keeps : (keeps : ℕ → ℕ → Bool) (m p : ℕ) (u : Table) → P u → P (retaining keeps m p u)
    unfolding retaining
    retaining-keeps keeps zero p u h = h
    retaining-keeps keeps (suc m) p u h =
        picked P (ltb p u.head.n) _ _
        (λ e. either P (keeps (idx (key u p)) (val u p)) _ _
        (retaining-keeps keeps m (p + 1) u h)
        (retaining-keeps keeps m p (remove u (key u p)).1 (step u p (ltb-true p u.head.n e) h)))
        (λ _. h)

    retain-keeps : (t : Table) (rule : Rule) → P t → P (retain t rule).1
    retain-keeps t rule h =
        ruled_either P t _ (first (sweep_tests t)) _ (retain-ruled t rule) h (λ _. retaining-keeps (keeps_of rule) t.head.n 0 t h)

-- ---- a drain step

-- nothing is drained, or there is a last element and its slot is freed
drained_either : (P : Table → Type 0) (t : Table) → P t
    → (0 < t.head.n → P (freed t (last_idx t) t.head.f (freed_head t.head (last_idx t)))) → P (drain t).1
drained_either P t same p =
    ruled_either P t _ (first (drain_tests t)) _ (drain-ruled t) same
    (λ _. picked (λ (o : Out). P o.1) (eqb t.head.n 0) _ _ (λ _. same) (λ e. p (omega (arith, eqb-false t.head.n 0 e))))

-- the slot freed is a listed key's, and no key is listed that was not
module _ (t : Table) (i : ℕ) (out : Unlisted t i) where
  drain-slot : SameSlot t (drain t).1 i
  drain-slot =
      drained_either (λ (u : Table). SameSlot t u i) t (refl, refl)
      (λ l. freed-slot t (last_idx t) t.head.f _ i (λ e. out (last t) (omega arith) (sym e)))

  drain-unlisted : Unlisted (drain t).1 i
  unfolding freed
  drain-unlisted = drained_either (λ (u : Table). Unlisted u i) t out (λ _ p l. out p (omega arith))

-- ---- a removal

-- a place of a list after a store holds what is stored, or what it held
stored_either : (P : ℕ → Type 0) (l : List ℕ) (i j a : ℕ) → P a → P (get_or l j 0) → P (get_or (set l i a) j 0)
stored_either P [] i j a p q = q
stored_either P (x ∷ l) zero zero a p q = p
stored_either P (x ∷ l) zero (suc j) a p q = q
stored_either P (x ∷ l) (suc i) zero a p q = q
stored_either P (x ∷ l) (suc i) (suc j) a p q = stored_either P l i j a p q

module _ (t : Table) (k : ℕ) where
  -- nothing is removed, or the key's place is below n and its element leaves
  removed_either : (P : Table → Type 0) → P t
      → (link t (idx k) < t.head.n → P (left t (idx k) t.head.f (freed_head t.head (idx k)))) → P (remove t k).1
  removed_either P same p =
      ruled_either P t _ (first (leave_tests t k)) _ (remove-ruled t k) same
      (λ all.
      let a = first-none (has_shape t) _ _ all in
      let b = first-none (is_live t (idx k) (version k)) _ _ a.1 in
      p (held t k (first-none (is_held t (idx k) (version k)) _ _ b.1).0).0)

  remove-count : (remove t k).1.head.n ≤ t.head.n
  unfolding freed filled
  remove-count =
      let fewer : Table → Type 0 = λ u. u.head.n ≤ t.head.n in
      removed_either fewer (omega arith) (λ _. left_either t (idx k) _ _ fewer (omega arith) (omega arith))

  -- a place's key is the one it had, or the last one
  remove-unlisted : (i : ℕ) → Unlisted t i → Unlisted (remove t k).1 i
  unfolding freed filled
  remove-unlisted i out =
      let out_of : Table → Type 0 = λ u. Unlisted u i in
      removed_either out_of out
      (λ _. left_either t (idx k) _ _ out_of
      (λ p l. out p (omega arith))
      (λ p l. stored_either (λ (j : ℕ). idx j ≢ i) t.keys (link t (idx k)) p (key t (last t)) (out (last t) (omega arith)) (out p (omega arith))))

  -- the place written is below n
  remove_past : (p : ℕ) → t.head.n ≤ p → SamePlace t (remove t k).1 p
  remove_past p h = removed_either (λ (u : Table). SamePlace t u p) (refl, refl) (λ l. left-place t (idx k) _ _ p (λ e. omega arith))

-- ---- clear: the header and the slots of the listed keys

pub frame_clear-slot : (t : Table) (i : ℕ) → Unlisted t i → SameSlot t (clear t).1 i
frame_clear-slot t i out =
    (clear-keeps (λ (u : Table). SameSlot t u i × Unlisted u i)
    (λ u h. let s = drain-slot u i h.1 in ((s.0 ∙ h.0.0, s.1 ∙ h.0.1), drain-unlisted u i h.1))
    t ((refl, refl), out)).0

pub frame_clear-place : (t : Table) (p : ℕ) → SamePlace t (clear t).1 p
frame_clear-place t p =
    clear-keeps (λ (u : Table). SamePlace t u p)
    (λ u h. let s = frame_drain-place u p in (s.0 ∙ h.0, s.1 ∙ h.1))
    t (refl, refl)

pub frame_clear_lengths : (t : Table) → SameLengths t (clear t).1
frame_clear_lengths t =
    clear-keeps (SameLengths t)
    (λ u h. let s = frame_drain_lengths u in (s.0 ∙ h.0, s.1 ∙ h.1, s.2 ∙ h.2, s.3 ∙ h.3))
    t (refl, refl, refl, refl)

-- ---- retain: the header, the slots of the listed keys, and places below n

pub frame_retain-slot : (t : Table) (rule : Rule) (i : ℕ) → Unlisted t i → SameSlot t (retain t rule).1 i
frame_retain-slot t rule i out =
    (retain-keeps (λ (u : Table). SameSlot t u i × Unlisted u i)
    (λ u p l h.
    let s = frame_remove-slot u (key u p) i (λ e. h.1 p l (sym e)) in
    let moved = s.1 (λ e. h.1 (last u) (omega arith) (sym e)) in
    ((s.0 ∙ h.0.0, moved ∙ h.0.1), remove-unlisted u (key u p) i h.1))
    t rule ((refl, refl), out)).0

pub frame_retain-place : (t : Table) (rule : Rule) (p : ℕ) → t.head.n ≤ p → SamePlace t (retain t rule).1 p
frame_retain-place t rule p h =
    (retain-keeps (λ (u : Table). SamePlace t u p × (u.head.n ≤ p))
    (λ u q l w.
    let s = remove_past u (key u q) p w.1 in
    ((s.0 ∙ w.0.0, s.1 ∙ w.0.1), omega (arith, remove-count u (key u q), w.1)))
    t rule ((refl, refl), h)).0

pub frame_retain_lengths : (t : Table) (rule : Rule) → SameLengths t (retain t rule).1
frame_retain_lengths t rule =
    retain-keeps (SameLengths t)
    (λ u p l h. let s = frame_remove_lengths u (key u p) in (s.0 ∙ h.0, s.1 ∙ h.1, s.2 ∙ h.2, s.3 ∙ h.3))
    t rule (refl, refl, refl, refl)
