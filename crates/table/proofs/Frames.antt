-- Theorem F, for any table: a call changes only the header, the slots and the places that the rules name. One law for each way to
-- write (a value, an element that enters, a slot that is freed, an element that leaves), and each call cites it. Assumes nothing.
use mathlib.Core.Path.{◌≡◌, refl, ap, ◌∙◌, subst}
use mathlib.Core.Logic.{◌≢◌}
use mathlib.Core.Bool.{true}
use mathlib.Core.List.{List}
use Prim.Native.Nat.{ℕ, ◌≤◌}
use native.Mathlib.Omega.{arith}
use lib.Dec.{ltb, eqb}
use lib.ListN.{length, get_or, length-set}
use lib.Seq.{get_or-set_other}
use borrow.Author.Tests.{ltb-false}
use Rattle.lists.proofs.Tests.{split, either, parts}
use Rattle.keys.specs.Keys.{idx}
use Rattle.table.specs.declared.Header.{Header}
use Rattle.table.specs.Table.{Table, ver, link, key, val, last, last_idx, lengths_fit, has_shape, grown_head, with_value, entered, freed, filled, left}
use Rattle.table.specs.Calls.{Out, fresh, lookup, put, inserted, insert, remove, detach, reattach, drain}
use Rattle.lists.specs.Tests.{first}
use Rattle.table.specs.Refused.{place_tests, leave_tests, slot_tests, insert_tests, reattach_tests, drain_tests, issues}
use Rattle.table.specs.Frames.{SameSlot, SameUnlessMoved, SamePlace, SameLengths}
use Rattle.table.proofs.Refused.{first_holds, ruled_either, lookup-ruled, put-ruled, insert-ruled, remove-ruled, detach-ruled, reattach-ruled, drain-ruled}

-- ---- the ways to write

module _ (t : Table) (p x : ℕ) where
  value-slot : (i : ℕ) → SameSlot t (with_value t p x) i
  unfolding with_value
  value-slot i = (refl, refl)

  value-key : (q : ℕ) → key (with_value t p x) q ≡ key t q
  unfolding with_value
  value-key q = refl

  pub value_off : (q : ℕ) → q ≢ p → val (with_value t p x) q ≡ val t q
  unfolding with_value
  value_off q ne = get_or-set_other t.values p q x 0 ne

  value_lengths : SameLengths t (with_value t p x)
  unfolding with_value
  value_lengths = (refl, refl, refl, length-set t.values p x)

  value-head : (with_value t p x).head ≡ t.head
  unfolding with_value
  value-head = refl

module _ (t : Table) (i v k x : ℕ) (head' : Header) where
  entered-slot : (j : ℕ) → j ≢ i → SameSlot t (entered t i v k x head') j
  unfolding entered
  entered-slot j ne = (get_or-set_other t.versions i j v 0 ne, get_or-set_other t.links i j t.head.n 0 ne)

  entered-place : (p : ℕ) → p ≢ t.head.n → SamePlace t (entered t i v k x head') p
  unfolding entered
  entered-place p ne = (get_or-set_other t.keys t.head.n p k 0 ne, get_or-set_other t.values t.head.n p x 0 ne)

  entered_lengths : SameLengths t (entered t i v k x head')
  unfolding entered
  entered_lengths = (length-set t.versions i v, length-set t.links i t.head.n, length-set t.keys t.head.n k, length-set t.values t.head.n x)

module _ (t : Table) (i l : ℕ) (head' : Header) where
  pub freed-slot : (j : ℕ) → j ≢ i → SameSlot t (freed t i l head') j
  unfolding freed
  freed-slot j ne = (get_or-set_other t.versions i j _ 0 ne, get_or-set_other t.links i j l 0 ne)

  freed-place : (p : ℕ) → SamePlace t (freed t i l head') p
  unfolding freed
  freed-place p = (refl, refl)

  freed_lengths : SameLengths t (freed t i l head')
  unfolding freed
  freed_lengths = (length-set t.versions i _, length-set t.links i l, refl, refl)

module _ (u : Table) (p q : ℕ) where
  pub filled-version : (j : ℕ) → ver (filled u p q) j ≡ ver u j
  unfolding filled
  filled-version j = refl

  filled-link : (j : ℕ) → j ≢ idx (key u q) → link (filled u p q) j ≡ link u j
  unfolding filled
  filled-link j ne = get_or-set_other u.links (idx (key u q)) j _ 0 ne

  filled-place : (r : ℕ) → r ≢ p → SamePlace u (filled u p q) r
  unfolding filled
  filled-place r ne = (get_or-set_other u.keys p r _ 0 ne, get_or-set_other u.values p r _ 0 ne)

  filled_lengths : SameLengths u (filled u p q)
  unfolding filled
  filled_lengths = (refl, length-set u.links _ _, length-set u.keys p _, length-set u.values p _)

module _ (t : Table) (i l : ℕ) (head' : Header) where
  -- an element leaves a freed slot, and perhaps the last one is moved
  pub left_either : (P : Table → Type 0) → P (freed t i l head') → P (filled (freed t i l head') (link t i) (last t)) → P (left t i l head')
  unfolding left
  left_either P = either P (eqb (link t i) (last t)) (freed t i l head') (filled (freed t i l head') (link t i) (last t))

  pub left-slot : (j : ℕ) → j ≢ i → SameUnlessMoved t (left t i l head') j
  left-slot j ne =
      let s = freed-slot t i l head' j ne in
      let moved = (freed-place t i l head' (last t)).0 in
      left_either (λ (u : Table). SameUnlessMoved t u j)
      (s.0, λ _. s.1)
      (filled-version (freed t i l head') (link t i) (last t) j ∙ s.0, λ nl. filled-link (freed t i l head') (link t i) (last t) j (λ e. nl (e ∙ ap idx moved)) ∙ s.1)

  pub left-place : (p : ℕ) → p ≢ link t i → SamePlace t (left t i l head') p
  left-place p ne =
      let s = freed-place t i l head' p in
      let f = filled-place (freed t i l head') (link t i) (last t) p ne in
      left_either (λ (u : Table). SamePlace t u p) s (f.0 ∙ s.0, f.1 ∙ s.1)

  pub left_lengths : SameLengths t (left t i l head')
  left_lengths =
      let s = freed_lengths t i l head' in
      let f = filled_lengths (freed t i l head') (link t i) (last t) in
      left_either (SameLengths t) s (f.0 ∙ s.0, f.1 ∙ s.1, f.2 ∙ s.2, f.3 ∙ s.3)

-- ---- refused or accepted

head-high : (t : Table) → has_shape t ≡ true → t.head.f ≤ t.head.s
unfolding has_shape
head-high t e = search parts

same-slot : (t : Table) (i : ℕ) → SameSlot t t i
same-slot t i = (refl, refl)

same_place : (t : Table) (p : ℕ) → SamePlace t t p
same_place t p = (refl, refl)

same_lengths : (t : Table) → SameLengths t t
same_lengths t = (refl, refl, refl, refl)

module _ (P : Table → Type 0) (t : Table) (same : P t) where
  put_either : (k x : ℕ) → P (with_value t (link t (idx k)) x) → P (put t k x).1
  put_either k x p = ruled_either P t _ (first (place_tests t k)) _ (put-ruled t k x) same (λ _. p)

  remove_either : (k : ℕ) → ((l : ℕ) (head' : Header) → P (left t (idx k) l head')) → P (remove t k).1
  remove_either k p = ruled_either P t _ (first (leave_tests t k)) _ (remove-ruled t k) same (λ _. p _ _)

  detach_either : (k : ℕ) → ((l : ℕ) (head' : Header) → P (left t (idx k) l head')) → P (detach t k).1
  detach_either k p = ruled_either P t _ (first (leave_tests t k)) _ (detach-ruled t k) same (λ _. p _ _)

  reattach_either : (k x : ℕ) → ((v j : ℕ) (head' : Header) → P (entered t (idx k) v j x head')) → P (reattach t k x).1
  reattach_either k x p = ruled_either P t _ (first (reattach_tests t k)) _ (reattach-ruled t k x) same (λ _. p _ _ _)

  drain_either : ((l : ℕ) (head' : Header) → P (freed t (last_idx t) l head')) → P (drain t).1
  drain_either p = ruled_either P t _ (first (drain_tests t)) _ (drain-ruled t) same (λ _. either (λ (o : Out). P o.1) (eqb t.head.n 0) _ _ same (p _ _))

  -- the slot of the free head takes the element: where that is s, the slot is new
  inserted_either : has_shape t ≡ true → (k x : ℕ) → ((v : ℕ) (head' : Header) → P (entered t t.head.f v k x head')) → P (inserted t k x)
  unfolding inserted
  inserted_either h k x p =
      split (ltb t.head.f t.head.s)
      (λ e. rw e (p _ _))
      (λ e.
      let new : t.head.f ≡ t.head.s = omega (arith, ltb-false t.head.f t.head.s e, head-high t h) in
      rw e (subst (λ (i : ℕ). P (entered t i 1 k x (grown_head t.head))) new (p 1 (grown_head t.head))))

  insert_either : (x : ℕ) → ((v k : ℕ) (head' : Header) → P (entered t t.head.f v k x head')) → P (insert t x).1
  insert_either x p =
      ruled_either P t _ (first (insert_tests t)) _ (insert-ruled t x) same
      (λ e. inserted_either (first_holds (has_shape t) 1 (slot_tests t) e) (issues t) x (λ v h. p v (issues t) h))

-- ---- fresh: slot 0 only

module _ (vs ls ks xs : List ℕ) where
  pub frame_fresh-slot : (i : ℕ) → i ≢ 0 → (get_or (fresh vs ls ks xs).1.0 i 0 ≡ get_or vs i 0) × (get_or (fresh vs ls ks xs).1.1 i 0 ≡ get_or ls i 0)
  unfolding fresh
  frame_fresh-slot i ne = split (lengths_fit vs ls ks xs) (λ e. rw e (get_or-set_other vs 0 i _ 0 ne, get_or-set_other ls 0 i _ 0 ne)) (λ e. rw e (refl, refl))

  pub frame_fresh_lengths : (length (fresh vs ls ks xs).1.0 ≡ length vs) × (length (fresh vs ls ks xs).1.1 ≡ length ls)
  unfolding fresh
  frame_fresh_lengths = split (lengths_fit vs ls ks xs) (λ e. rw e (length-set vs 0 _, length-set ls 0 _)) (λ e. rw e (refl, refl))

module _ (t : Table) where
  -- ---- lookup: nothing

  pub frame_lookup : (k : ℕ) → (lookup t k).1 ≡ t
  frame_lookup k = ruled_either (λ (u : Table). u ≡ t) t _ (first (place_tests t k)) _ (lookup-ruled t k) refl (λ _. refl)

  -- ---- put: one value

  pub frame_put-slot : (k x i : ℕ) → SameSlot t (put t k x).1 i
  frame_put-slot k x i = put_either (λ (u : Table). SameSlot t u i) t (same-slot t i) k x (value-slot t (link t (idx k)) x i)

  pub frame_put-key : (k x q : ℕ) → key (put t k x).1 q ≡ key t q
  frame_put-key k x q = put_either (λ (u : Table). key u q ≡ key t q) t refl k x (value-key t (link t (idx k)) x q)

  pub frame_put-place : (k x q : ℕ) → q ≢ link t (idx k) → SamePlace t (put t k x).1 q
  frame_put-place k x q ne = put_either (λ (u : Table). SamePlace t u q) t (same_place t q) k x (value-key t (link t (idx k)) x q, value_off t (link t (idx k)) x q ne)

  pub frame_put-head : (k x : ℕ) → (put t k x).1.head ≡ t.head
  frame_put-head k x = put_either (λ (u : Table). u.head ≡ t.head) t refl k x (value-head t (link t (idx k)) x)

  pub frame_put_lengths : (k x : ℕ) → SameLengths t (put t k x).1
  frame_put_lengths k x = put_either (SameLengths t) t (same_lengths t) k x (value_lengths t (link t (idx k)) x)

  -- ---- insert: the header, the slot of the free head, and place n

  pub frame_insert-slot : (x i : ℕ) → i ≢ t.head.f → SameSlot t (insert t x).1 i
  frame_insert-slot x i ne = insert_either (λ (u : Table). SameSlot t u i) t (same-slot t i) x (λ v k h. entered-slot t t.head.f v k x h i ne)

  pub frame_insert-place : (x p : ℕ) → p ≢ t.head.n → SamePlace t (insert t x).1 p
  frame_insert-place x p ne = insert_either (λ (u : Table). SamePlace t u p) t (same_place t p) x (λ v k h. entered-place t t.head.f v k x h p ne)

  pub frame_insert_lengths : (x : ℕ) → SameLengths t (insert t x).1
  frame_insert_lengths x = insert_either (SameLengths t) t (same_lengths t) x (λ v k h. entered_lengths t t.head.f v k x h)

  -- ---- remove and detach: the header, the key's slot, the moved key's link, and the key's place

  pub frame_remove-slot : (k i : ℕ) → i ≢ idx k → SameUnlessMoved t (remove t k).1 i
  frame_remove-slot k i ne = remove_either (λ (u : Table). SameUnlessMoved t u i) t (refl, λ _. refl) k (λ l h. left-slot t (idx k) l h i ne)

  pub frame_remove-place : (k p : ℕ) → p ≢ link t (idx k) → SamePlace t (remove t k).1 p
  frame_remove-place k p ne = remove_either (λ (u : Table). SamePlace t u p) t (same_place t p) k (λ l h. left-place t (idx k) l h p ne)

  pub frame_remove_lengths : (k : ℕ) → SameLengths t (remove t k).1
  frame_remove_lengths k = remove_either (SameLengths t) t (same_lengths t) k (left_lengths t (idx k))

  pub frame_detach-slot : (k i : ℕ) → i ≢ idx k → SameUnlessMoved t (detach t k).1 i
  frame_detach-slot k i ne = detach_either (λ (u : Table). SameUnlessMoved t u i) t (refl, λ _. refl) k (λ l h. left-slot t (idx k) l h i ne)

  pub frame_detach-place : (k p : ℕ) → p ≢ link t (idx k) → SamePlace t (detach t k).1 p
  frame_detach-place k p ne = detach_either (λ (u : Table). SamePlace t u p) t (same_place t p) k (λ l h. left-place t (idx k) l h p ne)

  pub frame_detach_lengths : (k : ℕ) → SameLengths t (detach t k).1
  frame_detach_lengths k = detach_either (SameLengths t) t (same_lengths t) k (left_lengths t (idx k))

  -- ---- reattach: the header, the key's slot, and place n

  pub frame_reattach-slot : (k x i : ℕ) → i ≢ idx k → SameSlot t (reattach t k x).1 i
  frame_reattach-slot k x i ne = reattach_either (λ (u : Table). SameSlot t u i) t (same-slot t i) k x (λ v j h. entered-slot t (idx k) v j x h i ne)

  pub frame_reattach-place : (k x p : ℕ) → p ≢ t.head.n → SamePlace t (reattach t k x).1 p
  frame_reattach-place k x p ne = reattach_either (λ (u : Table). SamePlace t u p) t (same_place t p) k x (λ v j h. entered-place t (idx k) v j x h p ne)

  pub frame_reattach_lengths : (k x : ℕ) → SameLengths t (reattach t k x).1
  frame_reattach_lengths k x = reattach_either (SameLengths t) t (same_lengths t) k x (λ v j h. entered_lengths t (idx k) v j x h)

  -- ---- a drain step: the header and the last key's slot

  pub frame_drain-slot : (i : ℕ) → i ≢ last_idx t → SameSlot t (drain t).1 i
  frame_drain-slot i ne = drain_either (λ (u : Table). SameSlot t u i) t (same-slot t i) (λ l h. freed-slot t (last_idx t) l h i ne)

  pub frame_drain-place : (p : ℕ) → SamePlace t (drain t).1 p
  frame_drain-place p = drain_either (λ (u : Table). SamePlace t u p) t (same_place t p) (λ l h. freed-place t (last_idx t) l h p)

  pub frame_drain_lengths : SameLengths t (drain t).1
  frame_drain_lengths = drain_either (SameLengths t) t (same_lengths t) (λ l h. freed_lengths t (last_idx t) l h)
