-- What the stores of a call leave, from the tests on the way. Assumes nothing.
use mathlib.Core.Path.{◌≡◌, refl, sym, ◌∙◌}
use mathlib.Core.Logic.{◌≢◌}
use mathlib.Core.Bool.{Bool, true, false, cond}
use mathlib.Core.List.{List}
use Prim.Native.Nat.{ℕ, ◌≤◌, ◌<◌}
use native.Mathlib.Omega.{arith}
use lib.ListN.{set}
use borrow.Author.Tests.{eq-eqb, ne_eqb}
use Rattle.keys.specs.Keys.{as_read, up, down, odd}
use Rattle.lists.proofs.Tests.{tests}
use Rattle.table.specs.declared.Header.{Header}
use Rattle.table.specs.Table.{Table, ver, link, key, val, has_shape, last, last_idx, last_is_held, freed_head, taken_head, grown_head, rejoined_head, entered, freed, filled, left}
use Rattle.table.specs.Calls.{Out, found, fails, said_pair, said_done, refused, inserted, berth, reattach, drain}
use Rattle.table.proofs.Judged.{passed, went, found-same, Due, due}

-- ---- insert

pub insert_free : (t : Table) (k x v : ℕ) → t.head.f < t.head.s → v ≡ odd (ver t t.head.f) → entered t t.head.f v k x (taken_head t.head (link t t.head.f)) ≡ inserted t k x
unfolding inserted
insert_free t k x v h e = simp (tests, e)

pub insert-grown : (t : Table) (k x : ℕ) → t.head.s ≤ t.head.f → entered t t.head.s 1 k x (grown_head t.head) ≡ inserted t k x
unfolding inserted
insert-grown t k x h = simp tests

-- ---- an element leaves: the slot's lists after free_slot are vs and ls, and p is the link that it had

module _ (t : Table) (i l p : ℕ) (g : Header) (vs ls : List ℕ) (place : p ≡ link t i) (versions : vs ≡ set t.versions i (up (ver t i))) (links : ls ≡ set t.links i l) where
  pub left-last : p ≡ last t → record { versions = vs; links = ls; keys = t.keys; values = t.values; head = g } ≡ left t i l g
  unfolding left freed
  left-last e = rw (eq-eqb (link t i) (last t) (sym place ∙ e), versions, links)

  pub left-moved : p ≢ last t → (j : ℕ) → j ≡ last_idx t
      → record {
        versions = vs;
        links = set ls j p;
        keys = set t.keys p (key t (last t));
        values = set t.values p (val t (last t));
        head = g;
      } ≡ left t i l g
  unfolding left freed filled
  left-moved ne j e = rw (ne_eqb (link t i) (last t) (λ q. ne (place ∙ q)), versions, links, place, e)

-- ---- reattach

pub reattach-found : (t : Table) (k x i j : ℕ) (u : Table) → berth t k ≡ found i → j ≡ as_read k → u ≡ entered t i (down (ver t i)) j x (rejoined_head t.head) → (said_done, u) ≡ reattach t k x
unfolding reattach
reattach-found t k x i j u e q f = rw (e, f, q)

-- ---- drain step

pub due_at : (t : Table) (i : ℕ) → cond (last_is_held t) (found (last_idx t)) (fails 5) ≡ found i → (last_idx t ≡ i) × Due t
due_at t i e = (found-same _ _ (went (last_is_held t) _ 5 i e), due t (passed (last_is_held t) _ 5 i e))

barred : (b : Bool) (j r : ℕ) → fails r ≡ cond b (found j) (fails 5) → (b ≡ false) × (r ≡ 5)
barred true j r e = absurd (let z : ◌≡◌ {A = ℕ} 0 1 = cc in omega arith)
barred false j r e = (refl, cc)

module _ (t : Table) (sh : has_shape t ≡ true) where
  pub drain-done : t.head.n ≡ 0 → (said_done, t) ≡ drain t
  unfolding drain
  drain-done e = rw (sh, eq-eqb t.head.n 0 e)

  pub drain_damaged : t.head.n ≢ 0 → (r : ℕ) → fails r ≡ cond (last_is_held t) (found (last_idx t)) (fails 5) → (refused r, t) ≡ drain t
  unfolding drain
  drain_damaged ne r e = let b = barred (last_is_held t) _ r e in rw (sh, ne_eqb t.head.n 0 ne, b.0, b.1)

  pub drain-took : t.head.n ≢ 0 → (i : ℕ) → cond (last_is_held t) (found (last_idx t)) (fails 5) ≡ found i → (vs ls : List ℕ)
      → vs ≡ set t.versions i (up (ver t i)) → ls ≡ set t.links i t.head.f
      → ◌≡◌ {A = Out}
      (said_pair (key t (last t)) (val t (last t)), record { versions = vs; links = ls; keys = t.keys; values = t.values; head = freed_head t.head i })
      (drain t)
  unfolding drain freed
  drain-took ne i e vs ls v l =
      rw (sh, ne_eqb t.head.n 0 ne, passed (last_is_held t) _ 5 i e, v, l, sym (found-same _ _ (went (last_is_held t) _ 5 i e)))
