-- Theorem G on a sound table: no call answers 5. Assumes nothing.
use mathlib.Core.Path.{◌≡◌, refl, ap, ◌∙◌}
use mathlib.Core.Logic.{◌≢◌}
use mathlib.Core.List.{List, [], ◌∷◌}
use Prim.Native.Nat.{ℕ}
use native.Mathlib.Omega.{arith}
use lib.Dec.{leb}
use lib.ListN.{length}
use Rattle.lists.specs.Among.{among}
use Rattle.lists.proofs.Tests.{split}
use Rattle.keys.specs.Keys.{idx, version, as_read}
use Rattle.table.specs.Table.{Table, is_live, dead}
use Rattle.table.specs.Calls.{Said, said_key, said_value, said_pair, said_done, said_count, said_truth, refused, Out, Judged, found, fails, place_in, place, next_key}
use Rattle.table.specs.Sound.{Sound}
use Rattle.table.specs.Sweeps.{Places, places, bars, placed, places_of, given, disjoint}
use Rattle.table.specs.Steps.{Call, c_insert, step}
use Rattle.table.proofs.Judged.{live}
use Rattle.table.proofs.Refused.{insert-next-key}
use Rattle.table.proofs.Cases.{place_in_live, place_in_dead}
use Rattle.table.proofs.Outcomes.{Refusal, dead-lookup, dead-put, dead-remove, dead-detach, not_away, full, Outcome, outcome, refuses, looks, puts, takes, grows, removes, detaches, reattaches, drains, done, retains, clears}

-- the refusal of a dead key is another number
dead_not : (t : Table) (i v : ℕ) → dead t i v ≢ 5
unfolding dead
dead_not t i v e = omega (arith, e)

refusal_not : (t : Table) (c : Call) (r : ℕ) → Refusal t c r → r ≢ 5
refusal_not t c r (dead-lookup k e) = dead_not t _ _
refusal_not t c r (dead-put k x e) = dead_not t _ _
refusal_not t c r (dead-remove k e) = dead_not t _ _
refusal_not t c r (dead-detach k e) = dead_not t _ _
refusal_not t c r (not_away k x e) = λ q. omega (arith, q)
refusal_not t c r (full x e p) = λ q. omega (arith, q)

-- the number of a refusal, and 0 for every other answer
abbrev number : Said → ℕ
number (said_key k) = 0
number (said_value v) = 0
number (said_pair k v) = 0
number said_done = 0
number (said_count m) = 0
number (said_truth b) = 0
number (refused r) = r

outcome_not : (t : Table) (c : Call) (o : Out) → Outcome t c o → number o.0 ≢ 5
outcome_not t c o (refuses {r = n} e) = refusal_not t c n e
outcome_not t c o (looks k l) = λ q. omega (arith, q)
outcome_not t c o (puts k x l) = λ q. omega (arith, q)
outcome_not t c o (takes x h) = λ q. omega (arith, q)
outcome_not t c o (grows x h e) = λ q. omega (arith, q)
outcome_not t c o (removes k l) = λ q. omega (arith, q)
outcome_not t c o (detaches k l) = λ q. omega (arith, q)
outcome_not t c o (reattaches k x d) = λ q. omega (arith, q)
outcome_not t c o (drains h) = λ q. omega (arith, q)
outcome_not t c o (done h) = λ q. omega (arith, q)
outcome_not t c o (retains rule) = λ q. omega (arith, q)
outcome_not t c o clears = λ q. omega (arith, q)

module _ (t : Table) (a : Sound t) where
  pub no_damage : (c : Call) → (step t c).0 ≡ refused 5 → ⊥
  no_damage c e = outcome_not t c (step t c) (outcome t a c) (ap number e)

  pub next_no_damage : next_key t ≡ refused 5 → ⊥
  unfolding step
  next_no_damage e = no_damage (c_insert 0) (insert-next-key t 0 ∙ e)

  -- ---- place, and so disjoint

  barred : Places → ℕ
  barred (places ps) = 0
  barred (bars r) = r

  placed_not : (j : Judged) (ps : Places) → ((r : ℕ) → j ≡ fails r → r ≢ 5) → barred ps ≢ 5 → barred (placed j ps) ≢ 5
  unfolding barred
  placed_not (found p) (places ps) f h = h
  placed_not (found p) (bars r) f h = h
  placed_not (fails r) ps f h = f r refl

  place_not : (k r : ℕ) → place_in t (idx k) (version k) ≡ fails r → r ≢ 5
  place_not k r e =
      split (is_live t (idx k) (version k))
      (λ y.
      let f = place_in_live t a k (live t _ _ y) in
      let z : ◌≡◌ {A = ℕ} 0 1 = cc in
      absurd (omega arith))
      (λ n.
      let f = place_in_dead t a k n in
      let q : dead t (idx k) (version k) ≡ r = cc in
      λ x. dead_not t _ _ (q ∙ x))

  pub place_no_damage : (k : ℕ) → place t k ≡ fails 5 → ⊥
  unfolding place
  place_no_damage k e = place_not k 5 (rw a.shape at e) refl

  places_not : (ks earlier : List ℕ) → barred (places_of t earlier ks) ≢ 5
  unfolding barred places_of
  places_not [] earlier = λ q. omega (arith, q)
  places_not (k ∷ ks) earlier =
      split (among (as_read k) earlier)
      (λ y. rw y (λ q. omega (arith, q)))
      (λ n. rw n (placed_not _ _ (place_not k) (places_not ks (as_read k ∷ earlier))))

  given_not : (ps : Places) (ks out : List ℕ) → barred ps ≢ 5 → number (given ps ks out).0 ≢ 5
  unfolding barred
  given_not (places ps) ks out h = split (leb (length ks) (length out)) (λ y. rw y (λ q. omega (arith, q))) (λ n. rw n (λ q. omega (arith, q)))
  given_not (bars r) ks out h = h

  pub disjoint_no_damage : (ks out : List ℕ) → (disjoint t ks out).0 ≡ refused 5 → ⊥
  unfolding disjoint
  disjoint_no_damage ks out e =
      let f : (given (places_of t [] ks) ks out).0 ≡ refused 5 = rw a.shape at e in
      given_not (places_of t [] ks) ks out (places_not ks []) (ap number f)
