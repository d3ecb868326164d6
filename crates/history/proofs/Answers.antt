-- Theorem B, one call: what lookup finds and which keys are detached change as the call's reading says; and the key that an insert issues is new.
-- Assumes nothing.
use mathlib.Core.Path.{◌≡◌, refl, sym}
use mathlib.Core.Bool.{false}
use Prim.Native.Nat.{ℕ, ◌+◌, ◌%◌, ◌<◌}
use native.Mathlib.Omega.{arith}
use Rattle.keys.specs.Keys.{far, idx, pack, version, as_read}
use Rattle.keys.proofs.Keys.{version-odd, version_word, is_read, idx-read, read-pack}
use Rattle.rules.specs.Rules.{keeps_of}
use Rattle.table.specs.Table.{Table, ver, link, last}
use Rattle.table.specs.Calls.{refused, Out}
use Rattle.table.specs.Sound.{Sound}
use Rattle.table.specs.Steps.{Call, c_lookup, c_put, c_insert, c_remove, c_detach, c_reattach, c_drain, c_retain, c_clear, step}
use Rattle.history.specs.Reading.{nothing, change}
use Rattle.history.specs.Begins.{find, away}
use Rattle.history.proofs.Changes.{lives_after, detached_after}
use Rattle.table.proofs.Orderly.{Orderly, orderly}
use Rattle.table.proofs.Leave.{without-leaves, without-link, apart_leaves, apart_link}
use Rattle.table.proofs.Enter.{head_free, taken_widens, taken-enters, grown_widens, grown-enters, rejoined_widens, rejoined_enters}
use Rattle.table.proofs.Cases.{live-occupied, detached_vacant, stored-read}
use Rattle.table.proofs.Outcomes.{Outcome, outcome, refuses, looks, puts, takes, grows, removes, detaches, reattaches, drains, done, retains, clears}
use Rattle.table.proofs.Sieve.{retained, cleared}
use Rattle.history.proofs.Follows.{find_leave, away-freed, away_parted, find_enter, away-new, away-back, find-put, away-put, Sieves, sieves_same, find_dropped, away_dropped, sieves_drop}

-- ---- each call's own reading

-- a refused call says nothing of any key
pub change-refused : (c : Call) (r : ℕ) → change c (refused r) ≡ nothing
unfolding change
change-refused (c_lookup k) r = refl
change-refused (c_put k x) r = refl
change-refused (c_insert x) r = refl
change-refused (c_remove k) r = refl
change-refused (c_detach k) r = refl
change-refused (c_reattach k x) r = refl
change-refused c_drain r = refl
change-refused (c_retain rule) r = refl
change-refused c_clear r = refl

-- the outcome o of the call c does to the key k what its reading says
abbrev pub Follow : Table → Call → ℕ → Out → Type 0
Follow t c k o =
    (find o.1 k ≡ lives_after (change c o.0) (as_read k) (find t k))
    × (away o.1 k ≡ detached_after (change c o.0) (as_read k) (away t k))

module _ (t : Table) (a : Sound t) (k : ℕ) where
  o : Orderly t
  o = orderly t a

  read : (j : ℕ) → pack (idx j) (version j) ≡ as_read j
  read j = sym (is_read j (idx j) (version j) refl refl)

  free_far : t.head.f < t.head.s → t.head.f < t.head.s → link t t.head.f ≡ far → ⊥
  free_far h _ q = omega (arith, q, head_free t o h, o.shape)

  outcome_follows : (c : Call) (r : Out) → Outcome t c r → Follow t c k r
  unfolding change
  outcome_follows c r (refuses {r = n} e) = rw (change-refused c n) (refl, refl)
  outcome_follows c r (looks j l) = (refl, refl)
  outcome_follows c r (puts j x l) = (find-put t o j x l k, away-put t o j x l k)
  outcome_follows c r (takes x h) =
      let e = head_free t o h in
      let od : (ver t t.head.f + 1) % 2 ≡ 1 = omega (arith, e.vacant.even) in
      rw (read-pack t.head.f (ver t t.head.f + 1) (omega (arith, o.shape)) (omega (arith, e.vacant.even, a.words t.head.f h)) od) (
        find_enter t _ o _ _ x od (taken_widens t o x h) (taken-enters t o x h) k,
        away-new t _ o _ _ x od (taken_widens t o x h) (taken-enters t o x h) k (free_far h),
      )
  outcome_follows c r (grows x h p) =
      rw (read-pack t.head.s 1 (omega (arith, o.shape)) (omega arith) refl) (
        find_enter t _ o _ 1 x refl (grown_widens t o x h p) (grown-enters t o x h p) k,
        away-new t _ o _ 1 x refl (grown_widens t o x h p) (grown-enters t o x h p) k (λ l. absurd (omega (arith, l))),
      )
  outcome_follows c r (removes j l) =
      let oj = live-occupied t a j l in
      rw (← read j) (find_leave t _ o (idx j) (version j) oj l.same (without-leaves t o _ oj) k, away-freed t _ o (idx j) (version j) oj l.same (without-leaves t o _ oj) k (without-link t o _ oj))
  outcome_follows c r (detaches j l) =
      let oj = live-occupied t a j l in
      rw (← read j) (find_leave t _ o (idx j) (version j) oj l.same (apart_leaves t o _ oj) k, away_parted t _ o (idx j) (version j) oj l.same (apart_leaves t o _ oj) k (apart_link t o _ oj) (version_word j))
  outcome_follows c r (reattaches j x d) =
      let v = detached_vacant t a j d in
      rw (← read j) (
        find_enter t _ o (idx j) (version j) x (version-odd j) (rejoined_widens t o _ _ x v d.away) (rejoined_enters t o _ _ x v d.away) k,
        away-back t _ o (idx j) (version j) x (version-odd j) (rejoined_widens t o _ _ x v d.away) (rejoined_enters t o _ _ x v d.away) k (version_word j) d.same,
      )
  outcome_follows c r (drains h) =
      rw (stored-read t a (last t) (omega arith)) (find_dropped t a (last t) (omega arith) k, away_dropped t a (last t) (omega arith) k)
  outcome_follows c r (done h) = (refl, refl)
  outcome_follows c r (retains rule) =
      rw idx-read (retained (keeps_of rule) (Sieves (keeps_of rule)) (sieves_same (keeps_of rule)) (sieves_drop (keeps_of rule)) t a k)
  outcome_follows c r clears =
      rw idx-read (cleared (Sieves (λ i x. false)) (λ u b z. sieves_same (λ i x. false) u b (λ q l. absurd (omega arith))) (λ u w p b l. sieves_drop (λ i x. false) u w p b l refl) t a k)

  pub step_follows : (c : Call) → Follow t c k (step t c)
  step_follows c = outcome_follows c (step t c) (outcome t a c)
