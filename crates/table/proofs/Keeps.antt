-- Theorem A: a fresh table is sound, and every call, accepted or refused, keeps a table sound; a drain after a clear is done. Assumes nothing.
use mathlib.Core.Path.{◌≡◌, refl, ap, ◌∙◌}
use mathlib.Core.Bool.{true}
use mathlib.Core.List.{List, [], ◌∷◌}
use Prim.Native.Nat.{ℕ}
use native.Mathlib.Omega.{arith}
use lib.ListN.{get_or, set, length-set}
use lib.Seq.{get_or-set_same}
use Rattle.keys.proofs.Keys.{version-odd, version_word}
use Rattle.rules.specs.declared.Rule.{Rule}
use Rattle.table.specs.declared.Header.{Header}
use Rattle.table.specs.Table.{Table, cap, last, lengths_fit, with_value}
use Rattle.table.specs.Calls.{Out, said_done, begins, fresh_head, fresh, fresh_table, put, insert, remove, detach, reattach, drain}
use Rattle.table.specs.Sound.{Sound}
use Rattle.table.specs.Sweeps.{retain, clear}
use Rattle.table.specs.Steps.{Call, c_put, c_insert, c_remove, c_detach, c_reattach, c_drain, c_retain, c_clear, step, after}
use Rattle.table.proofs.Shape.{lengths}
use Rattle.table.proofs.Refused.{fresh-begun}
use Rattle.table.proofs.Facts.{shape_like}
use Rattle.table.proofs.Chains.{chain_frame}
use Rattle.table.proofs.Orderly.{Orderly, home_by, orderly, sound}
use Rattle.table.proofs.Leave.{without-leaves, without_orderly, apart_leaves, apart_orderly}
use Rattle.table.proofs.Enter.{taken-enters, taken_orderly, grown-enters, grown_orderly, rejoined_enters, rejoined_orderly}
use Rattle.table.proofs.Cases.{live-occupied, detached_vacant, stored-occupied, drain-none, clear_is}
use Rattle.table.proofs.Sieve.{dropped_leaves, retained, cleared}
use Rattle.table.proofs.Outcomes.{Outcome, outcome, refuses, looks, puts, takes, grows, removes, detaches, reattaches, drains, done, retains, clears}

-- ---- fresh

abbrev blank_table : List ℕ → List ℕ → List ℕ → List ℕ → Table
blank_table vs ls ks xs = record { versions = set vs 0 0; links = set ls 0 0; keys = ks; values = xs; head = fresh_head }

sound-blank : (vs ls ks xs : List ℕ) → lengths_fit vs ls ks xs ≡ true → Sound (blank_table vs ls ks xs)
sound-blank vs ls ks xs fit =
    let h = lengths vs ls ks xs fit in
    let z : get_or (set vs 0 0) 0 0 ≡ 0 = get_or-set_same vs 0 0 0 (omega (arith, h)) in
    sound (blank_table vs ls ks xs) (record {
      shape =
          record {
            small = h.small;
            vlen = length-set vs _ _ ∙ h.vlen;
            llen = length-set ls _ _ ∙ h.llen;
            xlen = h.xlen;
            s_low = omega arith;
            s_high = omega arith;
            n_high = omega arith;
            f_low = omega arith;
            f_high = omega arith;
          };
      zero_ver = z;
      zero_link = get_or-set_same ls 0 0 0 (omega (arith, h));
      word = λ i l. let e : i ≡ 0 = omega arith in rw (e, z) (omega arith);
      home = λ p l. absurd (omega arith);
      odds = λ i l o. let e : i ≡ 0 = omega arith in absurd (omega (arith, z, o, ap (λ (m : ℕ). get_or (set vs 0 0) m 0) e));
      free = [];
      chain = refl;
      evens = λ i v. absurd (omega (arith, v));
    })

pub sound-fresh : (vs ls ks xs : List ℕ) (h : Header) → (fresh vs ls ks xs).0 ≡ begins h → Sound (fresh_table vs ls ks xs h)
unfolding fresh
sound-fresh vs ls ks xs h e = let f = fresh-begun vs ls ks xs h e in rw (f.0, f.1) (sound-blank vs ls ks xs f.0)

-- ---- put

put_orderly : (t : Table) → Orderly t → (p x : ℕ) → Orderly (with_value t p x)
unfolding with_value
put_orderly t a p x =
    let s = a.shape in
    record {
      shape =
          shape_like t (with_value t p x) s (refl, refl, refl, length-set t.values p x)
          s.s_low s.s_high (omega (arith, s)) s.f_low s.f_high;
      zero_ver = a.zero_ver;
      zero_link = a.zero_link;
      word = a.word;
      home = λ r h. home_by t (with_value t p x) r r (a.home r h) refl (omega arith) refl (a.home r h).back;
      odds = a.odds;
      free = a.free;
      chain = chain_frame t (with_value t p x) refl t.head.f a.free (λ k m e. (refl, refl)) a.chain;
      evens = λ i v. a.evens i (record { low = v.low; high = v.high; even = v.even });
    }

-- ---- every outcome of a call

module _ (t : Table) (a : Sound t) where
  o : Orderly t
  o = orderly t a

  outcome-sound : (c : Call) (r : Out) → Outcome t c r → Sound r.1
  outcome-sound c r (refuses e) = a
  outcome-sound c r (looks k l) = a
  outcome-sound c r (puts k x l) = sound _ (put_orderly t o _ x)
  outcome-sound c r (takes x h) = sound _ (taken_orderly t o x h)
  outcome-sound c r (grows x h e) = sound _ (grown_orderly t o x h e)
  outcome-sound c r (removes k l) = sound _ (without_orderly t o _ (live-occupied t a k l))
  outcome-sound c r (detaches k l) = sound _ (apart_orderly t o _ (live-occupied t a k l))
  outcome-sound c r (reattaches k x d) = sound _ (rejoined_orderly t o _ _ x (detached_vacant t a k d) d.away (version-odd k) (version_word k))
  outcome-sound c r (drains h) = sound _ (without_orderly t o _ (stored-occupied t a _ (omega arith)))
  outcome-sound c r (done h) = a
  outcome-sound c r (retains rule) = retained _ (λ u w. Sound w) (λ u b _. b) (λ u w p b l n r. r) t a
  outcome-sound c r clears = cleared (λ u w. Sound w) (λ u b _. b) (λ u w p b l r. r) t a

  pub sound-step : (c : Call) → Sound (step t c).1
  sound-step c = outcome-sound c (step t c) (outcome t a c)

  pub sound-put : (k x : ℕ) → Sound (put t k x).1
  unfolding step
  sound-put k x = sound-step (c_put k x)

  pub sound-insert : (x : ℕ) → Sound (insert t x).1
  unfolding step
  sound-insert x = sound-step (c_insert x)

  pub sound-remove : (k : ℕ) → Sound (remove t k).1
  unfolding step
  sound-remove k = sound-step (c_remove k)

  pub sound-detach : (k : ℕ) → Sound (detach t k).1
  unfolding step
  sound-detach k = sound-step (c_detach k)

  pub sound-reattach : (k x : ℕ) → Sound (reattach t k x).1
  unfolding step
  sound-reattach k x = sound-step (c_reattach k x)

  pub sound-drain : Sound (drain t).1
  unfolding step
  sound-drain = sound-step c_drain

  pub sound-retain : (rule : Rule) → Sound (retain t rule).1
  unfolding step
  sound-retain rule = sound-step (c_retain rule)

  pub sound-clear : Sound (clear t).1
  unfolding step
  sound-clear = sound-step c_clear

  -- ---- a cleared table has no element

  clear_empty : (clear t).1.head.n ≡ 0
  clear_empty = ap (λ (r : Out). r.1.head.n) (clear_is t a) ∙ cleared (λ u w. w.head.n ≡ 0) (λ u b z. z) (λ u w p b l z. z) t a

  pub drain-clear : (drain (clear t).1).0 ≡ said_done
  drain-clear = ap (λ (r : Out). r.0) (drain-none (clear t).1 sound-clear clear_empty)

-- ---- C stays

outcome-cap : (t : Table) → Sound t → (c : Call) (r : Out) → Outcome t c r → cap r.1 ≡ cap t
unfolding with_value
outcome-cap t a c r (refuses e) = refl
outcome-cap t a c r (looks k l) = refl
outcome-cap t a c r (puts k x l) = refl
outcome-cap t a c r (takes x h) = (taken-enters t (orderly t a) x h).lengths.2
outcome-cap t a c r (grows x h e) = (grown-enters t (orderly t a) x h e).lengths.2
outcome-cap t a c r (removes k l) = (without-leaves t (orderly t a) _ (live-occupied t a k l)).lengths.2
outcome-cap t a c r (detaches k l) = (apart_leaves t (orderly t a) _ (live-occupied t a k l)).lengths.2
outcome-cap t a c r (reattaches k x d) = (rejoined_enters t (orderly t a) _ _ x (detached_vacant t a k d) d.away).lengths.2
outcome-cap t a c r (drains h) = (dropped_leaves t a (last t) (omega arith)).lengths.2
outcome-cap t a c r (done h) = refl
outcome-cap t a c r (retains rule) = retained _ (λ u w. cap w ≡ cap u) (λ u b _. refl) (λ u w p b l n e. e ∙ (dropped_leaves u b p l).lengths.2) t a
outcome-cap t a c r clears = cleared (λ u w. cap w ≡ cap u) (λ u b _. refl) (λ u w p b l e. e ∙ (dropped_leaves u b p l).lengths.2) t a

-- ---- any list of calls

pub sound-after : (t : Table) → Sound t → (cs : List Call) → Sound (after t cs)
unfolding after
sound-after t a [] = a
sound-after t a (c ∷ cs) = sound-step (after t cs) (sound-after t a cs) c

pub cap-after : (t : Table) → Sound t → (cs : List Call) → cap (after t cs) ≡ cap t
unfolding after
cap-after t a [] = refl
cap-after t a (c ∷ cs) = let u = sound-after t a cs in outcome-cap (after t cs) u c (step (after t cs) c) (outcome (after t cs) u c) ∙ cap-after t a cs
