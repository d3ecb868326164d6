-- The loops of retain and clear: what is left of the run is the whole run's rest. Assumes nothing.
use mathlib.Core.Path.{◌≡◌, refl, sym, ap, ◌∙◌}
use mathlib.Core.Logic.{◌≢◌, by_cases}
use mathlib.Core.Bool.{Bool}
use Prim.Native.Nat.{ℕ, zero, suc, ◌+◌, ◌-◌, ◌≤◌, ◌<◌}
use native.Mathlib.Omega.{arith}
use native.Mathlib.Decide.{ℕ_discrete, dec_lt}
use lib.ListN.{length}
use Rattle.refusal.specs.declared.Refusal.{Refusal}
use Rattle.map.specs.Map.{Map, ver, emptied}
use Rattle.std.specs.Prelude.{Option, Some, None, Result, Ok, Err}
use Rattle.secondary.specs.declared.Element.{Element}
use Rattle.map.specs.Calls.{said_element, Out, drain}
use Rattle.secondary.specs.Answers.{step_of}
use Rattle.map.specs.Whole.{Whole}
use Rattle.map.specs.Sweeps.{sieved, retaining, clearing}
use Rattle.map.proofs.Shaped.{shaped}
use Rattle.map.proofs.Slots.{emptied_at, emptied_off, emptied-count, emptied-length}
use Rattle.map.proofs.Seek.{ahead_passed}
use Rattle.map.proofs.Drains.{taken, drain_stays, drain_skips}
use Rattle.map.proofs.Sieves.{whole-sieved, sieved-slots, sieved-length}

-- ---- retain: m₀ is the map at the start, m the map with the slots below i looked at

pub record Sieving (keeps : ℕ → ℕ → Bool) (m₀ m : Map) (s i : ℕ) : Type 0 where
  pub whole : Whole m
  pub slots : m.head.s ≡ s
  pub same : length m.versions ≡ length m₀.versions
  pub rest : retaining keeps (s - i) i m ≡ retaining keeps s 0 m₀

module _ (keeps : ℕ → ℕ → Bool) where
  pub sieving_start : (m : Map) → Whole m → Sieving keeps m m m.head.s 0
  sieving_start m w =
      let n : m.head.s - 0 ≡ m.head.s = omega arith in
      record { whole = w; slots = refl; same = refl; rest = ap (λ (d : ℕ). retaining keeps d 0 m) n }

  pub sieving_turn : (m₀ m u : Map) (s i : ℕ) → Sieving keeps m₀ m s i → i < s → u ≡ sieved keeps i m → Sieving keeps m₀ u s (i + 1)
  unfolding retaining
  sieving_turn m₀ m u s i h l e =
      let n : s - i ≡ suc (s - (i + 1)) = omega arith in
      rw e
      (record {
        whole = whole-sieved keeps i m (omega (arith, h.slots)) h.whole;
        slots = sieved-slots keeps i m ∙ h.slots;
        same = sieved-length keeps i m ∙ h.same;
        rest = sym (ap (λ (d : ℕ). retaining keeps d i m) n) ∙ h.rest;
      })

  pub sieving_end : (m₀ m : Map) (s i : ℕ) → Sieving keeps m₀ m s i → s ≤ i → m ≡ retaining keeps s 0 m₀
  unfolding retaining
  sieving_end m₀ m s i h l =
      let n : s - i ≡ 0 = omega arith in
      sym (ap (λ (d : ℕ). retaining keeps d i m) n) ∙ h.rest

-- ---- clear: the slots from 1 to p are vacant

pub record Draining (m₀ m : Map) (p : ℕ) : Type 0 where
  pub same : length m.versions ≡ length m₀.versions
  pub passed : (j : ℕ) → 1 ≤ j → j < p → ver m j ≡ 0
  pub rest : clearing m.head.count m ≡ clearing m₀.head.count m₀

pub draining_start : (m : Map) → Draining m m 0
draining_start m = record { same = refl; passed = λ j l b. absurd (omega arith); rest = refl }

-- a map that a step leaves as it is stays so
clearing_stays : (n : ℕ) (m : Map) → (drain m 0).1 ≡ m → clearing n m ≡ m
unfolding clearing
clearing_stays zero m e = refl
clearing_stays (suc n) m e = ap (clearing n) e ∙ clearing_stays n m e

module _ (m₀ m u : Map) (p : ℕ) (h : Draining m₀ m p) where
  skips : drain m p ≡ drain m 0
  skips = drain_skips m p h.passed

  pub draining_ends : ((k x q : ℕ) → (drain m p).0 ≢ said_element k x q) → u ≡ (drain m p).1 → u ≡ clearing m₀.head.count m₀
  draining_ends none e =
      let s : (drain m p).1 ≡ m = drain_stays m p none in
      e ∙ s ∙ sym (clearing_stays m.head.count m (ap (λ (o : Out). o.1) (sym skips) ∙ s)) ∙ h.rest

  module _ (k x q : ℕ) (e : drain m p ≡ (said_element k x q, u)) where
    pub draining_less : u.head.count < m.head.count
    draining_less =
        let t = taken m p k x q u e in
        omega (arith, t.some, ap (λ (o : Map). o.head.count) t.left, emptied-count m (q - 1))

    pub draining_turn : Draining m₀ u q
    unfolding clearing
    draining_turn =
        let t = taken m p k x q u e in
        let n : m.head.count ≡ suc u.head.count = omega (arith, draining_less, t.some, ap (λ (o : Map). o.head.count) t.left, emptied-count m (q - 1)) in
        record {
          same = ap (λ (o : Map). length o.versions) t.left ∙ emptied-length m (q - 1) ∙ h.same;
          passed =
              λ j l b.
              ap (λ (o : Map). ver o j) t.left
              ∙ by_cases (ℕ_discrete j (q - 1))
              (λ z. ap (ver (emptied m (q - 1))) z ∙ emptied_at m (q - 1) (omega (arith, t.at.below, shaped m t.at.shape)))
              (λ ne. emptied_off m (q - 1) j ne ∙ by_cases (dec_lt j p) (h.passed j l) (λ a. ahead_passed m p j (omega arith) l (omega (arith, t.at.lowest))));
          rest = ap (clearing u.head.count) (ap (λ (o : Out). o.1) (sym e ∙ skips)) ∙ sym (ap (λ (d : ℕ). clearing d m) n) ∙ h.rest;
        }

-- ---- what the arms of the match on a step's answer tell

no_element : (a : Result (Option Element) Refusal) → ((x : Element) → a ≢ Ok (Some x)) → (k x q : ℕ) → step_of a ≢ said_element k x q
no_element (Ok (Some y)) none k x q e = none y refl
no_element (Ok None) none k x q e = cc
no_element (Err r) none k x q e = cc

module _ (m u : Map) (p : ℕ) (a : Result (Option Element) Refusal) (e : (step_of a, u) ≡ drain m p) where
  pub step-element : (x : Element) → a ≡ Ok (Some x) → drain m p ≡ (said_element x.key x.value x.next, u)
  step-element x h = sym e ∙ ap (λ (b : Result (Option Element) Refusal). (step_of b, u)) h

  -- an answer that is no element took none
  pub step-none : ((x : Element) → a ≢ Ok (Some x)) → (k x q : ℕ) → (drain m p).0 ≢ said_element k x q
  step-none none k x q f = no_element a none k x q (ap (λ (o : Out). o.0) e ∙ f)
