-- The loop of retain, over variables: what is left of the walk gives the same whole. Assumes nothing.
use mathlib.Core.Path.{◌≡◌, sym, ap, ◌∙◌}
use mathlib.Core.Bool.{Bool, true, false}
use Prim.Native.Nat.{ℕ, suc, ◌+◌, ◌-◌, ◌≤◌, ◌<◌}
use native.Mathlib.Omega.{arith}
use borrow.Author.Tests.{lt-ltb}
use Rattle.keys.specs.declared.KeyData.{KeyData}
use Rattle.keys.specs.Keys.{idx, key_of}
use Rattle.rules.specs.declared.Rule.{Rule}
use Rattle.rules.specs.Rules.{keeps_of}
use Rattle.table.specs.Table.{Table, key, val}
use Rattle.table.specs.Calls.{remove}
use Rattle.table.specs.Sound.{Sound}
use Rattle.table.specs.Sweeps.{retaining}
use Rattle.table.proofs.Sieve.{drop-removes}
use Rattle.dense_sweep.proofs.Swept.{Swept, swept_none, swept-count, swept-more}

-- what the rule says of a key's element, from what the code was told
pub rule_told : (rule : Rule) {d : KeyData} (k x : ℕ) {r b : Bool} → d ≡ key_of k → r ≡ keeps_of rule d.idx x → r ≡ b → keeps_of rule (idx k) x ≡ b
rule_told rule k x e q h = sym (ap (λ (z : KeyData). keeps_of rule z.idx x) e) ∙ sym q ∙ h

-- the places before p have been looked at
pub record Sifting (keeps : ℕ → ℕ → Bool) (t u : Table) (p : ℕ) : Type 0 where
  pub swept : Swept t u
  pub rest : retaining keeps (u.head.n - p) p u ≡ retaining keeps t.head.n 0 t

module _ (keeps : ℕ → ℕ → Bool) (t : Table) where
  pub sifting_begins : Sound t → Sifting keeps t t 0
  sifting_begins a = let z : t.head.n - 0 ≡ t.head.n = omega arith in record { swept = swept_none t a; rest = ap (λ (m : ℕ). retaining keeps m 0 t) z }

  module _ (u : Table) (p : ℕ) (a : Sifting keeps t u p) where
    pub sifting_ends : u.head.n ≤ p → u ≡ retaining keeps t.head.n 0 t
    unfolding retaining
    sifting_ends h = let z : 0 ≡ u.head.n - p = omega arith in ap (λ (m : ℕ). retaining keeps m p u) z ∙ a.rest

    module _ (h : p < u.head.n) where
      pub sifting_keeps : keeps (idx (key u p)) (val u p) ≡ true → Sifting keeps t u (p + 1)
      unfolding retaining
      sifting_keeps y =
          let m : suc (u.head.n - (p + 1)) ≡ u.head.n - p = omega arith in
          let turn : retaining keeps (suc (u.head.n - (p + 1))) p u ≡ retaining keeps (u.head.n - (p + 1)) (p + 1) u = rw (lt-ltb p u.head.n h, y) in
          record { swept = a.swept; rest = sym turn ∙ ap (λ (j : ℕ). retaining keeps j p u) m ∙ a.rest }

      module _ (w : Table) (e : w ≡ (remove u (key u p)).1) where
        count : suc w.head.n ≡ u.head.n
        count = swept-count t u w a.swept p h (e ∙ drop-removes u a.swept.sound p h)

        pub sifting_less : w.head.n - p < u.head.n - p
        sifting_less = omega (arith, count)

        pub sifting_drops : keeps (idx (key u p)) (val u p) ≡ false → Sifting keeps t w p
        unfolding retaining
        sifting_drops n =
            let m : suc (w.head.n - p) ≡ u.head.n - p = omega (arith, count) in
            let turn : retaining keeps (suc (w.head.n - p)) p u ≡ retaining keeps (w.head.n - p) p (remove u (key u p)).1 = rw (lt-ltb p u.head.n h, n) in
            record {
              swept = swept-more t u w a.swept p h (e ∙ drop-removes u a.swept.sound p h);
              rest = ap (retaining keeps (w.head.n - p) p) e ∙ sym turn ∙ ap (λ (j : ℕ). retaining keeps j p u) m ∙ a.rest;
            }
