-- Refusal 3 on a sound table: it is given exactly where every index from 1 to C is live or detached. Assumes nothing.
use mathlib.Core.Path.{◌≡◌, refl, sym, ap}
use mathlib.Core.Logic.{◌⊎◌, inl, inr, by_cases, ⊎_elim, ◌↔◌}
use mathlib.Core.Bool.{true}
use mathlib.Core.List.Memᴰ
use mathlib.Core.List.{List, [], ◌∷◌, Memᴰ}
use Prim.Native.Nat.{ℕ, ◌+◌, ◌%◌, ◌≤◌, ◌<◌}
use native.Mathlib.Omega.{arith}
use native.Mathlib.Decide.{ℕ_discrete}
use Rattle.keys.specs.Keys.{W, far, pack, down}
use Rattle.keys.proofs.Keys.{version-odd, version-pack, idx-pack}
use Rattle.keys.proofs.Versions.{up-down}
use Rattle.table.specs.Table.{Table, ver, link, cap, is_live, is_detached}
use Rattle.table.specs.Calls.{said_key, refused, Out, insert}
use Rattle.table.specs.Sound.{Vacant, Sound}
use Rattle.table.specs.Refused.{Used}
use Rattle.table.proofs.Shape.{Shape}
use Rattle.table.proofs.Judged.{live}
use Rattle.table.proofs.Facts.{facts_live, detached_facts, facts_detached}
use Rattle.table.proofs.Chains.{Chain}
use Rattle.table.proofs.Orderly.{Orderly, orderly}
use Rattle.table.proofs.Enter.{head_free}
use Rattle.table.proofs.Cases.{insert_ways, insert-taken, insert-grown, insert-full}

module _ (t : Table) (a : Sound t) where
  o : Orderly t
  o = orderly t a

  s : Shape t
  s = o.shape

  use_key : (i v : ℕ) → i < W → v < W → v % 2 ≡ 1 → (is_live t i v ≡ true) ⊎ (is_detached t i v ≡ true) → Used t i
  use_key i v hi hv od u = (pack i v, idx-pack i v hi, rw (version-pack i v hi hv od) u)

  -- where the free list is empty, each slot is occupied or detached
  none_free : t.head.f ≡ t.head.s → (l : List ℕ) → Chain t t.head.f l → (k : ℕ) → Memᴰ k l → ⊥
  none_free f [] c k m = Memᴰ.not-nil m
  none_free f (j ∷ l) c k m = omega (arith, c.here, c.vacant, f)

  slot-used : t.head.f ≡ t.head.s → (i : ℕ) → 1 ≤ i → i < t.head.s → Used t i
  slot-used f i lo hi =
      let w : i < W = omega (arith, s) in
      by_cases (ℕ_discrete (ver t i % 2) 1)
      (λ e. use_key i (ver t i) w (a.words i hi) e (inl (facts_live t _ _ (record { low = lo; high = hi; same = refl }))))
      (λ ne.
      let v : Vacant t i = record { low = lo; high = hi; even = omega (arith, ne) } in
      let fr : link t i ≡ far = ⊎_elim (λ m. absurd (none_free f o.free o.chain i m)) (λ q. q) (o.evens i v) in
      use_key i (down (ver t i)) w (omega arith) (omega (arith, v.even))
      (inr (facts_detached t _ _ (record { low = lo; high = hi; same = sym (up-down _ (a.words i hi)); away = fr }))))

  -- the free head, and a slot not yet there, are not in use
  free_unused : t.head.f < t.head.s → Used t t.head.f → ⊥
  free_unused h u =
      let e = head_free t o h in
      ⊎_elim
      (λ l. omega (arith, e.vacant.even, (live t _ _ l).same, version-odd u.0))
      (λ d. omega (arith, (detached_facts t _ _ d).away, e, s)) u.2

  new_unused : Used t t.head.s → ⊥
  new_unused u = ⊎_elim (λ l. omega (arith, (live t _ _ l).high)) (λ d. omega (arith, (detached_facts t _ _ d).high)) u.2

  pub full_iff : (x : ℕ) → ((insert t x).0 ≡ refused 3) ↔ ((i : ℕ) → 1 ≤ i → i ≤ cap t → Used t i)
  full_iff x =
      insert_ways t a
      (λ h.
      let p : (insert t x).0 ≡ said_key (pack t.head.f (ver t t.head.f + 1)) = ap (λ (r : Out). r.0) (insert-taken t a h x) in (
        (λ q. let z : ◌≡◌ {A = ℕ} 0 1 = cc in absurd (omega arith)),
        λ all. absurd (free_unused h (all t.head.f s.f_low (omega (arith, s)))),
      ))
      (λ g c.
      let p : (insert t x).0 ≡ said_key (pack t.head.s 1) = ap (λ (r : Out). r.0) (insert-grown t a g x c) in (
        (λ q. let z : ◌≡◌ {A = ℕ} 0 1 = cc in absurd (omega arith)),
        λ all. absurd (new_unused (all t.head.s s.s_low c)),
      ))
      (λ g e. ((λ q i lo hi. slot-used g i lo (omega (arith, hi, e))), λ all. ap (λ (r : Out). r.0) (insert-full t a g x e)))
