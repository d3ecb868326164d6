-- A look and a drain step, one equation for each outcome; and a drain step from what a look finds. Assumes nothing.
use mathlib.Core.Path.{◌≡◌, sym, ap, ◌∙◌}
use mathlib.Core.Logic.{◌≢◌, by_cases}
use mathlib.Core.Bool.{true, false, cond}
use Prim.Native.Nat.{ℕ, ◌+◌, ◌-◌, ◌≤◌, ◌<◌}
use native.Mathlib.Omega.{arith}
use native.Mathlib.Decide.{ℕ_discrete, dec_lt}
use lib.Dec.{ltb}
use lib.ListN.{length}
use borrow.Author.Tests.{ltb-true, lt-ltb, le-ltb, eq-eqb, ne_eqb}
use Rattle.lists.proofs.Tests.{split}
use Rattle.map.specs.Map.{Map, ver, val, has_shape, emptied}
use Rattle.map.specs.Calls.{said_element, said_done, refused, Out, leaving_from, key_at, element, meets, nothing, stops, met, peek, drained, drain, ahead}
use Rattle.map.proofs.Shaped.{shaped}
use Rattle.map.proofs.Seek.{ahead_after, ahead_passed, ahead-occupied}

-- ---- the slot ahead

pub record Meets (m : Map) (p i : ℕ) : Type 0 where
  pub shape : has_shape m ≡ true
  pub lowest : ahead m p ≡ i
  pub below : i < m.head.s
  pub full : ver m i ≢ 0

meets_in : (a s i : ℕ) → cond (ltb a s) (meets a) nothing ≡ meets i → (a ≡ i) × (i < s)
meets_in a s i e =
    split (ltb a s)
    (λ h. let q : meets a ≡ meets i = rw h at e in let z : a ≡ i = cc in (z, omega (arith, ltb-true a s h)))
    (λ h. let q : nothing ≡ meets i = rw h at e in let z : ◌≡◌ {A = ℕ} 0 1 = cc in absurd (omega arith))

pub meeting : (m : Map) (p i : ℕ) → met m p ≡ meets i → Meets m p i
unfolding met
meeting m p i e =
    split (has_shape m)
    (λ h.
    let w = meets_in (ahead m p) m.head.s i (rw h at e) in
    record { shape = h; lowest = w.0; below = w.1; full = rw w.0 at (ahead-occupied m p (rw w.0 w.1)) })
    (λ h. let q : stops 1 ≡ meets i = rw h at e in let z : ◌≡◌ {A = ℕ} 0 1 = cc in absurd (omega arith))

pub meets-ahead : (m : Map) (p : ℕ) → has_shape m ≡ true → ahead m p < m.head.s → met m p ≡ meets (ahead m p)
unfolding met
meets-ahead m p sh l = rw (sh, lt-ltb (ahead m p) m.head.s l)

pub none_ahead : (m : Map) (p : ℕ) → has_shape m ≡ true → m.head.s ≤ ahead m p → met m p ≡ nothing
unfolding met
none_ahead m p sh l = rw (sh, le-ltb (ahead m p) m.head.s l)

unshaped_ahead : (m : Map) (p : ℕ) → has_shape m ≡ false → met m p ≡ stops 1
unfolding met
unshaped_ahead m p sh = rw sh

-- the three things that can stand ahead
pub by_met {ℓ} : {A : Type ℓ} (m : Map) (p : ℕ) → (met m p ≡ stops 1 → A) → (met m p ≡ nothing → A) → ((i : ℕ) → met m p ≡ meets i → A) → A
by_met m p bad none some =
    split (has_shape m)
    (λ sh. by_cases (dec_lt (ahead m p) m.head.s) (λ l. some (ahead m p) (meets-ahead m p sh l)) (λ l. none (none_ahead m p sh (omega arith))))
    (λ sh. bad (unshaped_ahead m p sh))

module _ (m : Map) (p : ℕ) where
  pub peek-stops : met m p ≡ stops 1 → peek m p ≡ refused 1
  unfolding peek
  peek-stops e = rw e

  pub peek-nothing : met m p ≡ nothing → peek m p ≡ said_done
  unfolding peek
  peek-nothing e = rw e

  pub peek-meets : (i : ℕ) → met m p ≡ meets i → peek m p ≡ element m i
  unfolding peek
  peek-meets i e = rw e

  pub drain-stops : met m p ≡ stops 1 → drain m p ≡ (refused 1, m)
  unfolding drain
  drain-stops e = rw e

  pub drain-nothing : met m p ≡ nothing → drain m p ≡ (said_done, m)
  unfolding drain
  drain-nothing e = rw e

  pub drain_meets : (i : ℕ) → met m p ≡ meets i → m.head.count ≢ 0 → drain m p ≡ (element m i, emptied m i)
  unfolding drain leaving_from
  drain_meets i e ne = rw (e, ne_eqb m.head.count 0 ne)

  pub drain_uncounted : (i : ℕ) → met m p ≡ meets i → m.head.count ≡ 0 → drain m p ≡ (refused 5, m)
  unfolding drain leaving_from
  drain_uncounted i e z = rw (e, eq-eqb m.head.count 0 z)

-- a drain step leaves the map as it is, or empties the slot ahead
pub by_drain : (P : Map → Type 0) (m : Map) (p : ℕ) → P m → ((i : ℕ) → Meets m p i → P (emptied m i)) → P (drain m p).1
by_drain P m p same less =
    by_met m p
    (λ h. rw (drain-stops m p h) same)
    (λ h. rw (drain-nothing m p h) same)
    (λ i h. by_cases (ℕ_discrete m.head.count 0)
    (λ z. rw (drain_uncounted m p i h z) same)
    (λ ne. rw (drain_meets m p i h ne) (less i (meeting m p i h))))

-- a step that answers no element leaves the map as it is
pub drain_stays : (m : Map) (p : ℕ) → ((k x q : ℕ) → (drain m p).0 ≢ said_element k x q) → (drain m p).1 ≡ m
drain_stays m p none =
    by_met m p
    (λ h. ap (λ (o : Out). o.1) (drain-stops m p h))
    (λ h. ap (λ (o : Out). o.1) (drain-nothing m p h))
    (λ i h. by_cases (ℕ_discrete m.head.count 0)
    (λ z. ap (λ (o : Out). o.1) (drain_uncounted m p i h z))
    (λ ne. absurd (none _ _ _ (ap (λ (o : Out). o.0) (drain_meets m p i h ne)))))

-- ---- from a look to a drain step

-- a look that finds an element
pub record Seen (m : Map) (p k x q : ℕ) : Type 0 where
  pub at : met m p ≡ meets (q - 1)
  pub one : 1 ≤ q
  pub key : k ≡ key_at m (q - 1)
  pub value : x ≡ val m (q - 1)

element_inj : (k x q k' x' q' : ℕ) → said_element k x q ≡ said_element k' x' q' → (k ≡ k') × (x ≡ x') × (q ≡ q')
element_inj k x q k' x' q' e = (cc, cc, cc)

pub seen : (m : Map) (p k x q : ℕ) → said_element k x q ≡ peek m p → Seen m p k x q
seen m p k x q e =
    by_met m p
    (λ h. let f = e ∙ peek-stops m p h in let z : ◌≡◌ {A = ℕ} 0 1 = cc in absurd (omega arith))
    (λ h. let f = e ∙ peek-nothing m p h in let z : ◌≡◌ {A = ℕ} 0 1 = cc in absurd (omega arith))
    (λ i h.
    let w = element_inj _ _ _ _ _ _ (e ∙ peek-meets m p i h) in
    let n : i ≡ q - 1 = omega (arith, w.2) in
    record { at = h ∙ ap meets n; one = omega (arith, w.2); key = w.0 ∙ ap (key_at m) n; value = w.1 ∙ ap (val m) n })

module _ (m : Map) (p k x q : ℕ) (h : Seen m p k x q) where
  pub seen_high : q - 1 < length m.versions
  seen_high = let w = meeting m p (q - 1) h.at in omega (arith, w.below, shaped m w.shape)

  pub drain_empty : m.head.count ≡ 0 → drain m p ≡ (refused 5, m)
  drain_empty z = drain_uncounted m p (q - 1) h.at z

  pub drain_takes : m.head.count ≢ 0 → drain m p ≡ (said_element k x q, emptied m (q - 1))
  drain_takes ne =
      let n : q - 1 + 1 ≡ q = omega (arith, h.one) in
      drain_meets m p (q - 1) h.at ne
      ∙ rw (h.key, h.value) (ap (λ (z : ℕ). (said_element (key_at m (q - 1)) (val m (q - 1)) z, emptied m (q - 1))) n)

pub drain-done : (m : Map) (p : ℕ) → said_done ≡ peek m p → drain m p ≡ (said_done, m)
drain-done m p e =
    by_met m p
    (λ h. let f = e ∙ peek-stops m p h in let z : ◌≡◌ {A = ℕ} 0 1 = cc in absurd (omega arith))
    (λ h. drain-nothing m p h)
    (λ i h. let f = e ∙ peek-meets m p i h in let z : ◌≡◌ {A = ℕ} 0 1 = cc in absurd (omega arith))

pub drain-refused : (m : Map) (p r : ℕ) → refused r ≡ peek m p → drain m p ≡ (refused r, m)
drain-refused m p r e =
    by_met m p
    (λ h. let f = e ∙ peek-stops m p h in let z : r ≡ 1 = cc in drain-stops m p h ∙ ap (λ (n : ℕ). (refused n, m)) (sym z))
    (λ h. let f = e ∙ peek-nothing m p h in let z : ◌≡◌ {A = ℕ} 0 1 = cc in absurd (omega arith))
    (λ i h. let f = e ∙ peek-meets m p i h in let z : ◌≡◌ {A = ℕ} 0 1 = cc in absurd (omega arith))

-- ---- a drain step that answers an element

pub record Taken (m : Map) (p k x q : ℕ) (u : Map) : Type 0 where
  pub at : Meets m p (q - 1)
  pub one : 1 ≤ q
  pub some : m.head.count ≢ 0
  pub key : k ≡ key_at m (q - 1)
  pub value : x ≡ val m (q - 1)
  pub left : u ≡ emptied m (q - 1)

pub taken : (m : Map) (p k x q : ℕ) (u : Map) → drain m p ≡ (said_element k x q, u) → Taken m p k x q u
taken m p k x q u e =
    by_met m p
    (λ h. let f = ap (λ (o : Out). o.0) (sym (drain-stops m p h) ∙ e) in let z : ◌≡◌ {A = ℕ} 0 1 = cc in absurd (omega arith))
    (λ h. let f = ap (λ (o : Out). o.0) (sym (drain-nothing m p h) ∙ e) in let z : ◌≡◌ {A = ℕ} 0 1 = cc in absurd (omega arith))
    (λ i h. by_cases (ℕ_discrete m.head.count 0)
    (λ z. let f = ap (λ (o : Out). o.0) (sym (drain_uncounted m p i h z) ∙ e) in let c : ◌≡◌ {A = ℕ} 0 1 = cc in absurd (omega arith))
    (λ ne.
    let w = element_inj _ _ _ _ _ _ (ap (λ (o : Out). o.0) (sym (drain_meets m p i h ne) ∙ e)) in
    let n : i ≡ q - 1 = omega (arith, w.2) in
    record {
      at = meeting m p (q - 1) (h ∙ ap meets n);
      one = omega (arith, w.2);
      some = ne;
      key = sym w.0 ∙ ap (key_at m) n;
      value = sym w.1 ∙ ap (val m) n;
      left = ap (λ (o : Out). o.1) (sym e ∙ drain_meets m p i h ne) ∙ ap (emptied m) n;
    }))

-- ---- slots that are vacant may be skipped

-- the lowest occupied slot is one
ahead_is : (m : Map) (p a : ℕ) → p ≤ a → 1 ≤ a → a < m.head.s → ver m a ≢ 0 → ((j : ℕ) → p ≤ j → 1 ≤ j → j < a → ver m j ≡ 0) → ahead m p ≡ a
ahead_is m p a l o b ne none =
    by_cases (dec_lt (ahead m p) a)
    (λ c. absurd (ahead-occupied m p (omega arith) (none (ahead m p) (ahead_after m p).0 (ahead_after m p).1 c)))
    (λ c. by_cases (dec_lt a (ahead m p)) (λ d. absurd (ne (ahead_passed m p a l o d))) (λ d. omega arith))

pub met_skips : (m : Map) (p : ℕ) → ((j : ℕ) → 1 ≤ j → j < p → ver m j ≡ 0) → met m p ≡ met m 0
met_skips m p none =
    split (has_shape m)
    (λ sh. by_cases (dec_lt (ahead m 0) m.head.s)
    (λ l.
    let after : p ≤ ahead m 0 =
    by_cases (dec_lt (ahead m 0) p) (λ b. absurd (ahead-occupied m 0 l (none (ahead m 0) (ahead_after m 0).1 b))) (λ b. omega arith) in
    let e : ahead m p ≡ ahead m 0 =
    ahead_is m p (ahead m 0) after (ahead_after m 0).1 l (ahead-occupied m 0 l) (λ j a o b. ahead_passed m 0 j (omega arith) o b) in
    meets-ahead m p sh (omega arith) ∙ ap meets e ∙ sym (meets-ahead m 0 sh l))
    (λ l.
    let far : m.head.s ≤ ahead m p =
    by_cases (dec_lt (ahead m p) m.head.s)
    (λ b. absurd (ahead-occupied m p b (ahead_passed m 0 (ahead m p) (omega arith) (ahead_after m p).1 (omega arith))))
    (λ b. omega arith) in
    none_ahead m p sh far ∙ sym (none_ahead m 0 sh (omega arith))))
    (λ sh. unshaped_ahead m p sh ∙ sym (unshaped_ahead m 0 sh))

pub drain_skips : (m : Map) (p : ℕ) → ((j : ℕ) → 1 ≤ j → j < p → ver m j ≡ 0) → drain m p ≡ drain m 0
unfolding drain
drain_skips m p none = ap (drained m) (met_skips m p none)
