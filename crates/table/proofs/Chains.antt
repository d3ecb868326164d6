-- The free list as a chain: from a slot the links lead over given vacant slots, none twice, to s. Walks of bounded length follow such a chain,
-- and a walk that ends is one, since a walk that came back to a slot would never end. Assumes nothing.
use mathlib.Core.Path.{◌≡◌, refl, sym, ap, ◌∙◌, subst}
use mathlib.Core.Logic.{by_cases, ⊎_elim}
use mathlib.Core.Bool.{true, ◌&&◌}
use mathlib.Core.List.Memᴰ
use mathlib.Core.List.{List, [], ◌∷◌, Memᴰ}
use Prim.Native.Nat.{ℕ, zero, suc, ◌%◌, ◌≤◌}
use native.Mathlib.Omega.{arith}
use native.Mathlib.Decide.{ℕ_discrete}
use lib.ListN.{length}
use lib.Dec.{leb, ltb, eqb}
use borrow.Author.Tests.{eqb-true, eq-eqb, ne_eqb}
use Rattle.lists.proofs.Tests.{and_true, tests, parts}
use Rattle.lists.specs.Once.{Once}
use Rattle.lists.proofs.Once.{once_cons, once_nil, once-head, once_tail}
use Rattle.table.specs.Table.{Table, ver, link}
use Rattle.table.specs.Sound.{Vacant, met, stands, times, leads, steps}

abbrev pub Chain : Table → ℕ → List ℕ → Type 0
Chain t g [] = g ≡ t.head.s
Chain t g (i ∷ l) = record { here : g ≡ i; vacant : Vacant t i; once : Memᴰ i l → ⊥; rest : Chain t (link t i) l }

-- ---- the slots of a chain

pub chain_vacant : (t : Table) (l : List ℕ) (g : ℕ) → Chain t g l → (k : ℕ) → Memᴰ k l → Vacant t k
chain_vacant t [] g h k m = absurd (Memᴰ.not-nil m)
chain_vacant t (i ∷ l) g h k m =
    ⊎_elim (λ e. rw e h.vacant) (λ m'. chain_vacant t l (link t i) h.rest k m') (Memᴰ.cases_cons m)

pub chain_once : (t : Table) (l : List ℕ) (g : ℕ) → Chain t g l → Once l
chain_once t [] g h = once_nil
chain_once t (i ∷ l) g h = once_cons i l h.once (chain_once t l (link t i) h.rest)

-- a chain's first slot, and the links of its slots, are from 1 to s
pub chain_head : (t : Table) (l : List ℕ) (g : ℕ) → 1 ≤ t.head.s → Chain t g l → (1 ≤ g) × (g ≤ t.head.s)
chain_head t [] g s h = omega (arith, h)
chain_head t (i ∷ l) g s h = omega (arith, h.here, h.vacant)

pub chain_link : (t : Table) (l : List ℕ) (g : ℕ) → 1 ≤ t.head.s → Chain t g l → (k : ℕ) → Memᴰ k l → (1 ≤ link t k) × (link t k ≤ t.head.s)
chain_link t [] g s h k m = absurd (Memᴰ.not-nil m)
chain_link t (i ∷ l) g s h k m =
    ⊎_elim (λ e. rw e (chain_head t l (link t i) s h.rest)) (λ m'. chain_link t l (link t i) s h.rest k m') (Memᴰ.cases_cons m)

-- a chain stands as long as the versions and links of its slots do
pub chain_frame : (t u : Table) → u.head.s ≡ t.head.s → (g : ℕ) (l : List ℕ)
    → ((k : ℕ) → Memᴰ k l → ver t k % 2 ≡ 0 → (ver u k ≡ ver t k) × (link u k ≡ link t k)) → Chain t g l → Chain u g l
chain_frame t u s g [] f h = h ∙ sym s
chain_frame t u s g (i ∷ l) f h =
    let at : (ver u i ≡ ver t i) × (link u i ≡ link t i) = f i (Memᴰ.head refl) h.vacant.even in
    record {
      here = h.here;
      vacant = record { low = h.vacant.low; high = omega (arith, s, h.vacant); even = rw at.0 h.vacant.even };
      once = h.once;
      rest = rw at.1 (chain_frame t u s (link t i) l (λ k m. f k (Memᴰ.tail m)) h.rest);
    }

-- ---- walks along a chain

pub chain_met : (t : Table) (l : List ℕ) (g m : ℕ) → length l ≤ m → Chain t g l → (met t m g ≡ l) × (stands t m g ≡ t.head.s) × (leads t m g ≡ true)
unfolding met stands leads
chain_met t [] g zero hm h = (refl, h, eq-eqb _ _ h)
chain_met t [] g (suc m) hm h = rw (eq-eqb _ _ h) (refl, h, refl)
chain_met t (i ∷ l) g zero hm h = absurd (omega arith)
chain_met t (i ∷ l) g (suc m) hm h =
    let r = chain_met t l (link t i) m (omega arith) h.rest in
    let v : Vacant t i = h.vacant in
    rw (h.here, ne_eqb i t.head.s (λ q. omega (arith, q, h.vacant)))
    (ap (λ (z : List ℕ). i ∷ z) r.0, r.1, search (and_true, tests, r.2))

pub steps-met : (t : Table) (m g : ℕ) → steps t m g ≡ length (met t m g)
unfolding steps met
steps-met t zero g = refl
steps-met t (suc m) g =
    by_cases (ℕ_discrete g t.head.s)
    (λ e. rw (eq-eqb _ _ e))
    (λ ne. rw (ne_eqb _ _ ne) (ap suc (steps-met t m (link t g))))

-- ---- a walk that ends is a chain

-- a chain of which nothing says that no slot is there twice
abbrev Trail : Table → ℕ → List ℕ → Type 0
Trail t g [] = g ≡ t.head.s
Trail t g (i ∷ l) = record { here : g ≡ i; vacant : Vacant t i; rest : Trail t (link t i) l }

trail_length : (t : Table) (l l' : List ℕ) (g : ℕ) → Trail t g l → Trail t g l' → length l ≡ length l'
trail_length t [] [] g h h' = refl
trail_length t [] (j ∷ l') g h h' = absurd (omega (arith, h, h'.here, h'.vacant))
trail_length t (i ∷ l) [] g h h' = absurd (omega (arith, h', h.here, h.vacant))
trail_length t (i ∷ l) (j ∷ l') g h h' =
    ap suc (trail_length t l l' (link t i) h.rest (subst (λ (z : ℕ). Trail t z l') (ap (link t) (sym h'.here ∙ h.here)) h'.rest))

trail_suffix : (t : Table) (l : List ℕ) (g : ℕ) → Trail t g l → (k : ℕ) → Memᴰ k l → (l' : List ℕ) × Trail t k (k ∷ l') × (length (k ∷ l') ≤ length l)
trail_suffix t [] g h k m = absurd (Memᴰ.not-nil m)
trail_suffix t (i ∷ l) g h k m =
    ⊎_elim
    (λ e. (l, subst (λ (z : ℕ). Trail t z (z ∷ l)) (sym e) (record { here = refl; vacant = h.vacant; rest = h.rest }), omega arith))
    (λ q. let r = trail_suffix t l (link t i) h.rest k q in (r.0, r.1, omega (arith, r.2)))
    (Memᴰ.cases_cons m)

trail_chain : (t : Table) (l : List ℕ) (g : ℕ) → Trail t g l → Chain t g l
trail_chain t [] g h = h
trail_chain t (i ∷ l) g h =
    record {
      here = h.here;
      vacant = h.vacant;
      once = λ m.
          let r = trail_suffix t l (link t i) h.rest i m in
          let e = trail_length t (i ∷ r.0) (i ∷ l) i r.1 (record { here = refl; vacant = h.vacant; rest = h.rest }) in
          omega (arith, e, r.2);
      rest = trail_chain t l (link t i) h.rest;
    }

met_trail : (t : Table) (m g : ℕ) → stands t m g ≡ t.head.s → ((k : ℕ) → Memᴰ k (met t m g) → Vacant t k) → Trail t g (met t m g)
unfolding met stands
met_trail t zero g e v = e
met_trail t (suc m) g e v =
    by_cases (ℕ_discrete g t.head.s)
    (λ q. rw (eq-eqb _ _ q) q)
    (λ ne.
    let z = rw (ne_eqb g t.head.s ne) at e in
    let w : (k : ℕ) → Memᴰ k (g ∷ met t m (link t g)) → Vacant t k = rw (ne_eqb g t.head.s ne) at v in
    rw (ne_eqb _ _ ne)
    (record { here = refl; vacant = w g (Memᴰ.head refl); rest = met_trail t m (link t g) z (λ k i. w k (Memᴰ.tail i)) }))

leads_trail : (t : Table) (m g : ℕ) → leads t m g ≡ true → Trail t g (met t m g)
unfolding leads met
leads_trail t zero g e = eqb-true _ _ e
leads_trail t (suc m) g e =
    by_cases (ℕ_discrete g t.head.s)
    (λ q. rw (eq-eqb _ _ q) q)
    (λ ne.
    let z : (leb 1 g && (ltb g t.head.s && (eqb (ver t g % 2) 0 && leads t m (link t g)))) ≡ true = rw (ne_eqb g t.head.s ne) at e in
    let v : Vacant t g = search parts in
    let r : leads t m (link t g) ≡ true = search parts in
    rw (ne_eqb _ _ ne) (record { here = refl; vacant = v; rest = leads_trail t m (link t g) r }))

-- a walk that ends at s, over vacant slots
pub met_chain : (t : Table) (m g : ℕ) → stands t m g ≡ t.head.s → ((k : ℕ) → Memᴰ k (met t m g) → Vacant t k) → Chain t g (met t m g)
met_chain t m g e v = trail_chain t (met t m g) g (met_trail t m g e v)

-- a walk that the check lets pass
pub leads_chain : (t : Table) (m g : ℕ) → leads t m g ≡ true → Chain t g (met t m g)
leads_chain t m g e = trail_chain t (met t m g) g (leads_trail t m g e)

-- ---- exactly once

pub times_in : (i : ℕ) (l : List ℕ) → 1 ≤ times i l → Memᴰ i l
unfolding times
times_in i [] h = absurd (omega arith)
times_in i (j ∷ l) h =
    by_cases (ℕ_discrete i j) Memᴰ.head
    (λ ne. let z : 1 ≤ times i l = rw (ne_eqb i j ne) at h in Memᴰ.tail (times_in i l z))

times_none : (i : ℕ) (l : List ℕ) → (Memᴰ i l → ⊥) → times i l ≡ 0
unfolding times
times_none i [] h = refl
times_none i (j ∷ l) h = rw (ne_eqb i j (λ e. h (Memᴰ.head e))) (times_none i l (λ m. h (Memᴰ.tail m)))

pub once-times : (i : ℕ) (l : List ℕ) → Once l → Memᴰ i l → times i l ≡ 1
unfolding times
once-times i [] o m = absurd (Memᴰ.not-nil m)
once-times i (j ∷ l) o m =
    by_cases (ℕ_discrete i j)
    (λ e. rw (eq-eqb i j e) (ap suc (times_none i l (λ q. once-head j l o (rw e at q)))))
    (λ ne. rw (ne_eqb i j ne) (once-times i l (once_tail j l o) (⊎_elim (λ e. absurd (ne e)) (λ q. q) (Memᴰ.cases_cons m))))
