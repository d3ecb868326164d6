-- How a call moves the clock of an index: a removal there moves an odd clock on by one, an insert an even one, and nothing else moves it. Assumes nothing.
use mathlib.Core.Path.{◌≡◌, refl, sym, ap, ◌∙◌, subst}
use mathlib.Core.Logic.{◌≢◌, ◌⊎◌, inl, inr, by_cases, ⊎_elim}
use mathlib.Core.Bool.{Bool, true, false, cond}
use mathlib.Core.Option.{none, some}
use mathlib.Core.List.Memᴰ
use Prim.Native.Nat.{ℕ, ◌+◌, ◌%◌, ◌<◌}
use native.Mathlib.Omega.{arith}
use native.Mathlib.Decide.{ℕ_discrete}
use lib.Dec.{eqb}
use Rattle.lists.proofs.Tests.{split}
use Rattle.lists.proofs.Once.{mem_dec}
use borrow.Author.Tests.{eq-eqb, ne_eqb}
use Rattle.keys.specs.Keys.{W, far, idx, pack, version, as_read, up, down}
use Rattle.keys.proofs.Keys.{version-odd, version_word, idx-read, idx-pack}
use Rattle.keys.proofs.Versions.{down-up}
use Rattle.rules.specs.Rules.{keeps_of}
use Rattle.table.specs.Table.{Table, ver, link, key, val, last, is_live, with_value}
use Rattle.table.specs.Calls.{Out}
use Rattle.table.specs.Sound.{Sound}
use Rattle.table.specs.Steps.{Call, step}
use Rattle.history.specs.Reading.{change, Reading, removed_at, dropped_at, value_in, keys_of}
use Rattle.history.specs.Begins.{find, Begins}
use Rattle.history.proofs.Readings.{none-value, drops, dropped_one}
use Rattle.table.proofs.Judged.{live}
use Rattle.table.proofs.Orderly.{Orderly, Occupied, orderly}
use Rattle.table.proofs.Leave.{Leaves, vacant_off, without-leaves, without-link, apart_leaves, apart_link}
use Rattle.table.proofs.Enter.{Enters, Widens, head_free, taken_widens, taken-enters, grown_widens, grown-enters, rejoined_widens, rejoined_enters}
use Rattle.table.proofs.Cases.{live-occupied, live-place, detached_vacant, stored-occupied}
use Rattle.table.proofs.Outcomes.{Outcome, outcome, refuses, looks, puts, takes, grows, removes, detaches, reattaches, drains, done, retains, clears}
use Rattle.table.proofs.Sieve.{dropped, dropped_leaves, retained, cleared}
use Rattle.history.proofs.Follows.{find-live, find-dead, find_not, find-stored, find_dropped}
use Rattle.history.proofs.Answers.{change-refused}
use Rattle.history.proofs.Begins.{base_value}
use Rattle.history.proofs.Clock.{clock, clock_odd, clock_away, clock_free, clock_new, clock_same, own}
use Rattle.history.proofs.Counted.{live_own_key}

-- m removals at the index i from t to u: none, or one
abbrev pub Falls : Table → Table → ℕ → ℕ → Type 0
Falls t u i m = ((m ≡ 0) × (clock u i ≡ clock t i)) ⊎ ((m ≡ 1) × (clock t i % 2 ≡ 1) × (clock u i ≡ up (clock t i)))

-- or an insert
abbrev pub Turns : Table → Table → ℕ → ℕ → Type 0
Turns t u i m = Falls t u i m ⊎ ((m ≡ 0) × (clock t i % 2 ≡ 0) × (clock u i ≡ clock t i + 1))

-- ---- an element leaves

module _ (t u : Table) (a : Orderly t) (j : ℕ) (oj : Occupied t j) (c : Leaves t u j) (i : ℕ) where
  clock_was : clock t j ≡ ver t j
  clock_was = clock_odd t j oj.high oj.odd

  leave_off : j ≢ i → clock u i ≡ clock t i
  leave_off ne =
      clock_same t u i (λ h. omega (arith, h, c.slots)) (λ h. omega (arith, h, c.slots)) (c.ver_off i (λ e. ne (sym e)))
      (λ ev. c.link_off i (λ e. ne (sym e)) (vacant_off t u a j oj c i ev).1)

  now_high : j < u.head.s
  now_high = omega (arith, oj.high, c.slots)

  now_even : ver u j % 2 ≡ 0
  now_even = rw c.ver_at (omega (arith, oj.odd))

  freed_clock : link u j ≡ t.head.f → clock u j ≡ up (clock t j)
  freed_clock li = clock_free u j now_high now_even (λ q. omega (arith, q, li, a.shape)) ∙ c.ver_at ∙ ap up (sym clock_was)

  freed_falls : link u j ≡ t.head.f → Falls t u i (cond (eqb j i) 1 0)
  freed_falls li =
      by_cases (ℕ_discrete j i)
      (λ e. inr (ap (λ (b : Bool). cond b 1 0) (eq-eqb j i e), omega (arith, ap (clock t) e, clock_was, oj.odd), ap (clock u) (sym e) ∙ freed_clock li ∙ ap (λ (m : ℕ). up (clock t m)) e))
      (λ ne. inl (ap (λ (b : Bool). cond b 1 0) (ne_eqb j i ne), leave_off ne))

  parted_still : link u j ≡ far → ver t j < W → clock u i ≡ clock t i
  parted_still li w =
      by_cases (ℕ_discrete j i)
      (λ e.
      ap (clock u) (sym e) ∙ clock_away u j now_high now_even li ∙ ap down c.ver_at ∙ down-up (ver t j) w ∙ sym clock_was ∙ ap (clock t) e)
      leave_off

-- ---- an element enters

module _ (t u : Table) (j v x : ℕ) (od : v % 2 ≡ 1) (g : Widens t u j) (c : Enters t u j v x) (i : ℕ) where
  clock_now : clock u j ≡ v
  clock_now = clock_odd u j g.high (rw c.ver_at od) ∙ c.ver_at

  enter_off : j ≢ i → clock u i ≡ clock t i
  enter_off ne =
      clock_same t u i (λ h. g.others i h (λ e. ne (sym e))) (λ h. omega (arith, h, g.grow)) (c.ver_off i (λ e. ne (sym e)))
      (λ ev. c.link_off i (λ e. ne (sym e)))

  issued_turns : clock t j + 1 ≡ v → Turns t u i 0
  issued_turns e =
      by_cases (ℕ_discrete j i)
      (λ q. inr (refl, omega (arith, e, od, ap (clock t) q), ap (clock u) (sym q) ∙ clock_now ∙ sym e ∙ ap (λ (m : ℕ). clock t m + 1) q))
      (λ ne. inl (inl (refl, enter_off ne)))

  returned_still : clock t j ≡ v → clock u i ≡ clock t i
  returned_still e = by_cases (ℕ_discrete j i) (λ q. ap (clock u) (sym q) ∙ clock_now ∙ sym e ∙ ap (clock t) q) enter_off

-- ---- a sweep

falls_as : (u d w : Table) (i m m' : ℕ) → clock d i ≡ clock u i → m ≡ m' → Falls d w i m → Falls u w i m'
falls_as u d w i m m' e q f =
    ⊎_elim
    (λ h. inl (sym q ∙ h.0, h.1 ∙ e))
    (λ h. inr (sym q ∙ h.0, rw (← e) h.1, h.2 ∙ ap up e)) f

-- from u to w each index falls where the rule drops the value of its key
abbrev Sweep : (ℕ → ℕ → Bool) → Table → Table → Type 0
Sweep keeps u w = (i : ℕ) → i < W → Falls u w i (drops keeps i (find u (own u i)))

sweep_same : (keeps : ℕ → ℕ → Bool) (u : Table) → Sound u → ((q : ℕ) → q < u.head.n → keeps (idx (key u q)) (val u q) ≡ true) → Sweep keeps u u
sweep_same keeps u a h i w =
    inl (
      split (is_live u (idx (own u i)) (version (own u i)))
          (λ e.
          let l = live u _ _ e in
          let p = live-place u a (own u i) l in
          let y : keeps i (val u (link u (idx (own u i)))) ≡ true =
          ap (λ (z : ℕ). keeps z (val u (link u (idx (own u i))))) (sym (p.1 ∙ idx-pack i (clock u i) w)) ∙ h _ p.0 in
          rw (find-live u (own u i) l, y))
          (λ e. rw (find-dead u (own u i) e)),
      refl,
    )

module _ (keeps : ℕ → ℕ → Bool) (u w : Table) (p : ℕ) (a : Sound u) (l : p < u.head.n) (n : keeps (idx (key u p)) (val u p) ≡ false)
    (rest : Sweep keeps (dropped u p) w) where
  oj : Occupied u (idx (key u p))
  oj = stored-occupied u a p l

  c : Leaves u (dropped u p) (idx (key u p))
  c = dropped_leaves u a p l

  -- the slot of the dropped element is free then, so nothing more is dropped there
  none_left : find (dropped u p) (own (dropped u p) (idx (key u p))) ≡ none
  none_left =
      find_not (dropped u p) _ (λ f.
      let e : idx (own (dropped u p) (idx (key u p))) ≡ idx (key u p) = idx-pack _ _ (omega arith) in
      omega (arith, f.same, ap (ver (dropped u p)) e, version-odd (own (dropped u p) (idx (key u p))), c.ver_at, oj.odd))

  own_stored : own u (idx (key u p)) ≡ key u p
  own_stored = ap (pack (idx (key u p))) (clock_was u (dropped u p) (orderly u a) _ oj c (idx (key u p)) ∙ (a.homes p l).same) ∙ omega arith

  sweep_at : Falls u w (idx (key u p)) (drops keeps (idx (key u p)) (find u (own u (idx (key u p)))))
  sweep_at =
      let d : clock (dropped u p) (idx (key u p)) ≡ up (clock u (idx (key u p))) =
      freed_clock u (dropped u p) (orderly u a) _ oj c (idx (key u p)) (without-link u (orderly u a) _ oj) in
      let was : clock u (idx (key u p)) ≡ ver u (idx (key u p)) = clock_was u (dropped u p) (orderly u a) _ oj c (idx (key u p)) in
      let f : find u (own u (idx (key u p))) ≡ some (val u p) = ap (find u) own_stored ∙ find-stored u a p l in
      let z : drops keeps (idx (key u p)) (find (dropped u p) (own (dropped u p) (idx (key u p)))) ≡ 0 = ap (drops keeps (idx (key u p))) none_left in
      ⊎_elim
      (λ h. inr (ap (drops keeps (idx (key u p))) f ∙ ap (λ (b : Bool). cond b 0 1) n, omega (arith, was, oj.odd), h.1 ∙ d))
      (λ h. absurd (omega (arith, z, h.0)))
      (rest (idx (key u p)) (omega arith))

  sweep_off : (i : ℕ) → i < W → idx (key u p) ≢ i → Falls u w i (drops keeps i (find u (own u i)))
  sweep_off i hi ne =
      let e : clock (dropped u p) i ≡ clock u i = leave_off u (dropped u p) (orderly u a) _ oj c i ne in
      let q : as_read (own u i) ≢ key u p = λ z. ne (ap idx (sym z) ∙ idx-read (own u i) ∙ idx-pack i (clock u i) hi) in
      let f : find (dropped u p) (own (dropped u p) i) ≡ find u (own u i) =
      ap (λ (m : ℕ). find (dropped u p) (pack i m)) e ∙ find_dropped u a p l (own u i) ∙ ap (λ (b : Bool). cond b none (find u (own u i))) (ne_eqb _ _ q) in
      falls_as u (dropped u p) w i _ _ e (ap (drops keeps i) f) (rest i hi)

  sweep_drop : Sweep keeps u w
  sweep_drop i hi =
      by_cases (ℕ_discrete (idx (key u p)) i)
      (λ e. subst (λ (z : ℕ). Falls u w z (drops keeps z (find u (own u z)))) e sweep_at)
      (sweep_off i hi)

-- ---- the calls

module _ (t : Table) (base : Reading) (b : Begins t base) (i : ℕ) (hi : i < W) where
  o : Orderly t
  o = orderly t b.sound

  still : (u : Table) → clock u i ≡ clock t i → Turns t u i 0
  still u e = inl (inl (refl, e))

  -- the reading knows the index's own key, whether or not it is read as itself
  own_value : value_in base.live (own t i) ≡ find t (own t i)
  own_value =
      by_cases (mem_dec (own t i) (keys_of base.live))
      (λ m. base_value t base b (own t i) (b.live_read _ m))
      (λ nm.
      none-value base.live (own t i) nm
      ∙ sym (b.finds (own t i) ∙ none-value base.live (as_read (own t i)) (λ m.
      nm (Memᴰ.cast (sym (live_own_key t base b _ m ∙ ap (own t) (idx-read (own t i) ∙ idx-pack i (clock t i) hi))) m))))

  -- what a rule drops at the index is what it drops of that key
  dropped_own : (keeps : ℕ → ℕ → Bool) → dropped_at keeps i base.live ≡ drops keeps i (find t (own t i))
  dropped_own keeps =
      let e : idx (own t i) ≡ i = idx-pack i (clock t i) hi in
      subst (λ (z : ℕ). dropped_at keeps z base.live ≡ drops keeps z (value_in base.live (own t i))) e
      (dropped_one keeps (own t i) base.live b.live_once (λ j m q. live_own_key t base b j m ∙ ap (own t) (q ∙ e)))
      ∙ ap (drops keeps i) own_value

  put_clock : (p x : ℕ) → clock (with_value t p x) i ≡ clock t i
  unfolding with_value
  put_clock p x = clock_same t (with_value t p x) i (λ h. h) (λ h. h) refl (λ _. refl)

  outcome_turns : (c : Call) (r : Out) → Outcome t c r → Turns t r.1 i (removed_at (change c r.0) i base)
  unfolding change removed_at
  outcome_turns c r (refuses {r = n} e) = rw (change-refused c n) (still t refl)
  outcome_turns c r (looks k l) = still t refl
  outcome_turns c r (puts k x l) = still _ (put_clock _ x)
  outcome_turns c r (takes x h) =
      let e = head_free t o h in
      issued_turns t _ _ _ x (omega (arith, e.vacant.even)) (taken_widens t o x h) (taken-enters t o x h) i
      (ap (λ (m : ℕ). m + 1) (clock_free t _ h e.vacant.even (λ q. omega (arith, q, e, o.shape))))
  outcome_turns c r (grows x h e) =
      issued_turns t _ _ 1 x refl (grown_widens t o x h e) (grown-enters t o x h e) i (ap (λ (m : ℕ). m + 1) (clock_new t _ (omega arith)))
  outcome_turns c r (removes k l) =
      let ok = live-occupied t b.sound k l in
      rw (idx-read k) (inl (freed_falls t _ o (idx k) ok (without-leaves t o _ ok) i (without-link t o _ ok)))
  outcome_turns c r (detaches k l) =
      let ok = live-occupied t b.sound k l in
      still _ (parted_still t _ o (idx k) ok (apart_leaves t o _ ok) i (apart_link t o _ ok) (o.word _ l.high))
  outcome_turns c r (reattaches k x d) =
      let v = detached_vacant t b.sound k d in
      still _ (returned_still t _ (idx k) (version k) x (version-odd k) (rejoined_widens t o _ _ x v d.away) (rejoined_enters t o _ _ x v d.away) i
      (clock_away t (idx k) d.high v.even d.away ∙ ap down d.same ∙ down-up (version k) (version_word k)))
  outcome_turns c r (drains h) =
      let l : last t < t.head.n = omega arith in
      let oj = stored-occupied t b.sound (last t) l in
      rw (idx-read (key t (last t))) (inl (freed_falls t _ o _ oj (dropped_leaves t b.sound (last t) l) i (without-link t o _ oj)))
  outcome_turns c r (done h) = still t refl
  outcome_turns c r (retains rule) =
      rw (dropped_own (keeps_of rule)) (inl (retained (keeps_of rule) (Sweep (keeps_of rule)) (sweep_same (keeps_of rule)) (sweep_drop (keeps_of rule)) t b.sound i hi))
  outcome_turns c r clears =
      rw (dropped_own (λ j x. false))
      (inl (cleared (Sweep (λ j x. false)) (λ u a z. sweep_same (λ j x. false) u a (λ q l. absurd (omega arith))) (λ u w p a l. sweep_drop (λ j x. false) u w p a l refl) t b.sound i hi))

  pub step_turns : (c : Call) → Turns t (step t c).1 i (removed_at (change c (step t c).0) i base)
  step_turns c = outcome_turns c (step t c) (outcome t b.sound c)
