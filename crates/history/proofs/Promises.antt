-- Theorems B and C: from any table that reads as a base, and so from a fresh one, after any list of calls every call answers what the reading says,
-- for every number given as a key; and the key that an insert answers is new. Assumes nothing.
use mathlib.Core.Path.{◌≡◌, refl, sym, ap, ap₂, ◌∙◌, subst}
use mathlib.Core.Logic.{◌↔◌, by_cases}
use mathlib.Core.Bool.{Bool, false, cond}
use mathlib.Core.List.{List, [], ◌∷◌, ◌++◌, Memᴰ}
use mathlib.Core.Option.{Option, none, some}
use Prim.Native.Nat.{ℕ, ◌+◌, ◌<◌}
use native.Mathlib.Nat.{zero-add}
use native.Mathlib.Omega.{arith}
use native.Mathlib.Decide.{dec_lt}
use Rattle.lists.proofs.Tests.{split}
use Rattle.lists.specs.Among.{among}
use Rattle.keys.specs.Keys.{idx, version, as_read}
use Rattle.rules.specs.declared.Rule.{Rule}
use Rattle.table.specs.Table.{Table, link, key, val, is_live, dead, is_detached, last}
use Rattle.table.specs.Calls.{Said, said_key, said_value, said_pair, said_done, said_truth, refused, Out, contains, lookup, put, insert, remove, detach, reattach, drain}
use Rattle.table.specs.Sweeps.{retain, clear}
use Rattle.table.specs.Sound.{Sound}
use Rattle.table.specs.Steps.{Call, c_insert, step, after, history}
use Rattle.history.specs.Reading.{Change, change, Reading, changed, reading, value_in, removed_at, removals, keys_of}
use Rattle.history.specs.Begins.{find, away, Begins, value_or, is_some}
use Rattle.table.proofs.Refused.{refused-keeps}
use Rattle.history.proofs.Readings.{mem_value}
use Rattle.table.proofs.Judged.{Live, live}
use Rattle.table.proofs.Facts.{detached_facts}
use Rattle.table.proofs.Cases.{live-place, stored-read, lookup-live, lookup-dead, put-live, put-dead, remove-live, remove-dead, detach-live, detach-dead, reattach-met, reattach_not, drain-some, drain-none, retain_is, clear_is}
use Rattle.history.proofs.Follows.{find-live, find-dead, find_not, find-stored}
use Rattle.history.proofs.Answers.{change-refused}
use Rattle.history.proofs.Begins.{Absent, Fits, step_fits, insert-read, base_value, base_away, begins-after}

-- ---- on a sound table, by what lookup finds

module _ (t : Table) (a : Sound t) (k : ℕ) where
  said_by : (s : Said) → (Live t (idx k) (version k) → s ≡ said_value (val t (link t (idx k)))) → (is_live t (idx k) (version k) ≡ false → s ≡ refused (dead t (idx k) (version k)))
      → s ≡ value_or t k (find t k)
  said_by s f g =
      split (is_live t (idx k) (version k))
      (λ e. let l = live t _ _ e in f l ∙ sym (ap (value_or t k) (find-live t k l)))
      (λ e. g e ∙ sym (ap (value_or t k) (find-dead t k e)))

  answer : {o o' : Out} → o ≡ o' → o.0 ≡ o'.0
  answer e = ap (λ (o : Out). o.0) e

  lookup-said : (lookup t k).0 ≡ value_or t k (find t k)
  lookup-said = said_by _ (λ l. answer (lookup-live t a k l)) (λ e. answer (lookup-dead t a k e))

  contains-said : contains t k ≡ said_truth (is_some (find t k))
  unfolding contains find
  contains-said = rw a.shape (split (is_live t (idx k) (version k)) (λ e. rw e) (λ e. rw e))

  put-said : (x : ℕ) → (put t k x).0 ≡ value_or t k (find t k)
  put-said x = said_by _ (λ l. answer (put-live t a k x l)) (λ e. answer (put-dead t a k x e))

  remove-said : (remove t k).0 ≡ value_or t k (find t k)
  remove-said = said_by _ (λ l. answer (remove-live t a k l)) (λ e. answer (remove-dead t a k e))

  detach-said : (detach t k).0 ≡ value_or t k (find t k)
  detach-said = said_by _ (λ l. answer (detach-live t a k l)) (λ e. answer (detach-dead t a k e))

  reattach-said : (x : ℕ) → (reattach t k x).0 ≡ cond (away t k) said_done (refused 4)
  reattach-said x =
      split (away t k)
      (λ e. answer (reattach-met t a k x (detached_facts t _ _ e)) ∙ sym (ap (λ (b : Bool). cond b said_done (refused 4)) e))
      (λ e. answer (reattach_not t a k x e) ∙ sym (ap (λ (b : Bool). cond b said_done (refused 4)) e))

-- a list with no key has no entry
no_keys : (l : List (ℕ × ℕ)) → ((k : ℕ) → Memᴰ k (keys_of l) → ⊥) → l ≡ []
no_keys [] h = refl
no_keys (e ∷ l) h = absurd (h e.0 (Memᴰ.head refl))

-- ---- Theorem B

module _ (t : Table) (base : Reading) (b : Begins t base) (cs : List Call) where
  now : Begins (after t cs) (reading base (history t cs))
  now = begins-after t base b cs

  pub lookup-reads : (k : ℕ) → (lookup (after t cs) k).0 ≡ value_or (after t cs) k (value_in (reading base (history t cs)).live (as_read k))
  lookup-reads k = lookup-said (after t cs) now.sound k ∙ ap (value_or (after t cs) k) (now.finds k)

  -- whether a key lives may be asked
  pub contains-reads : (k : ℕ) → contains (after t cs) k ≡ said_truth (is_some (value_in (reading base (history t cs)).live (as_read k)))
  contains-reads k = contains-said (after t cs) now.sound k ∙ ap (λ (g : Option ℕ). said_truth (is_some g)) (now.finds k)

  pub put_reads : (k x : ℕ) → (put (after t cs) k x).0 ≡ value_or (after t cs) k (value_in (reading base (history t cs)).live (as_read k))
  put_reads k x = put-said (after t cs) now.sound k x ∙ ap (value_or (after t cs) k) (now.finds k)

  pub remove-reads : (k : ℕ) → (remove (after t cs) k).0 ≡ value_or (after t cs) k (value_in (reading base (history t cs)).live (as_read k))
  remove-reads k = remove-said (after t cs) now.sound k ∙ ap (value_or (after t cs) k) (now.finds k)

  pub detach-reads : (k : ℕ) → (detach (after t cs) k).0 ≡ value_or (after t cs) k (value_in (reading base (history t cs)).live (as_read k))
  detach-reads k = detach-said (after t cs) now.sound k ∙ ap (value_or (after t cs) k) (now.finds k)

  -- the reattach rule is met exactly where the reading says detached, and reattach is accepted exactly there
  pub detached-reads : (k : ℕ) → is_detached (after t cs) (idx k) (version k) ≡ among (as_read k) (reading base (history t cs)).detached
  detached-reads k = now.aways k

  pub reattach-reads : (k x : ℕ) → (reattach (after t cs) k x).0 ≡ cond (among (as_read k) (reading base (history t cs)).detached) said_done (refused 4)
  reattach-reads k x = reattach-said (after t cs) now.sound k x ∙ ap (λ (d : Bool). cond d said_done (refused 4)) (now.aways k)

  pub retain-reads : (rule : Rule) → (retain (after t cs) rule).0 ≡ said_done
  retain-reads rule = ap (λ (o : Out). o.0) (retain_is (after t cs) now.sound rule)

  pub clear_reads : (clear (after t cs)).0 ≡ said_done
  clear_reads = ap (λ (o : Out). o.0) (clear_is (after t cs) now.sound)

  -- ---- Theorem C

  -- the key is answered as it is read, and neither lives nor is detached
  pub insert-new : (x k : ℕ) → (insert (after t cs) x).0 ≡ said_key k
      → (as_read k ≡ k) × (value_in (reading base (history t cs)).live k ≡ none) × (among k (reading base (history t cs)).detached ≡ false)
  unfolding step change
  insert-new x k e =
      let q = insert-read (after t cs) now.sound x k e in
      let g : Absent (after t cs) (as_read k) false = subst (λ (s : Said). Fits (after t cs) (change (c_insert x) s)) e (step_fits (after t cs) now.sound (c_insert x)) in
      let f : Absent (after t cs) k false = rw q at g in (
        q,
        base_value (after t cs) _ now k q ∙ f.lost,
        base_away (after t cs) _ now k q ∙ f.whether_away,
      )

  -- ---- the drain step

  -- the last place's key lives by the reading, with its value
  last-lives : 0 < (after t cs).head.n → value_in (reading base (history t cs)).live (key (after t cs) (last (after t cs))) ≡ some (val (after t cs) (last (after t cs)))
  last-lives h =
      let u = after t cs in
      let l : last (after t cs) < (after t cs).head.n = omega arith in
      base_value (after t cs) _ now _ (stored-read (after t cs) now.sound _ l) ∙ find-stored (after t cs) now.sound _ l

  -- where there is no element, no key lives
  none-lives : (after t cs).head.n ≡ 0 → (k : ℕ) → Memᴰ k (keys_of (reading base (history t cs)).live) → ⊥
  none-lives h k m =
      let v = mem_value (reading base (history t cs)).live k m in
      let f : find (after t cs) k ≡ none = find_not (after t cs) k (λ l. omega (arith, live-place (after t cs) now.sound k l)) in
      let e : some v.0 ≡ none = sym v.1 ∙ base_value (after t cs) _ now k (now.live_read k m) ∙ f in
      let z : ◌≡◌ {A = ℕ} 0 1 = cc in
      omega arith

  -- what it answers was live, with that value
  pub drain-lives : (k x : ℕ) → (drain (after t cs)).0 ≡ said_pair k x → value_in (reading base (history t cs)).live k ≡ some x
  drain-lives k x e =
      by_cases (dec_lt 0 (after t cs).head.n)
      (λ h.
      let d : (drain (after t cs)).0 ≡ said_pair (key (after t cs) (last (after t cs))) (val (after t cs) (last (after t cs))) =
      ap (λ (o : Out). o.0) (drain-some (after t cs) now.sound h) in
      let ek : key (after t cs) (last (after t cs)) ≡ k = cc in
      let ex : val (after t cs) (last (after t cs)) ≡ x = cc in
      ap (value_in (reading base (history t cs)).live) (sym ek) ∙ last-lives h ∙ ap some ex)
      (λ h.
      let d : (drain (after t cs)).0 ≡ said_done = ap (λ (o : Out). o.0) (drain-none (after t cs) now.sound (omega (arith, h))) in
      let z : ◌≡◌ {A = ℕ} 0 1 = cc in
      absurd (omega arith))

  -- it is done exactly when no key lives
  pub drain-reads : ((drain (after t cs)).0 ≡ said_done) ↔ ((reading base (history t cs)).live ≡ [])
  unfolding value_in
  drain-reads =
      by_cases (dec_lt 0 (after t cs).head.n)
      (λ h.
      let d : (drain (after t cs)).0 ≡ said_pair (key (after t cs) (last (after t cs))) (val (after t cs) (last (after t cs))) =
      ap (λ (o : Out). o.0) (drain-some (after t cs) now.sound h) in (
        (λ e. let z : ◌≡◌ {A = ℕ} 0 1 = cc in absurd (omega arith)),
        λ e.
            let f = last-lives h in
            let q : none ≡ some (val (after t cs) (last (after t cs))) = ap (λ (l : List (ℕ × ℕ)). value_in l (key (after t cs) (last (after t cs)))) (sym e) ∙ f in
            let z : ◌≡◌ {A = ℕ} 0 1 = cc in
            absurd (omega arith),
      ))
      (λ h.
      let e : (after t cs).head.n ≡ 0 = omega (arith, h) in
      ((λ _. no_keys _ (none-lives e)), λ _. ap (λ (o : Out). o.0) (drain-none (after t cs) now.sound e)))

-- ---- a refused call may be left out of the list: of any table, the table after it, the reading and the removals are the same

module _ (t : Table) (base : Reading) (cs : List Call) (c : Call) (n : ℕ) (e : (step (after t cs) c).0 ≡ refused n) where
  pub refused-drop-table : (ds : List Call) → after t (ds ++ (c ∷ cs)) ≡ after t (ds ++ cs)
  unfolding after
  refused-drop-table [] = refused-keeps (after t cs) c n e
  refused-drop-table (d ∷ ds) = ap (λ (u : Table). (step u d).1) (refused-drop-table ds)

  pub refused-drop : (ds : List Call) → reading base (history t (ds ++ (c ∷ cs))) ≡ reading base (history t (ds ++ cs))
  unfolding history reading changed
  refused-drop [] = ap (λ (s : Said). changed (change c s) (reading base (history t cs))) e ∙ ap (λ (d : Change). changed d (reading base (history t cs))) (change-refused c n)
  refused-drop (d ∷ ds) = ap₂ (λ (u : Table) (r : Reading). changed (change d (step u d).0) r) (refused-drop-table ds) (refused-drop ds)

  pub refused-drop-removals : (i : ℕ) (ds : List Call) → removals base (history t (ds ++ (c ∷ cs))) i ≡ removals base (history t (ds ++ cs)) i
  unfolding history removals removed_at
  refused-drop-removals i [] =
      ap (λ (s : Said). removed_at (change c s) i (reading base (history t cs)) + removals base (history t cs) i) e
      ∙ ap (λ (d : Change). removed_at d i (reading base (history t cs)) + removals base (history t cs) i) (change-refused c n)
      ∙ zero-add (removals base (history t cs) i)
  refused-drop-removals i (d ∷ ds) =
      ap₂ ◌+◌ (ap₂ (λ (u : Table) (r : Reading). removed_at (change d (step u d).0) i r) (refused-drop-table ds) (refused-drop ds)) (refused-drop-removals i ds)
