-- The outcomes of the calls on a sound table as one type: what is proved of each outcome holds of every call. Assumes nothing.
use mathlib.Core.Path.{◌≡◌, sym, subst}
use mathlib.Core.Logic.{by_cases}
use mathlib.Core.Bool.{false}
use Prim.Native.Nat.{ℕ, ◌+◌, ◌≤◌, ◌<◌}
use native.Mathlib.Omega.{arith}
use native.Mathlib.Decide.{dec_lt}
use Rattle.lists.proofs.Tests.{split}
use Rattle.keys.specs.Keys.{idx, pack, version}
use Rattle.rules.specs.declared.Rule.{Rule}
use Rattle.rules.specs.Rules.{keeps_of}
use Rattle.table.specs.Table.{Table, ver, link, key, val, cap, is_live, dead, is_detached, last, last_idx, with_value}
use Rattle.table.specs.Calls.{said_key, said_value, said_pair, said_done, refused, Out}
use Rattle.table.specs.Sound.{Sound}
use Rattle.table.specs.Sweeps.{retaining, clearing}
use Rattle.table.specs.Steps.{Call, c_lookup, c_put, c_insert, c_remove, c_detach, c_reattach, c_drain, c_retain, c_clear, step}
use Rattle.table.proofs.Judged.{Live, live}
use Rattle.table.proofs.Facts.{Detached, detached_facts}
use Rattle.table.proofs.Leave.{without, apart}
use Rattle.table.proofs.Enter.{taken, grown, rejoined}
use Rattle.table.proofs.Cases.{lookup-live, lookup-dead, put-live, put-dead, remove-live, remove-dead, detach-live, detach-dead, reattach-met, reattach_not, insert_ways, insert-taken, insert-grown, insert-full, drain-some, drain-none, retain_is, clear_is}

-- why a call is refused, and the number
pub data Refusal (t : Table) : Call → ℕ → Type 0 where
  dead-lookup : (k : ℕ) → is_live t (idx k) (version k) ≡ false → Refusal t (c_lookup k) (dead t (idx k) (version k))
  dead-put : (k x : ℕ) → is_live t (idx k) (version k) ≡ false → Refusal t (c_put k x) (dead t (idx k) (version k))
  dead-remove : (k : ℕ) → is_live t (idx k) (version k) ≡ false → Refusal t (c_remove k) (dead t (idx k) (version k))
  dead-detach : (k : ℕ) → is_live t (idx k) (version k) ≡ false → Refusal t (c_detach k) (dead t (idx k) (version k))
  not_away : (k x : ℕ) → is_detached t (idx k) (version k) ≡ false → Refusal t (c_reattach k x) 4
  full : (x : ℕ) → t.head.f ≡ t.head.s → t.head.s ≡ cap t + 1 → Refusal t (c_insert x) 3

pub data Outcome (t : Table) : Call → Out → Type 0 where
  refuses : {c : Call} {r : ℕ} → Refusal t c r → Outcome t c (refused r, t)
  looks : (k : ℕ) → Live t (idx k) (version k) → Outcome t (c_lookup k) (said_value (val t (link t (idx k))), t)
  puts : (k x : ℕ) → Live t (idx k) (version k) → Outcome t (c_put k x) (said_value (val t (link t (idx k))), with_value t (link t (idx k)) x)
  takes : (x : ℕ) → t.head.f < t.head.s → Outcome t (c_insert x) (said_key (pack t.head.f (ver t t.head.f + 1)), taken t x)
  grows : (x : ℕ) → t.head.f ≡ t.head.s → t.head.s ≤ cap t → Outcome t (c_insert x) (said_key (pack t.head.s 1), grown t x)
  removes : (k : ℕ) → Live t (idx k) (version k) → Outcome t (c_remove k) (said_value (val t (link t (idx k))), without t (idx k))
  detaches : (k : ℕ) → Live t (idx k) (version k) → Outcome t (c_detach k) (said_value (val t (link t (idx k))), apart t (idx k))
  reattaches : (k x : ℕ) → Detached t (idx k) (version k) → Outcome t (c_reattach k x) (said_done, rejoined t (idx k) (version k) x)
  drains : 0 < t.head.n → Outcome t c_drain (said_pair (key t (last t)) (val t (last t)), without t (last_idx t))
  done : t.head.n ≡ 0 → Outcome t c_drain (said_done, t)
  retains : (rule : Rule) → Outcome t (c_retain rule) (said_done, retaining (keeps_of rule) t.head.n 0 t)
  clears : Outcome t c_clear (said_done, clearing t.head.n t)

module _ (t : Table) (a : Sound t) where
  is : (c : Call) (o : Out) {o' : Out} → o ≡ o' → Outcome t c o' → Outcome t c o
  is c o e h = subst (Outcome t c) (sym e) h

  pub outcome : (c : Call) → Outcome t c (step t c)
  unfolding step
  outcome (c_lookup k) =
      split (is_live t (idx k) (version k))
      (λ e. let l = live t _ _ e in is _ _ (lookup-live t a k l) (looks k l))
      (λ e. is _ _ (lookup-dead t a k e) (refuses (dead-lookup k e)))
  outcome (c_put k x) =
      split (is_live t (idx k) (version k))
      (λ e. let l = live t _ _ e in is _ _ (put-live t a k x l) (puts k x l))
      (λ e. is _ _ (put-dead t a k x e) (refuses (dead-put k x e)))
  outcome (c_insert x) =
      insert_ways t a
      (λ h. is _ _ (insert-taken t a h x) (takes x h))
      (λ e c. is _ _ (insert-grown t a e x c) (grows x e c))
      (λ e c. is _ _ (insert-full t a e x c) (refuses (full x e c)))
  outcome (c_remove k) =
      split (is_live t (idx k) (version k))
      (λ e. let l = live t _ _ e in is _ _ (remove-live t a k l) (removes k l))
      (λ e. is _ _ (remove-dead t a k e) (refuses (dead-remove k e)))
  outcome (c_detach k) =
      split (is_live t (idx k) (version k))
      (λ e. let l = live t _ _ e in is _ _ (detach-live t a k l) (detaches k l))
      (λ e. is _ _ (detach-dead t a k e) (refuses (dead-detach k e)))
  outcome (c_reattach k x) =
      split (is_detached t (idx k) (version k))
      (λ e. let d = detached_facts t _ _ e in is _ _ (reattach-met t a k x d) (reattaches k x d))
      (λ e. is _ _ (reattach_not t a k x e) (refuses (not_away k x e)))
  outcome c_drain =
      by_cases (dec_lt 0 t.head.n)
      (λ h. is _ _ (drain-some t a h) (drains h))
      (λ h. let e : t.head.n ≡ 0 = omega (arith, h) in is _ _ (drain-none t a e) (done e))
  outcome (c_retain rule) = is _ _ (retain_is t a rule) (retains rule)
  outcome c_clear = is _ _ (clear_is t a) clears
