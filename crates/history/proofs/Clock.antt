-- A slot's clock: the version of its element, live or detached; where it is free, its version; where it is not yet there, 0. It goes up by one with each
-- insert at the slot and with each removal, and stands still else. So it also tells the one key of an index that can be live or detached. Assumes nothing.
use mathlib.Core.Path.{◌≡◌, refl, sym, ap, ◌∙◌}
use mathlib.Core.Logic.{◌≢◌, by_cases}
use mathlib.Core.Bool.{cond}
use Prim.Native.Nat.{ℕ, ◌%◌, ◌≤◌, ◌<◌}
use native.Mathlib.Omega.{arith}
use native.Mathlib.Decide.{ℕ_discrete, dec_lt}
use lib.Dec.{ltb, eqb}
use borrow.Author.Tests.{lt-ltb, le-ltb, eq-eqb, ne_eqb}
use Rattle.keys.specs.Keys.{far, idx, pack, version, as_read, down}
use Rattle.keys.proofs.Keys.{version-odd, version_word, is_read}
use Rattle.keys.proofs.Versions.{down-up}
use Rattle.table.specs.Table.{Table, ver, link}
use Rattle.table.specs.Sound.{is_odd}
use Rattle.table.proofs.Judged.{Live}
use Rattle.table.proofs.Facts.{Detached}

unfoldable pub clock : Table → ℕ → ℕ
clock t i = cond (ltb i t.head.s) (cond (is_odd t i) (ver t i) (cond (eqb (link t i) far) (down (ver t i)) (ver t i))) 0

module _ (t : Table) (i : ℕ) where
  pub clock_odd : i < t.head.s → ver t i % 2 ≡ 1 → clock t i ≡ ver t i
  unfolding clock
  clock_odd h o = rw (lt-ltb i t.head.s h, eq-eqb (ver t i % 2) 1 o)

  pub clock_away : i < t.head.s → ver t i % 2 ≡ 0 → link t i ≡ far → clock t i ≡ down (ver t i)
  unfolding clock
  clock_away h e f = rw (lt-ltb i t.head.s h, ne_eqb (ver t i % 2) 1 (λ q. omega (arith, q, e)), eq-eqb (link t i) far f)

  pub clock_free : i < t.head.s → ver t i % 2 ≡ 0 → link t i ≢ far → clock t i ≡ ver t i
  unfolding clock
  clock_free h e nf = rw (lt-ltb i t.head.s h, ne_eqb (ver t i % 2) 1 (λ q. omega (arith, q, e)), ne_eqb (link t i) far nf)

  pub clock_new : t.head.s ≤ i → clock t i ≡ 0
  unfolding clock
  clock_new h = rw (le-ltb i t.head.s h)

-- a slot that a call leaves alone
pub clock_same : (t u : Table) (i : ℕ) → (i < u.head.s → i < t.head.s) → (i < t.head.s → i < u.head.s) → ver u i ≡ ver t i
    → (ver t i % 2 ≡ 0 → link u i ≡ link t i) → clock u i ≡ clock t i
clock_same t u i su us v l =
    by_cases (dec_lt i t.head.s)
    (λ h. by_cases (ℕ_discrete (ver t i % 2) 1)
    (λ o. clock_odd u i (us h) (rw v o) ∙ v ∙ sym (clock_odd t i h o))
    (λ no.
    let e : ver t i % 2 ≡ 0 = omega (arith, no) in
    by_cases (ℕ_discrete (link t i) far)
    (λ f. clock_away u i (us h) (rw v e) (l e ∙ f) ∙ ap down v ∙ sym (clock_away t i h e f))
    (λ nf. clock_free u i (us h) (rw v e) (λ q. nf (sym (l e) ∙ q)) ∙ v ∙ sym (clock_free t i h e nf))))
    (λ h.
    let b : t.head.s ≤ i = omega (arith, h) in
    let d : u.head.s ≤ i = by_cases (dec_lt i u.head.s) (λ q. absurd (h (su q))) (λ q. omega (arith, q)) in
    clock_new u i d ∙ sym (clock_new t i b))

-- ---- the one key of an index that can be live or detached

abbrev pub own : Table → ℕ → ℕ
own t i = pack i (clock t i)

pub live_own : (t : Table) (k : ℕ) → Live t (idx k) (version k) → as_read k ≡ own t (idx k)
live_own t k l =
    is_read k (idx k) (version k) refl refl
    ∙ ap (pack (idx k)) (sym (clock_odd t (idx k) l.high (omega (arith, l.same, version-odd k)) ∙ l.same))

pub away_own : (t : Table) (k : ℕ) → Detached t (idx k) (version k) → as_read k ≡ own t (idx k)
away_own t k d =
    is_read k (idx k) (version k) refl refl
    ∙ ap (pack (idx k)) (sym (clock_away t (idx k) d.high (omega (arith, d.same, version-odd k)) d.away ∙ ap down d.same ∙ down-up (version k) (version_word k)))
