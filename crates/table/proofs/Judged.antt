-- What an accepted judgement tells of the table: the bounds that the stores need. Assumes nothing.
use mathlib.Core.Path.{◌≡◌, refl, ap}
use mathlib.Core.Bool.{Bool, true, false, cond}
use Prim.Native.Nat.{ℕ, ◌-◌, ◌≤◌, ◌<◌}
use native.Mathlib.Omega.{arith}
use lib.Dec.{ltb}
use lib.ListN.{length}
use borrow.Author.Tests.{ltb-true, ltb-false}
use Rattle.keys.specs.Keys.{idx, vsn, pack, version, odd}
use Rattle.lists.proofs.Tests.{split, parts}
use Rattle.table.specs.Table.{Table, ver, link, key, cap, has_shape, is_live, is_held, is_detached, last, last_idx, last_in_range, last_is_held, head_is_free}
use Rattle.table.specs.Calls.{Judged, found, fails, place_in, place, next_in, next, last_of, leaving, berth_in, berth}
use Rattle.table.proofs.Shape.{Shape, shape}

-- ---- an acceptance has passed the test before it, and comes from what follows the test

pub passed : (b : Bool) (x : Judged) (r p : ℕ) → cond b x (fails r) ≡ found p → b ≡ true
passed true x r p e = refl
passed false x r p e = cc

pub went : (b : Bool) (x : Judged) (r p : ℕ) → cond b x (fails r) ≡ found p → x ≡ found p
went true x r p e = e
went false x r p e = cc

pub found-same : (a b : ℕ) → found a ≡ found b → a ≡ b
found-same a b e = cc

-- ---- lookup's judgement

pub record Live (t : Table) (i v : ℕ) : Type 0 where
  pub low : 1 ≤ i
  pub high : i < t.head.s
  pub same : ver t i ≡ v

pub live : (t : Table) (i v : ℕ) → is_live t i v ≡ true → Live t i v
unfolding is_live
live t i v e = search parts

pub record Standing (t : Table) (i v p : ℕ) : Type 0 where
  pub shape : Shape t
  pub low : 1 ≤ i
  pub high : i < t.head.s
  pub same : ver t i ≡ v
  pub linked : link t i ≡ p
  pub inside : p < t.head.n
  pub held : key t p ≡ pack i v

pub standing : (t : Table) (k p : ℕ) → place t k ≡ found p → Standing t (idx k) (version k) p
unfolding place place_in is_held
standing t k p e =
    let sh : Shape t = shape t (search passed) in
    let w : place_in t (idx k) (version k) ≡ found p = search went in
    let lv : is_live t (idx k) (version k) ≡ true = search passed in
    let a = live t (idx k) (version k) lv in
    let l : link t (idx k) ≡ p = search (passed, went, found-same) in
    let h : link t (idx k) < t.head.n = search (passed, went, parts) in
    let g : key t (link t (idx k)) ≡ pack (idx k) (version k) = search (passed, went, parts) in
    record { shape = sh; low = a.low; high = a.high; same = a.same; linked = l; inside = omega arith; held = rw l at g }

-- ---- insert's judgement

-- place n and the slot that is taken are in the arrays
pub record Roomy (t : Table) : Type 0 where
  pub shape : Shape t
  pub place : t.head.n < cap t
  pub slot : t.head.f < length t.versions

pub roomy : (t : Table) (k : ℕ) → next t ≡ found k → Roomy t
unfolding next next_in head_is_free
roomy t k e =
    let sh : Shape t = shape t (search passed) in
    split (ltb t.head.f t.head.s)
    (λ h.
    let w = went (has_shape t) _ _ _ e in
    let e1 : cond (head_is_free t) (found (pack t.head.f (odd (ver t t.head.f)))) (fails 5) ≡ found k = search (simp h at w) in
    let l : t.head.n < t.head.s - 1 = search (passed, parts) in
    record { shape = sh; place = omega (arith, ltb-true, ltb-false); slot = omega (arith, ltb-true, ltb-false) })
    (λ h.
    let l : t.head.s ≤ cap t = search (passed, parts, simp h at (went (has_shape t) _ _ _ e)) in
    record { shape = sh; place = omega (arith, ltb-true, ltb-false); slot = omega (arith, ltb-true, ltb-false) })

-- ---- remove's and detach's judgement

-- slot i can be freed and place p closed
pub record Leaving (t : Table) (i p : ℕ) : Type 0 where
  pub shape : Shape t
  pub low : 1 ≤ i
  pub slot : i < t.head.s
  pub linked : link t i ≡ p
  pub held : p < t.head.n
  pub moved : last_idx t < t.head.s

pub last-of : (t : Table) (j : Judged) (p : ℕ) → last_of t j ≡ found p → (j ≡ found p) × (last_in_range t ≡ true)
last-of t (found q) p e = (ap found (found-same _ _ (went (last_in_range t) _ 5 p e)), passed (last_in_range t) _ 5 p e)
last-of t (fails r) p e = absurd (let z : ◌≡◌ {A = ℕ} 0 1 = cc in omega arith)

pub leaves : (t : Table) (k p : ℕ) → leaving t k ≡ found p → Leaving t (idx k) p
unfolding leaving last_in_range
leaves t k p e =
    let w = last-of t (place t k) p e in
    let high : last_idx t < t.head.s = search (parts, w.1) in
    let a = standing t k p w.0 in
    record { shape = a.shape; low = a.low; slot = a.high; linked = a.linked; held = a.inside; moved = high }

-- ---- reattach's judgement

-- slot i and place n are in the arrays
pub record Joining (t : Table) (i : ℕ) : Type 0 where
  pub shape : Shape t
  pub slot : i < t.head.s
  pub place : t.head.n < t.head.s - 1

pub joins : (t : Table) (k i : ℕ) → berth t k ≡ found i → Joining t i
unfolding berth berth_in is_detached
joins t k i e =
    let sh : Shape t = shape t (search passed) in
    let same : idx k ≡ i = search (passed, went, found-same) in
    let high : idx k < t.head.s = search (passed, went, parts) in
    record { shape = sh; slot = omega arith; place = search (passed, went, parts) }

-- ---- the drain step's judgement

pub record Due (t : Table) : Type 0 where
  pub low : 1 ≤ last_idx t
  pub high : last_idx t < t.head.s
  pub same : ver t (last_idx t) ≡ vsn (key t (last t))
  pub back : link t (last_idx t) ≡ last t

pub due : (t : Table) → last_is_held t ≡ true → Due t
unfolding last_is_held last_in_range
due t e = search parts
