-- An element enters: what the two inserts and reattach have in common, as facts on single slots and places (`Enters`),
-- and that the table is as orderly as before. Assumes nothing.
use mathlib.Core.Path.{◌≡◌, refl, sym, ap, ◌∙◌, subst}
use mathlib.Core.Logic.{◌≢◌, ◌⊎◌, inl, inr, by_cases, ⊎_elim}
use mathlib.Core.List.Memᴰ
use mathlib.Core.List.{List, [], ◌∷◌, Memᴰ}
use Prim.Native.Nat.{ℕ, suc, ◌+◌, ◌%◌, ◌≤◌, ◌<◌}
use native.Mathlib.Omega.{arith}
use native.Mathlib.Decide.{ℕ_discrete}
use lib.ListN.{length-set}
use lib.Seq.{get_or-set_same, get_or-set_other}
use Rattle.keys.specs.Keys.{W, far, idx, vsn, pack}
use Rattle.keys.proofs.Keys.{idx-pack, vsn-pack}
use Rattle.table.specs.declared.Header.{Header}
use Rattle.table.specs.Table.{Table, ver, link, key, val, cap, taken_head, grown_head, rejoined_head, entered}
use Rattle.table.specs.Sound.{Vacant, Home}
use Rattle.table.specs.Frames.{SameLengths}
use Rattle.table.proofs.Shape.{Shape}
use Rattle.table.proofs.Facts.{shape_like}
use Rattle.table.proofs.Chains.{Chain, chain_frame, chain_head, chain_link}
use Rattle.table.proofs.Orderly.{Orderly, Occupied, home_by, home_occupied, room}

-- what the entering of slot i with version v and value x changes, and what it does not
pub record Enters (t u : Table) (i v x : ℕ) : Type 0 where
  pub count : u.head.n ≡ suc t.head.n
  pub lengths : SameLengths t u
  pub ver_at : ver u i ≡ v
  pub ver_off : (k : ℕ) → k ≢ i → ver u k ≡ ver t k
  pub link_at : link u i ≡ t.head.n
  pub link_off : (k : ℕ) → k ≢ i → link u k ≡ link t k
  pub key_at : key u t.head.n ≡ pack i v
  pub key_off : (r : ℕ) → r ≢ t.head.n → key u r ≡ key t r
  pub val_at : val u t.head.n ≡ x
  pub val_off : (r : ℕ) → r ≢ t.head.n → val u r ≡ val t r

-- which slots there are after slot i has entered: i, and those before; and slot i had no element
pub record Widens (t u : Table) (i : ℕ) : Type 0 where
  pub low : 1 ≤ i
  pub high : i < u.head.s
  pub grow : t.head.s ≤ u.head.s
  pub most : u.head.s ≤ cap t + 1
  pub place : t.head.n + 1 < u.head.s
  pub others : (k : ℕ) → k < u.head.s → k ≢ i → k < t.head.s
  pub gap : i < t.head.s → ver t i % 2 ≡ 0

-- ---- an orderly table stays so

module _ (t u : Table) (a : Orderly t) (i v x : ℕ) (od : v % 2 ≡ 1) (wd : v < W) (g : Widens t u i) (c : Enters t u i v x) where
  small : i < W
  small = omega (arith, a.shape, g.high, g.most)

  other : (k : ℕ) → Occupied t k → k ≢ i
  other k o e = omega (arith, o.odd, ap (ver t) e, g.gap (omega (arith, e, o.high)))

  home_after : (r : ℕ) → r < u.head.n → Home u r
  home_after r h =
      by_cases (ℕ_discrete r t.head.n)
      (λ e.
      let k : key u r ≡ pack i v = ap (key u) e ∙ c.key_at in
      let j : idx (key u r) ≡ i = ap idx k ∙ idx-pack i v small in
      let w : vsn (key u r) ≡ v = ap vsn k ∙ vsn-pack i v small in
      record {
        low = rw j g.low;
        high = rw j g.high;
        same = rw j (c.ver_at ∙ sym w);
        odd = rw w od;
        back = rw j (c.link_at ∙ sym e);
      })
      (λ ne.
      let hr : Home t r = a.home r (omega (arith, c.count)) in
      let n1 : idx (key t r) ≢ i = other _ (home_occupied t r hr) in
      home_by t u r r hr (c.key_off r ne) g.grow (c.ver_off _ n1) (c.link_off _ n1 ∙ hr.back))

  odds_after : (k : ℕ) → k < u.head.s → ver u k % 2 ≡ 1 → (link u k < u.head.n) × (idx (key u (link u k)) ≡ k)
  odds_after k h o =
      by_cases (ℕ_discrete k i)
      (λ e.
      let lk : link u k ≡ t.head.n = ap (link u) e ∙ c.link_at in
      (omega (arith, lk, c.count), ap (λ (m : ℕ). idx (key u m)) lk ∙ ap idx c.key_at ∙ idx-pack i v small ∙ sym e))
      (λ ne.
      let lk : link u k ≡ link t k = c.link_off k ne in
      let ok : (link t k < t.head.n) × (idx (key t (link t k)) ≡ k) = a.odds k (g.others k h ne) (rw (c.ver_off k ne) at o) in
      (omega (arith, lk, ok.0, c.count), ap (λ (m : ℕ). idx (key u m)) lk ∙ ap idx (c.key_off _ (λ e. omega (arith, e, ok.0))) ∙ ok.1))

  word_after : (k : ℕ) → k < u.head.s → ver u k < W
  word_after k h =
      by_cases (ℕ_discrete k i)
      (λ e. rw (e, c.ver_at) wd)
      (λ ne. rw (c.ver_off k ne) (a.word k (g.others k h ne)))

  -- the free list afterwards is up to the way in
  entered_orderly : 1 ≤ u.head.f → u.head.f ≤ u.head.s → (l : List ℕ) → Chain u u.head.f l
      → ((k : ℕ) → k ≢ i → Vacant t k → Memᴰ k l ⊎ (link t k ≡ far)) → Orderly u
  entered_orderly fl fh l ch ev =
      record {
        shape = shape_like t u a.shape c.lengths (omega (arith, g.grow, a.shape)) g.most (omega (arith, c.count, g.place)) fl fh;
        zero_ver = c.ver_off 0 (λ e. omega (arith, g.low, e)) ∙ a.zero_ver;
        zero_link = c.link_off 0 (λ e. omega (arith, g.low, e)) ∙ a.zero_link;
        word = word_after;
        home = home_after;
        odds = odds_after;
        free = l;
        chain = ch;
        evens = λ k w. by_cases (ℕ_discrete k i)
            (λ q. absurd (omega (arith, w.even, od, c.ver_at, ap (ver u) q)))
            (λ ne. ⊎_elim inl (λ q. inr (c.link_off k ne ∙ q))
            (ev k ne (record { low = w.low; high = g.others k w.high ne; even = rw (c.ver_off k ne) at w.even })));
      }

-- ---- what `entered` leaves is an entering

pub entered-enters : (t : Table) (i v x : ℕ) (head' : Header) → Shape t → i ≤ cap t → t.head.n < cap t → head'.n ≡ suc t.head.n
    → Enters t (entered t i v (pack i v) x head') i v x
unfolding entered
entered-enters t i v x head' a hi hn e =
    record {
      count = e;
      lengths = (length-set t.versions _ _, length-set t.links _ _, length-set t.keys _ _, length-set t.values _ _);
      ver_at = get_or-set_same t.versions i _ 0 (omega (arith, a.vlen));
      ver_off = λ k ne. get_or-set_other t.versions i k _ 0 ne;
      link_at = get_or-set_same t.links i _ 0 (omega (arith, a.llen));
      link_off = λ k ne. get_or-set_other t.links i k _ 0 ne;
      key_at = get_or-set_same t.keys t.head.n _ 0 hn;
      key_off = λ k ne. get_or-set_other t.keys t.head.n k _ 0 ne;
      val_at = get_or-set_same t.values t.head.n _ 0 (omega (arith, a.xlen));
      val_off = λ k ne. get_or-set_other t.values t.head.n k _ 0 ne;
    }

-- ---- the three ways in: into the free head, into a new slot, back into a detached slot

abbrev pub taken : Table → ℕ → Table
taken t x =
    entered t t.head.f (ver t t.head.f + 1) (pack t.head.f (ver t t.head.f + 1)) x (taken_head t.head (link t t.head.f))

abbrev pub grown : Table → ℕ → Table
grown t x = entered t t.head.s 1 (pack t.head.s 1) x (grown_head t.head)

abbrev pub rejoined : Table → ℕ → ℕ → ℕ → Table
rejoined t i v x = entered t i v (pack i v) x (rejoined_head t.head)

-- the head of the free list is vacant, and its link is from 1 to s
pub record FreeHead (t : Table) : Type 0 where
  pub vacant : Vacant t t.head.f
  pub link-low : 1 ≤ link t t.head.f
  pub link-high : link t t.head.f ≤ t.head.s

pub head_free : (t : Table) → Orderly t → t.head.f < t.head.s → FreeHead t
head_free t a h = go a.free a.chain
  where
    go : (l : List ℕ) → Chain t t.head.f l → FreeHead t
    go [] c = absurd (omega (arith, c))
    go (i ∷ l) c =
        let m = chain_head t l (link t i) a.shape.s_low c.rest in
        record { vacant = subst (Vacant t) (sym c.here) c.vacant; link-low = rw c.here m.0; link-high = rw c.here m.1 }

module _ (t : Table) (a : Orderly t) (x : ℕ) (h : t.head.f < t.head.s) where
  free_room : t.head.n + 1 < t.head.s
  free_room = room t a.home t.head.f (head_free t a h).vacant

  pub taken_widens : Widens t (taken t x) t.head.f
  unfolding entered
  taken_widens =
      let e = head_free t a h in
      record {
        low = e.vacant.low;
        high = h;
        grow = omega arith;
        most = a.shape.s_high;
        place = free_room;
        others = λ k l ne. l;
        gap = λ l. e.vacant.even;
      }

  pub taken-enters : Enters t (taken t x) t.head.f (ver t t.head.f + 1) x
  taken-enters =
      let r = free_room in
      entered-enters t t.head.f _ x _ a.shape (omega (arith, a.shape.s_high)) (omega (arith, a.shape.s_high)) (omega arith)

  pub taken_orderly : Orderly (taken t x)
  unfolding entered
  taken_orderly = go a.free a.chain a.evens
    where
      e : FreeHead t
      e = head_free t a h

      go : (l : List ℕ) → Chain t t.head.f l → ((k : ℕ) → Vacant t k → Memᴰ k l ⊎ (link t k ≡ far)) → Orderly (taken t x)
      go [] ch ev = absurd (omega (arith, ch))
      go (j ∷ l) ch ev =
          let off : (k : ℕ) → Memᴰ k l → k ≢ t.head.f = λ k m q. ch.once (Memᴰ.cast (sym (q ∙ ch.here)) m) in
          entered_orderly t (taken t x) a t.head.f (ver t t.head.f + 1) x (omega (arith, e)) (omega (arith, e, a.word t.head.f h)) taken_widens taken-enters
          e.link-low e.link-high l
          (subst (λ (g : ℕ). Chain (taken t x) g l) (ap (link t) (sym ch.here))
          (chain_frame t (taken t x) refl (link t j) l (λ k m _. (taken-enters.ver_off k (off k m), taken-enters.link_off k (off k m))) ch.rest))
          (λ k ne v. ⊎_elim (λ m. ⊎_elim (λ q. absurd (ne (q ∙ sym ch.here))) inl (Memᴰ.cases_cons m)) inr (ev k v))

module _ (t : Table) (a : Orderly t) (x : ℕ) (h : t.head.f ≡ t.head.s) (r : t.head.s ≤ cap t) where
  pub grown_widens : Widens t (grown t x) t.head.s
  unfolding entered
  grown_widens =
      record {
        low = a.shape.s_low;
        high = omega arith;
        grow = omega arith;
        most = omega arith;
        place = omega (arith, a.shape);
        others = λ k l ne. omega (arith, l, ne);
        gap = λ l. absurd (omega (arith, l));
      }

  pub grown-enters : Enters t (grown t x) t.head.s 1 x
  grown-enters = entered-enters t t.head.s 1 x _ a.shape r (omega (arith, a.shape)) (omega arith)

  pub grown_orderly : Orderly (grown t x)
  unfolding entered
  grown_orderly = go a.free a.chain a.evens
    where
      go : (l : List ℕ) → Chain t t.head.f l → ((k : ℕ) → Vacant t k → Memᴰ k l ⊎ (link t k ≡ far)) → Orderly (grown t x)
      go (j ∷ l) ch ev = absurd (omega (arith, h, ch.here, ch.vacant))
      go [] ch ev =
          entered_orderly t (grown t x) a t.head.s 1 x (omega arith) (omega arith) grown_widens grown-enters
          (omega arith) (omega arith) [] refl (λ k ne v. ev k v)

module _ (t : Table) (a : Orderly t) (i v x : ℕ) (vi : Vacant t i) (fr : link t i ≡ far) where
  pub rejoined_widens : Widens t (rejoined t i v x) i
  unfolding entered
  rejoined_widens =
      record {
        low = vi.low;
        high = vi.high;
        grow = omega arith;
        most = a.shape.s_high;
        place = room t a.home i vi;
        others = λ k l ne. l;
        gap = λ l. vi.even;
      }

  pub rejoined_enters : Enters t (rejoined t i v x) i v x
  rejoined_enters =
      let r : t.head.n + 1 < t.head.s = room t a.home i vi in
      entered-enters t i v x _ a.shape (omega (arith, vi.high, a.shape.s_high)) (omega (arith, a.shape.s_high)) (omega arith)

  pub rejoined_orderly : v % 2 ≡ 1 → v < W → Orderly (rejoined t i v x)
  unfolding entered
  rejoined_orderly od wd =
      let off : (k : ℕ) → Memᴰ k a.free → k ≢ i =
      λ k m q. omega (arith, ap (link t) q, fr, chain_link t a.free t.head.f a.shape.s_low a.chain k m, a.shape) in
      entered_orderly t (rejoined t i v x) a i v x od wd rejoined_widens rejoined_enters a.shape.f_low a.shape.f_high a.free
      (chain_frame t (rejoined t i v x) refl t.head.f a.free (λ k m _. (rejoined_enters.ver_off k (off k m), rejoined_enters.link_off k (off k m))) a.chain)
      (λ k ne w. a.evens k w)
