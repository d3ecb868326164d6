-- An element leaves: what remove, detach, a drain step and a drop of retain have in common, as facts on single slots and places (`Leaves`),
-- and that what is left is as orderly as before. Assumes nothing.
use mathlib.Core.Path.{◌≡◌, refl, sym, ap, ◌∙◌, subst}
use mathlib.Core.Logic.{◌≢◌, inl, inr, by_cases, ⊎_elim}
use mathlib.Core.List.Memᴰ
use mathlib.Core.List.{List, ◌∷◌}
use Prim.Native.Nat.{ℕ, suc, ◌-◌, ◌%◌, ◌≤◌, ◌<◌}
use native.Mathlib.Omega.{arith}
use native.Mathlib.Decide.{ℕ_discrete}
use lib.ListN.{length, set}
use lib.Seq.{get_or-set_same, get_or-set_other, lt-length-set}
use borrow.Author.Tests.{eq-eqb, ne_eqb}
use Rattle.keys.specs.Keys.{W, far, idx, up}
use Rattle.table.specs.declared.Header.{Header}
use Rattle.table.specs.Table.{Table, ver, link, key, val, last, last_idx, freed_head, parted_head, freed, filled, left}
use Rattle.table.specs.Sound.{Vacant, Home}
use Rattle.table.specs.Frames.{SameLengths}
use Rattle.table.proofs.Shape.{Shape}
use Rattle.table.proofs.Frames.{left_either, left-slot, left-place, left_lengths}
use Rattle.table.proofs.Facts.{shape_like}
use Rattle.table.proofs.Chains.{Chain, chain_vacant, chain_frame}
use Rattle.table.proofs.Orderly.{Orderly, Occupied, home_by}

-- what the leaving of slot i changes, and what it does not; the last place is n − 1, which is n afterwards
pub record Leaves (t u : Table) (i : ℕ) : Type 0 where
  pub count : suc u.head.n ≡ t.head.n
  pub slots : u.head.s ≡ t.head.s
  pub lengths : SameLengths t u
  pub ver_at : ver u i ≡ up (ver t i)
  pub ver_off : (k : ℕ) → k ≢ i → ver u k ≡ ver t k
  pub link-moved : idx (key t u.head.n) ≢ i → link u (idx (key t u.head.n)) ≡ link t i
  pub link_off : (k : ℕ) → k ≢ i → k ≢ idx (key t u.head.n) → link u k ≡ link t k
  pub key-moved : key u (link t i) ≡ key t u.head.n
  pub key_off : (r : ℕ) → r ≢ link t i → key u r ≡ key t r
  pub val-moved : val u (link t i) ≡ val t u.head.n
  pub val_off : (r : ℕ) → r ≢ link t i → val u r ≡ val t r

-- ---- an orderly table stays so

module _ (t u : Table) (a : Orderly t) (i : ℕ) (oi : Occupied t i) (c : Leaves t u i) where
  place_in_lem : link t i < t.head.n
  place_in_lem = (a.odds i oi.high oi.odd).0

  place-key : idx (key t (link t i)) ≡ i
  place-key = (a.odds i oi.high oi.odd).1

  pub last_home : Home t u.head.n
  last_home = a.home u.head.n (omega (arith, c.count))

  now_even : ver u i % 2 ≡ 0
  now_even = rw c.ver_at (omega (arith, oi.odd))

  home_after : (r : ℕ) → r < u.head.n → Home u r
  home_after r h =
      by_cases (ℕ_discrete r (link t i))
      (λ e.
      let ne : idx (key t u.head.n) ≢ i = λ x. omega (arith, e, last_home.back, ap (link t) x) in
      home_by t u u.head.n r last_home (rw e c.key-moved) (omega (arith, c.slots)) (c.ver_off _ ne) (c.link-moved ne ∙ sym e))
      (λ ne.
      let hr : Home t r = a.home r (omega (arith, c.count)) in
      let n1 : idx (key t r) ≢ i = λ x. ne (sym hr.back ∙ ap (link t) x) in
      let n2 : idx (key t r) ≢ idx (key t u.head.n) = λ x. omega (arith, hr.back, last_home.back, ap (link t) x) in
      home_by t u r r hr (c.key_off r ne) (omega (arith, c.slots)) (c.ver_off _ n1) (c.link_off _ n1 n2 ∙ hr.back))

  odds_after : (k : ℕ) → k < u.head.s → ver u k % 2 ≡ 1 → (link u k < u.head.n) × (idx (key u (link u k)) ≡ k)
  odds_after k h o =
      let ni : k ≢ i = λ e. omega (arith, ap (ver u) e, now_even) in
      let was : ver t k % 2 ≡ 1 = rw (c.ver_off k ni) at o in
      let ok : (link t k < t.head.n) × (idx (key t (link t k)) ≡ k) = a.odds k (omega (arith, c.slots)) was in
      by_cases (ℕ_discrete k (idx (key t u.head.n)))
      (λ e.
      let lk : link u k ≡ link t i = ap (link u) e ∙ c.link-moved (λ x. ni (e ∙ x)) in
      let np : link t i ≢ u.head.n = λ x. ni (e ∙ ap (λ (m : ℕ). idx (key t m)) (sym x) ∙ place-key) in
      (omega (arith, lk, np, place_in_lem, c.count), ap (λ (m : ℕ). idx (key u m)) lk ∙ ap idx c.key-moved ∙ sym e))
      (λ ne.
      let lk : link u k ≡ link t k = c.link_off k ni ne in
      let np : link t k ≢ link t i = λ x. ni (sym ok.1 ∙ ap (λ (m : ℕ). idx (key t m)) x ∙ place-key) in
      let nq : link t k ≢ u.head.n = λ x. ne (sym ok.1 ∙ ap (λ (m : ℕ). idx (key t m)) x) in
      (omega (arith, lk, nq, ok.0, c.count), ap (λ (m : ℕ). idx (key u m)) lk ∙ ap idx (c.key_off _ np) ∙ ok.1))

  word_after : (k : ℕ) → k < u.head.s → ver u k < W
  word_after k h =
      by_cases (ℕ_discrete k i)
      (λ e. rw (e, c.ver_at) (omega arith))
      (λ ne. rw (c.ver_off k ne) (a.word k (omega (arith, c.slots))))

  zero_ver-after : ver u 0 ≡ 0
  zero_ver-after = c.ver_off 0 (λ e. omega (arith, oi.low, e)) ∙ a.zero_ver

  zero_link-after : link u 0 ≡ 0
  zero_link-after = c.link_off 0 (λ e. omega (arith, oi.low, e)) (λ e. omega (arith, e, last_home.low)) ∙ a.zero_link

  shape-after : 1 ≤ u.head.f → u.head.f ≤ u.head.s → Shape u
  shape-after fl fh =
      let s = a.shape in
      shape_like t u s c.lengths (omega (arith, c.slots, s)) (omega (arith, c.slots, s)) (omega (arith, c.count, c.slots, s)) fl fh

  -- a vacant slot is neither i nor the last element's slot, so its version and its link stay
  pub vacant_off : (k : ℕ) → ver t k % 2 ≡ 0 → (k ≢ i) × (k ≢ idx (key t u.head.n))
  vacant_off k e = (
    λ x. omega (arith, e, oi.odd, ap (ver t) x),
    λ x. omega (arith, e, ap (ver t) x, last_home.same, last_home.odd),
  )

  same-slot : (k : ℕ) → ver t k % 2 ≡ 0 → (ver u k ≡ ver t k) × (link u k ≡ link t k)
  same-slot k e = let o = vacant_off k e in (c.ver_off k o.0, c.link_off k o.0 o.1)

  was_vacant : (k : ℕ) → k ≢ i → Vacant u k → Vacant t k
  was_vacant k ne v = record { low = v.low; high = omega (arith, v.high, c.slots); even = rw (c.ver_off k ne) at v.even }

  chain_after : (g : ℕ) (l : List ℕ) → Chain t g l → Chain u g l
  chain_after g l h = chain_frame t u c.slots g l (λ k m. same-slot k) h

  pub freed_orderly : link u i ≡ t.head.f → u.head.f ≡ i → Orderly u
  freed_orderly li fi =
      record {
        shape = shape-after (rw fi oi.low) (rw (fi, c.slots) (omega (arith, oi.high)));
        zero_ver = zero_ver-after;
        zero_link = zero_link-after;
        word = word_after;
        home = home_after;
        odds = odds_after;
        free = i ∷ a.free;
        chain =
            record {
              here = fi;
              vacant = record { low = oi.low; high = omega (arith, oi.high, c.slots); even = now_even };
              once = λ m. omega (arith, oi.odd, chain_vacant t a.free t.head.f a.chain i m);
              rest = rw li (chain_after t.head.f a.free a.chain);
            };
        evens = λ k v. by_cases (ℕ_discrete k i)
            (λ x. inl (Memᴰ.head x))
            (λ ne. let was = was_vacant k ne v in ⊎_elim (λ m. inl (Memᴰ.tail m)) (λ x. inr ((same-slot k was.even).1 ∙ x)) (a.evens k was));
      }

  pub parted_orderly : link u i ≡ far → u.head.f ≡ t.head.f → Orderly u
  parted_orderly li fi =
      record {
        shape = shape-after (rw fi a.shape.f_low) (rw (fi, c.slots) a.shape.f_high);
        zero_ver = zero_ver-after;
        zero_link = zero_link-after;
        word = word_after;
        home = home_after;
        odds = odds_after;
        free = a.free;
        chain = subst (λ (g : ℕ). Chain u g a.free) (sym fi) (chain_after t.head.f a.free a.chain);
        evens = λ k v. by_cases (ℕ_discrete k i)
            (λ x. inr (ap (link u) x ∙ li))
            (λ ne. let was = was_vacant k ne v in ⊎_elim inl (λ x. inr ((same-slot k was.even).1 ∙ x)) (a.evens k was));
      }

-- ---- what is left is a leaving

module _ (t : Table) (i l : ℕ) (head' : Header) where
  -- the last element needs no move: a drain step frees its slot alone
  pub left-last : link t i ≡ last t → left t i l head' ≡ freed t i l head'
  unfolding left
  left-last e = rw (eq-eqb _ _ e)

  left-moved : link t i ≢ last t → left t i l head' ≡ filled (freed t i l head') (link t i) (last t)
  unfolding left
  left-moved ne = rw (ne_eqb _ _ ne)

  left_cases : (P : Table → Type 0) → (link t i ≡ last t → P (freed t i l head')) → (link t i ≢ last t → P (filled (freed t i l head') (link t i) (last t))) → P (left t i l head')
  left_cases P same moved =
      by_cases (ℕ_discrete (link t i) (last t)) (λ e. subst P (sym (left-last e)) (same e)) (λ ne. subst P (sym (left-moved ne)) (moved ne))

  pub left-head : (left t i l head').head ≡ head'
  unfolding freed filled
  left-head = left_either t i l head' (λ (u : Table). u.head ≡ head') refl refl

module _ (t : Table) (a : Orderly t) (i l : ℕ) (head' : Header) (oi : Occupied t i) where
  there : link t i < t.head.n
  there = (a.odds i oi.high oi.odd).0

  last-there : Home t (last t)
  last-there = a.home (last t) (omega (arith, there))

  same-slot-last : link t i ≡ last t → last_idx t ≡ i
  same-slot-last e = ap (λ (m : ℕ). idx (key t m)) (sym e) ∙ (a.odds i oi.high oi.odd).1

  other-slot-last : link t i ≢ last t → i ≢ last_idx t
  other-slot-last ne x = ne (ap (link t) x ∙ last-there.back)

  in_links : (j : ℕ) → j < t.head.s → j < length t.links
  in_links j h = omega (arith, h, a.shape)

  left-version : ver (left t i l head') i ≡ up (ver t i)
  unfolding freed filled
  left-version =
      let e = get_or-set_same t.versions i (up (ver t i)) 0 (omega (arith, oi, a.shape)) in
      left_cases t i l head' (λ (u : Table). ver u i ≡ up (ver t i)) (λ _. e) (λ _. e)

  left-moved-link : last_idx t ≢ i → link (left t i l head') (last_idx t) ≡ link t i
  unfolding freed filled
  left-moved-link ne =
      left_cases t i l head' (λ (u : Table). link u (last_idx t) ≡ link t i)
      (λ e. absurd (ne (same-slot-last e)))
      (λ _. get_or-set_same (set t.links i l) (last_idx t) _ 0 (lt-length-set t.links i l (in_links _ last-there.high)))

  left-moved-key : key (left t i l head') (link t i) ≡ key t (last t)
  unfolding freed filled
  left-moved-key =
      left_cases t i l head' (λ (u : Table). key u (link t i) ≡ key t (last t)) (ap (key t)) (λ _. get_or-set_same t.keys _ _ 0 (omega (arith, there, a.shape)))

  left-moved-value : val (left t i l head') (link t i) ≡ val t (last t)
  unfolding freed filled
  left-moved-value =
      left_cases t i l head' (λ (u : Table). val u (link t i) ≡ val t (last t)) (ap (val t)) (λ _. get_or-set_same t.values _ _ 0 (omega (arith, there, a.shape)))

  pub left-leaves : head'.n ≡ t.head.n - 1 → head'.s ≡ t.head.s → Leaves t (left t i l head') i
  left-leaves hn hs =
      let n : (left t i l head').head.n ≡ last t = ap (λ (h : Header). h.n) (left-head t i l head') ∙ hn in
      record {
        count = omega (arith, n, there);
        slots = ap (λ (h : Header). h.s) (left-head t i l head') ∙ hs;
        lengths = left_lengths t i l head';
        ver_at = left-version;
        ver_off = λ k ne. (left-slot t i l head' k ne).0;
        link-moved = rw n left-moved-link;
        link_off = rw n (λ k ni nl. (left-slot t i l head' k ni).1 nl);
        key-moved = rw n left-moved-key;
        key_off = λ r ne. (left-place t i l head' r ne).0;
        val-moved = rw n left-moved-value;
        val_off = λ r ne. (left-place t i l head' r ne).1;
      }

  pub left-link : link (left t i l head') i ≡ l
  unfolding freed filled
  left-link =
      let e = get_or-set_same t.links i l 0 (in_links i oi.high) in
      left_cases t i l head' (λ (u : Table). link u i ≡ l) (λ _. e) (λ ne. get_or-set_other (set t.links i l) (last_idx t) i _ 0 (other-slot-last ne) ∙ e)

-- ---- the two ways to leave: to the free list, and detached

abbrev pub without : Table → ℕ → Table
without t i = left t i t.head.f (freed_head t.head i)

abbrev pub apart : Table → ℕ → Table
apart t i = left t i far (parted_head t.head)

module _ (t : Table) (a : Orderly t) (i : ℕ) (oi : Occupied t i) where
  pub without-leaves : Leaves t (without t i) i
  without-leaves = left-leaves t a i _ _ oi refl refl

  pub without-link : link (without t i) i ≡ t.head.f
  without-link = left-link t a i _ _ oi

  pub without_orderly : Orderly (without t i)
  without_orderly = freed_orderly t _ a i oi without-leaves without-link (ap (λ (h : Header). h.f) (left-head t i _ _))

  pub apart_leaves : Leaves t (apart t i) i
  apart_leaves = left-leaves t a i _ _ oi refl refl

  pub apart_link : link (apart t i) i ≡ far
  apart_link = left-link t a i _ _ oi

  pub apart_orderly : Orderly (apart t i)
  apart_orderly = parted_orderly t _ a i oi apart_leaves apart_link (ap (λ (h : Header). h.f) (left-head t i _ _))
