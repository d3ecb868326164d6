-- Disjoint on any table: it is refused with the number of the first test that fails, key by key, and else gives the places of the keys
-- in order, each below n and no two equal: a place holds its key, so one place is the place of one key. Assumes nothing.
use mathlib.Core.Path.{◌≡◌, refl, sym, ap, ◌∙◌, subst}
use mathlib.Core.Logic.{⊎_elim}
use mathlib.Core.Bool.{Bool, true, false, cond, not}
use mathlib.Core.List.Memᴰ
use mathlib.Core.List.{List, [], ◌∷◌, Memᴰ}
use mathlib.Core.Option.{Option, none, some}
use Prim.Native.Nat.{ℕ, zero, suc, ◌≤◌, ◌<◌, zero-le}
use native.Mathlib.Omega.{arith}
use lib.Dec.{leb}
use lib.ListN.{length, get_or}
use borrow.Author.Tests.{leb-true, le-leb, lt-leb, not-true}
use Rattle.lists.specs.Put.{put}
use Rattle.lists.specs.Among.{among}
use Rattle.lists.proofs.Tests.{split, true_false, parts, before, first-append}
use Rattle.lists.proofs.Put.{put_nil}
use Rattle.lists.proofs.Among.{among_same, among_rest}
use Rattle.lists.specs.Once.{Once}
use Rattle.lists.proofs.Once.{once_nil, once_cons}
use Rattle.keys.specs.Keys.{idx, pack, version, as_read}
use Rattle.keys.proofs.Keys.{is_read}
use Rattle.table.specs.Table.{Table, link, key, val, has_shape, is_live, is_held}
use Rattle.table.specs.Calls.{said_value, said_done, refused, found, place_in, place, lookup}
use Rattle.table.specs.Sweeps.{Places, places, bars, placed, places_of, given, disjoint}
use Rattle.lists.specs.Tests.{first}
use Rattle.table.specs.Refused.{ruled, key_tests, disjoint_tests, links_of}
use Rattle.table.proofs.Refused.{ruled-keeps}

-- ---- the places of the keys, in list order

abbrev seated : Option ℕ → List ℕ → Places
seated none ps = places ps
seated (some r) ps = bars r

placed_seated : (p : ℕ) (f : Option ℕ) (ps : List ℕ) → placed (found p) (seated f ps) ≡ seated f (p ∷ ps)
placed_seated p none ps = refl
placed_seated p (some r) ps = refl

places_seated : (t : Table) (earlier ks : List ℕ) → places_of t earlier ks ≡ seated (first (key_tests t earlier ks)) (links_of t ks)
unfolding places_of place_in
places_seated t earlier [] = refl
places_seated t earlier (k ∷ ks) =
    split (among (as_read k) earlier)
    (λ a. rw a)
    (λ a. rw a (split (is_live t (idx k) (version k))
    (λ b. rw b (split (is_held t (idx k) (version k))
    (λ c. rw c (ap (placed (found (link t (idx k)))) (places_seated t (as_read k ∷ earlier) ks) ∙ placed_seated (link t (idx k)) (first (key_tests t (as_read k ∷ earlier) ks)) (links_of t ks)))
    (λ c. rw c)))
    (λ b. rw b)))

-- ---- the whole call

given-ruled : (f : Option ℕ) (ps ks out : List ℕ)
    → given (seated f ps) ks out ≡ ruled out (before f (first ((leb (length ks) (length out), 6) ∷ []))) (said_done, put out 0 ps)
given-ruled none ps ks out = split (leb (length ks) (length out)) (λ b. rw b) (λ b. rw b)
given-ruled (some r) ps ks out = refl

pub disjoint-ruled : (t : Table) (ks out : List ℕ) → disjoint t ks out ≡ ruled out (first (disjoint_tests t ks out)) (said_done, put out 0 (links_of t ks))
unfolding disjoint
disjoint-ruled t ks out =
    split (has_shape t)
    (λ a. rw (a, places_seated t [] ks, first-append (key_tests t [] ks) ((leb (length ks) (length out), 6) ∷ [])) (given-ruled (first (key_tests t [] ks)) (links_of t ks) ks out))
    (λ a. rw a)

-- the answer, by what the keys' tests say
module _ (t : Table) (ks out : List ℕ) (sh : has_shape t ≡ true) where
  pub disjoint_barred : (r : ℕ) → first (key_tests t [] ks) ≡ some r → disjoint t ks out ≡ (refused r, out)
  disjoint_barred r e = disjoint-ruled t ks out ∙ rw (sh, first-append (key_tests t [] ks) _, e)

  module _ (e : first (key_tests t [] ks) ≡ none) where
    pub disjoint_short : length out < length ks → disjoint t ks out ≡ (refused 6, out)
    disjoint_short h = disjoint-ruled t ks out ∙ rw (sh, first-append (key_tests t [] ks) _, e, lt-leb (length ks) (length out) h)

    pub disjoint-given : length ks ≤ length out → disjoint t ks out ≡ (said_done, put out 0 (links_of t ks))
    disjoint-given h = disjoint-ruled t ks out ∙ rw (sh, first-append (key_tests t [] ks) _, e, le-leb (length ks) (length out) h)

pub disjoint-refused-keeps : (t : Table) (ks out : List ℕ) (r : ℕ) → (disjoint t ks out).0 ≡ refused r → (disjoint t ks out).1 ≡ out
disjoint-refused-keeps t ks out = ruled-keeps out _ (first (disjoint_tests t ks out)) _ (disjoint-ruled t ks out) refl

pub disjoint_empty : (t : Table) (out : List ℕ) → has_shape t ≡ true → disjoint t [] out ≡ (said_done, out)
unfolding disjoint places_of
disjoint_empty t out h = rw (h, le-leb 0 (length out) zero-le) (ap (λ (l : List ℕ). (said_done, l)) (put_nil out 0))

given-done : (found : Places) (ks out : List ℕ) → (given found ks out).0 ≡ said_done
    → (ps : List ℕ) × (found ≡ places ps) × ((given found ks out).1 ≡ put out 0 ps) × (length ks ≤ length out)
given-done (places ps) ks out =
    split (leb (length ks) (length out))
    (λ b. rw b (λ e. (ps, refl, refl, leb-true (length ks) (length out) b)))
    (λ b. rw b (λ e. let z : ◌≡◌ {A = ℕ} 0 1 = cc in absurd (omega arith)))
given-done (bars r) ks out = λ e. let z : ◌≡◌ {A = ℕ} 0 1 = cc in absurd (omega arith)

-- an accepted call puts the places into the output from its front on
pub disjoint_gives : (t : Table) (ks out : List ℕ) → (disjoint t ks out).0 ≡ said_done
    → (ps : List ℕ) × (places_of t [] ks ≡ places ps) × ((disjoint t ks out).1 ≡ put out 0 ps) × (length ks ≤ length out)
unfolding disjoint
disjoint_gives t ks out =
    split (has_shape t)
    (λ a. rw a (given-done (places_of t [] ks) ks out))
    (λ a. rw a (λ e. let z : ◌≡◌ {A = ℕ} 0 1 = cc in absurd (omega arith)))

-- ---- accepted places

pub first-none : (b : Bool) (r : ℕ) (f : Option ℕ) → cond b f (some r) ≡ none → (b ≡ true) × (f ≡ none)
first-none true r f e = (refl, e)
first-none false r f e = let z : ◌≡◌ {A = ℕ} 0 1 = cc in absurd (omega arith)

module _ (t : Table) where
  -- the first key of a list that passes, and the rest
  passes : (earlier : List ℕ) (k : ℕ) (ks : List ℕ) → first (key_tests t earlier (k ∷ ks)) ≡ none
      → (among (as_read k) earlier ≡ false) × (is_live t (idx k) (version k) ≡ true) × (is_held t (idx k) (version k) ≡ true) × (first (key_tests t (as_read k ∷ earlier) ks) ≡ none)
  passes earlier k ks e =
      let a = first-none (not (among (as_read k) earlier)) _ _ e in
      let b = first-none (is_live t (idx k) (version k)) _ _ a.1 in
      let c = first-none (is_held t (idx k) (version k)) _ _ b.1 in
      (not-true _ a.0, b.0, c.0, c.1)

  -- a live key's place is below n and holds the key
  pub held : (k : ℕ) → is_held t (idx k) (version k) ≡ true → (link t (idx k) < t.head.n) × (key t (link t (idx k)) ≡ as_read k)
  unfolding is_held
  held k e = let q : key t (link t (idx k)) ≡ pack (idx k) (version k) = search parts in (search parts, q ∙ sym (is_read k _ _ refl refl))

  links_different : (earlier ks : List ℕ) → first (key_tests t earlier ks) ≡ none
      → Once (links_of t ks) × ((p : ℕ) → Memᴰ p (links_of t ks) → among (key t p) earlier ≡ false)
  links_different earlier [] e = (once_nil, λ p m. absurd (Memᴰ.not-nil m))
  links_different earlier (k ∷ ks) e =
      let h = passes earlier k ks e in
      let at = (held k h.2).1 in
      let rest = links_different (as_read k ∷ earlier) ks h.3 in (
        once_cons (link t (idx k)) (links_of t ks) (λ m. true_false (among_same (key t (link t (idx k))) (as_read k) earlier at) (rest.1 _ m)) rest.0,
        λ p m. ⊎_elim
            (λ q. ap (λ (r : ℕ). among (key t r) earlier) q ∙ ap (λ (j : ℕ). among j earlier) at ∙ h.0)
            (λ w. among_rest (key t p) (as_read k) earlier (rest.1 p w))
            (Memᴰ.cases_cons m),
      )

  links-below : (earlier ks : List ℕ) → first (key_tests t earlier ks) ≡ none → (p : ℕ) → Memᴰ p (links_of t ks) → p < t.head.n
  links-below earlier [] e p m = absurd (Memᴰ.not-nil m)
  links-below earlier (k ∷ ks) e p m =
      let h = passes earlier k ks e in
      ⊎_elim (λ q. omega (arith, q, (held k h.2).0)) (links-below (as_read k ∷ earlier) ks h.3 p) (Memᴰ.cases_cons m)

  links-found : (earlier ks : List ℕ) → first (key_tests t earlier ks) ≡ none → (j : ℕ) → j < length ks
      → place_in t (idx (get_or ks j 0)) (version (get_or ks j 0)) ≡ found (get_or (links_of t ks) j 0)
  unfolding place_in
  links-found earlier [] e j l = absurd (omega arith)
  links-found earlier (k ∷ ks) e zero l = let h = passes earlier k ks e in rw (h.1, h.2)
  links-found earlier (k ∷ ks) e (suc j) l = links-found (as_read k ∷ earlier) ks (passes earlier k ks e).3 j (omega arith)

  links-length : (ks : List ℕ) → length (links_of t ks) ≡ length ks
  links-length [] = refl
  links-length (k ∷ ks) = ap suc (links-length ks)

  seated_places : (f : Option ℕ) (qs ps : List ℕ) → seated f qs ≡ places ps → (f ≡ none) × (qs ≡ ps)
  seated_places none qs ps e = (refl, (cc))
  seated_places (some r) qs ps e = let z : ◌≡◌ {A = ℕ} 0 1 = cc in absurd (omega arith)

  -- what is known of places that are given
  module _ (ks ps : List ℕ) (e : places_of t [] ks ≡ places ps) where
    accepted : (first (key_tests t [] ks) ≡ none) × (links_of t ks ≡ ps)
    accepted = seated_places (first (key_tests t [] ks)) (links_of t ks) ps (sym (places_seated t [] ks) ∙ e)

    -- as many as keys
    pub disjoint-length : length ps ≡ length ks
    disjoint-length = ap length (sym accepted.1) ∙ links-length ks

    -- no two equal
    pub disjoint_different : Once ps
    disjoint_different = subst Once accepted.1 (links_different [] ks accepted.0).0

    pub disjoint-below : (p : ℕ) → Memᴰ p ps → p < t.head.n
    disjoint-below = subst (λ (l : List ℕ). (p : ℕ) → Memᴰ p l → p < t.head.n) accepted.1 (links-below [] ks accepted.0)

    -- each the place of its key
    pub disjoint-places : (j : ℕ) → j < length ks → place_in t (idx (get_or ks j 0)) (version (get_or ks j 0)) ≡ found (get_or ps j 0)
    disjoint-places j l = links-found [] ks accepted.0 j l ∙ ap (λ (qs : List ℕ). found (get_or qs j 0)) accepted.1

    -- where lookup reads its value
    pub disjoint-lookup : has_shape t ≡ true → (j : ℕ) → j < length ks → lookup t (get_or ks j 0) ≡ (said_value (val t (get_or ps j 0)), t)
    unfolding lookup place
    disjoint-lookup h j l = rw (h, disjoint-places j l)
