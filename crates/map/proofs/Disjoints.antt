-- Disjoint: it leaves the map alone, writes nothing where it is refused and nothing past its answer, and the slots that it gives are all different.
-- Assumes nothing.
use mathlib.Core.Path.{◌≡◌, refl, sym, ap, ◌∙◌}
use mathlib.Core.Logic.{◌≢◌, ⊎_elim}
use mathlib.Core.Bool.{true, false}
use mathlib.Core.List.Memᴰ
use mathlib.Core.List.{List, [], ◌∷◌, Memᴰ}
use Prim.Native.Nat.{ℕ, suc, ◌≤◌}
use native.Mathlib.Omega.{arith}
use lib.Dec.{leb}
use lib.ListN.{length, get_or}
use borrow.Author.Tests.{leb-true}
use Rattle.lists.specs.Put.{put}
use Rattle.lists.proofs.Tests.{split, true_false}
use Rattle.lists.specs.Once.{Once}
use Rattle.lists.proofs.Once.{once_nil, once_cons}
use Rattle.lists.proofs.Put.{get_or-put-after}
use Rattle.keys.specs.Keys.{idx, version, as_read}
use Rattle.keys.proofs.Keys.{is_read, idx-read, version-read, read-read}
use Rattle.map.specs.Map.{Map, ver, has_shape, is_there, absent}
use Rattle.map.specs.Calls.{said_done, refused, Out, found, slot_in}
use Rattle.map.specs.Sweeps.{Slots, slots, misses, slotted, slots_of, given, disjoint}
use Rattle.map.proofs.Cases.{there}
use Rattle.lists.specs.Among.{among}
use Rattle.lists.proofs.Among.{among_same, among_there}

-- ---- the slots of a list of keys

slots_inj : {is js : List ℕ} → slots is ≡ slots js → is ≡ js
slots_inj e = cc

-- the first key of a list that is accepted
record First (m : Map) (e : List ℕ) (k : ℕ) (ks is : List ℕ) : Type 0 where
  fresh : among (as_read k) e ≡ false
  is_there_lem : is_there m (idx k) (version k) ≡ true
  rest : List ℕ
  others : slots_of m (as_read k ∷ e) ks ≡ slots rest
  whole : is ≡ idx k ∷ rest

first : (m : Map) (e : List ℕ) (k : ℕ) (ks is : List ℕ) → slots_of m e (k ∷ ks) ≡ slots is → First m e k ks is
unfolding slots_of slot_in
first m e k ks is h =
    split (among (as_read k) e)
    (λ a. let f : misses 2 ≡ slots is = rw a at h in let z : ◌≡◌ {A = ℕ} 0 1 = cc in absurd (omega arith))
    (λ a. split (is_there m (idx k) (version k))
    (λ t. go (slots_of m (as_read k ∷ e) ks) refl a t (rw (a, t) at h))
    (λ t. let f : misses (absent m (idx k) (version k)) ≡ slots is = rw (a, t) at h in let z : ◌≡◌ {A = ℕ} 0 1 = cc in absurd (omega arith)))
  where
    go : (q : Slots) → slots_of m (as_read k ∷ e) ks ≡ q → among (as_read k) e ≡ false → is_there m (idx k) (version k) ≡ true → slotted (found (idx k)) q ≡ slots is
        → First m e k ks is
    go (slots js) s a t f = record { fresh = a; is_there_lem = t; rest = js; others = s; whole = sym (slots_inj f) }
    go (misses r) s a t f = let z : ◌≡◌ {A = ℕ} 0 1 = cc in absurd (omega arith)

slots_nil : (m : Map) (e is : List ℕ) → slots_of m e [] ≡ slots is → is ≡ []
unfolding slots_of
slots_nil m e is h = sym (slots_inj h)

-- one slot for each key
slots_length : (m : Map) (e ks is : List ℕ) → slots_of m e ks ≡ slots is → length is ≡ length ks
slots_length m e [] is h = ap length (slots_nil m e is h)
slots_length m e (k ∷ ks) is h =
    let f = first m e k ks is h in
    ap length f.whole ∙ ap suc (slots_length m (as_read k ∷ e) ks f.rest f.others)

-- a key as read that is there
record Read (m : Map) (e : List ℕ) (k : ℕ) : Type 0 where
  earlier : among k e ≡ true
  read : as_read k ≡ k
  same : ver m (idx k) ≡ version k

-- no earlier key has one of the slots
slots-new : (m : Map) (e ks is : List ℕ) → slots_of m e ks ≡ slots is → (i : ℕ) → Memᴰ i is → (k : ℕ) → Read m e k → idx k ≢ i
slots-new m e [] is h i mem k r = absurd (Memᴰ.not-nil (rw (slots_nil m e is h) at mem))
slots-new m e (j ∷ ks) is h i mem k r =
    let f = first m e j ks is h in
    ⊎_elim
    (λ z q.
    let t = there m (idx j) (version j) f.is_there_lem in
    let p : idx k ≡ idx j = q ∙ z in
    let v : version k ≡ version j = sym r.same ∙ ap (ver m) p ∙ t.same in
    let same : k ≡ as_read j = sym r.read ∙ is_read k (idx j) (version j) p v ∙ sym (is_read j (idx j) (version j) refl refl) in
    true_false (ap (λ (n : ℕ). among n e) (sym same) ∙ r.earlier) f.fresh)
    (λ mem. slots-new m (as_read j ∷ e) ks f.rest f.others i mem k (record { earlier = among_there k (as_read j) e r.earlier; read = r.read; same = r.same }))
    (Memᴰ.cases_cons (rw f.whole at mem))

slots-once : (m : Map) (e ks is : List ℕ) → slots_of m e ks ≡ slots is → Once is
slots-once m e [] is h = rw (slots_nil m e is h) once_nil
slots-once m e (k ∷ ks) is h =
    let f = first m e k ks is h in
    let t = there m (idx k) (version k) f.is_there_lem in
    rw f.whole
    (once_cons (idx k) f.rest
    (λ mem. slots-new m (as_read k ∷ e) ks f.rest f.others (idx k) mem (as_read k)
    (record { earlier = among_same (as_read k) (as_read k) e refl; read = read-read k; same = ap (ver m) (idx-read k) ∙ t.same ∙ sym (version-read k) })
    (idx-read k))
    (slots-once m (as_read k ∷ e) ks f.rest f.others))

-- ---- the call

module _ (m : Map) (ks out : List ℕ) where
  -- the three things that can come of it
  by_disjoint : (P : Out × List ℕ → Type 0) → P ((refused 1, m), out) → P ((refused 6, m), out) → ((r : ℕ) → slots_of m [] ks ≡ misses r → P ((refused r, m), out))
      → ((is : List ℕ) → slots_of m [] ks ≡ slots is → length ks ≤ length out → P ((said_done, m), put out 0 is)) → P (disjoint m ks out)
  unfolding disjoint
  by_disjoint P bad short missing done = split (has_shape m) (λ sh. rw sh (go (slots_of m [] ks) refl)) (λ sh. rw sh bad)
    where
      go : (q : Slots) → slots_of m [] ks ≡ q → P (given m q ks out)
      go (slots is) e = split (leb (length ks) (length out)) (λ l. rw l (done is e (leb-true _ _ l))) (λ l. rw l short)
      go (misses r) e = missing r e

  -- the marks are undone: the map is as it was
  pub disjoint_frame_map : (disjoint m ks out).0.1 ≡ m
  disjoint_frame_map = by_disjoint (λ (o : Out × List ℕ). o.0.1 ≡ m) refl refl (λ r e. refl) (λ is e l. refl)

  pub disjoint-refused-keeps : (r : ℕ) → (disjoint m ks out).0.0 ≡ refused r → (disjoint m ks out).1 ≡ out
  disjoint-refused-keeps r =
      by_disjoint (λ (o : Out × List ℕ). o.0.0 ≡ refused r → o.1 ≡ out) (λ e. refl) (λ e. refl) (λ n h e. refl)
      (λ is h l e. let z : ◌≡◌ {A = ℕ} 0 1 = cc in absurd (omega arith))

  -- "success doesn't touch output past the answer's end"
  pub disjoint_frame_out : (j : ℕ) → length ks ≤ j → get_or (disjoint m ks out).1 j 0 ≡ get_or out j 0
  disjoint_frame_out j b =
      by_disjoint (λ (o : Out × List ℕ). get_or o.1 j 0 ≡ get_or out j 0) refl refl (λ r e. refl)
      (λ is e l. get_or-put-after out 0 is j (omega (arith, slots_length m [] ks is e)) (omega arith))

  -- the slots that are given are all different
  pub disjoint-once : (disjoint m ks out).0.0 ≡ said_done → (is : List ℕ) × (Once is) × (length is ≡ length ks) × ((disjoint m ks out).1 ≡ put out 0 is)
  disjoint-once =
      by_disjoint (λ (o : Out × List ℕ). o.0.0 ≡ said_done → (is : List ℕ) × (Once is) × (length is ≡ length ks) × (o.1 ≡ put out 0 is))
      (λ e. let z : ◌≡◌ {A = ℕ} 0 1 = cc in absurd (omega arith))
      (λ e. let z : ◌≡◌ {A = ℕ} 0 1 = cc in absurd (omega arith))
      (λ r h e. let z : ◌≡◌ {A = ℕ} 0 1 = cc in absurd (omega arith))
      (λ is h l e. (is, slots-once m [] ks is h, slots_length m [] ks is h, refl))

-- ---- it never says 5

found-misses : (i r : ℕ) (q : Slots) → slotted (found i) q ≡ misses r → q ≡ misses r
found-misses i r (slots is) e = cc
found-misses i r (misses n) e = e

misses-two : (m : Map) (e ks : List ℕ) (r : ℕ) → slots_of m e ks ≡ misses r → r ≡ 2
unfolding slots_of slot_in absent
misses-two m e [] r h = let z : ◌≡◌ {A = ℕ} 0 1 = cc in absurd (omega arith)
misses-two m e (k ∷ ks) r h =
    split (among (as_read k) e)
    (λ a. let f : misses 2 ≡ misses r = rw a at h in cc)
    (λ a. split (is_there m (idx k) (version k))
    (λ t. misses-two m (as_read k ∷ e) ks r (found-misses (idx k) r _ (rw (a, t) at h)))
    (λ t. let f : misses 2 ≡ misses r = rw (a, t) at h in cc))

pub disjoint_undamaged : (m : Map) (ks out : List ℕ) → (disjoint m ks out).0.0 ≢ refused 5
disjoint_undamaged m ks out =
    by_disjoint m ks out (λ (o : Out × List ℕ). o.0.0 ≢ refused 5)
    (λ e. let z : ◌≡◌ {A = ℕ} 1 5 = cc in omega arith)
    (λ e. let z : ◌≡◌ {A = ℕ} 6 5 = cc in omega arith)
    (λ r h e. let z : r ≡ 5 = cc in omega (arith, misses-two m [] ks r h))
    (λ is h l e. let z : ◌≡◌ {A = ℕ} 0 1 = cc in omega arith)
