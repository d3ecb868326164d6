-- The run of disjoint over its keys: the slots found so far stand before the slots of the rest. Assumes nothing.
use mathlib.Core.Path.{◌≡◌, refl, sym, ap, ap₂, subst, ◌∙◌}
use mathlib.Core.Logic.{by_cases}
use mathlib.Core.Bool.{true, false}
use mathlib.Core.List.{List, [], ◌∷◌, ◌++◌, append_assoc, append-nil}
use Prim.Native.Nat.{ℕ, zero, suc, ◌+◌, ◌-◌, ◌≤◌, ◌<◌}
use native.Mathlib.Omega.{arith}
use native.Mathlib.Numerals.{add-one}
use native.Mathlib.Decide.{ℕ_discrete}
use lib.ListN.{length, get_or, set, take, drop, length-set, drop_of_length-le}
use lib.Seq.{set-set, set-get_or, take-suc, drop-cons, take_all}
use Rattle.lists.specs.Put.{put}
use Rattle.lists.proofs.Put.{put-turn, put-end}
use Rattle.lists.proofs.Tests.{split, true_false, false_if}
use Rattle.refusal.specs.declared.Refusal.{Refusal}
use Rattle.refusal.specs.Refusals.{number_of}
use Rattle.keys.specs.Keys.{idx, version, as_read, key_of}
use Rattle.keys.specs.declared.KeyData.{KeyData}
use Rattle.map.specs.Map.{Map, has_shape, is_there, absent}
use Rattle.map.specs.Calls.{found, fails, slot_in, slot}
use Rattle.lists.specs.Among.{among}
use Rattle.map.specs.Sweeps.{Slots, slots, misses, slotted, slots_of}
use Rattle.map.proofs.Shaped.{shaped, shape_true}
use Rattle.map.proofs.Cases.{there, there_true, slot-absent, slot-there}
use Rattle.map.proofs.Stands.{Stands}
use Rattle.std.specs.Prelude.{Ok, Err}
use Rattle.map.specs.Refused.{indexes}
use Rattle.secondary_disjoint.specs.Marks.{unmarked, Marking}
use Rattle.secondary_disjoint.proofs.Marks.{Spot, spot_free, spot_there, spot_repeated, spot_marked}

-- ---- slots before slots

pub prefixed : List ℕ → Slots → Slots
prefixed is (slots js) = slots (is ++ js)
prefixed is (misses r) = misses r

prefixed_nil : (q : Slots) → prefixed [] q ≡ q
unfolding prefixed
prefixed_nil (slots js) = refl
prefixed_nil (misses r) = refl

prefixed_found : (is : List ℕ) (i : ℕ) (q : Slots) → prefixed is (slotted (found i) q) ≡ prefixed (is ++ (i ∷ [])) q
unfolding prefixed
prefixed_found is i (slots js) = ap slots (sym (append_assoc is (i ∷ []) js))
prefixed_found is i (misses r) = refl

indexes_snoc : (ks : List ℕ) (k : ℕ) → indexes (ks ++ (k ∷ [])) ≡ indexes ks ++ (idx k ∷ [])
unfolding indexes
indexes_snoc [] k = refl
indexes_snoc (j ∷ ks) k = ap (λ (q : List ℕ). idx j ∷ q) (indexes_snoc ks k)

-- ---- the run: n keys have been marked

-- the keys before the n-th, as read, the last first
pub earlier : List ℕ → ℕ → List ℕ
earlier ks zero = []
earlier ks (suc n) = as_read (get_or ks n 0) ∷ earlier ks n

pub record Run (m : Map) (ks vs : List ℕ) (n : ℕ) : Type 0 where
  pub few : n ≤ length ks
  pub same : length vs ≡ length m.versions
  pub within : (j : ℕ) → j < n → idx (get_or ks j 0) < length vs
  pub back : unmarked vs ks n ≡ m.versions
  pub spots : (j : ℕ) → Spot m vs (earlier ks n) j
  pub rest : slots_of m [] ks ≡ prefixed (indexes (take n ks)) (slots_of m (earlier ks n) (drop n ks))

pub run-start : (m : Map) (ks : List ℕ) → Run m ks m.versions 0
unfolding earlier unmarked indexes
run-start m ks =
    record {
      few = omega arith;
      same = refl;
      within = λ j l. absurd (omega arith);
      back = refl;
      spots = spot_free m;
      rest = sym (prefixed_nil (slots_of m [] ks));
    }

-- the marked map
abbrev pub marked : Map → List ℕ → Map
marked m vs = record { versions = vs; values = m.values; head = m.head }

-- a key that is repeated, one that is not there, and one that is there and is not repeated
slots_repeated : (m : Map) (e : List ℕ) (k : ℕ) (ks : List ℕ) → among (as_read k) e ≡ true → slots_of m e (k ∷ ks) ≡ misses 2
unfolding slots_of
slots_repeated m e k ks a = rw a

slots-absent : (m : Map) (e : List ℕ) (k : ℕ) (ks : List ℕ) → among (as_read k) e ≡ false → is_there m (idx k) (version k) ≡ false → slots_of m e (k ∷ ks) ≡ misses 2
unfolding slots_of slot_in absent
slots-absent m e k ks a t = rw (a, t)

slots-found : (m : Map) (e : List ℕ) (k : ℕ) (ks : List ℕ) → among (as_read k) e ≡ false → is_there m (idx k) (version k) ≡ true
    → slots_of m e (k ∷ ks) ≡ slotted (found (idx k)) (slots_of m (as_read k ∷ e) ks)
unfolding slots_of slot_in
slots-found m e k ks a t = rw (a, t)

module _ (m : Map) (ks vs : List ℕ) (n : ℕ) (h : Run m ks vs n) (l : n < length ks) where
  next : slots_of m [] ks ≡ prefixed (indexes (take n ks)) (slots_of m (earlier ks n) (get_or ks n 0 ∷ drop (suc n) ks))
  next = h.rest ∙ ap (λ (q : List ℕ). prefixed (indexes (take n ks)) (slots_of m (earlier ks n) q)) (drop-cons ks n 0 l)

  -- one key more, of index i
  turned : (i : ℕ) → idx (get_or ks n 0) ≡ i → i < m.head.s → i < length vs → get_or vs i 0 ≡ version (get_or ks n 0) → Run m ks (set vs i 2) (suc n)
  unfolding earlier unmarked
  turned i at b w e =
      let spot = spot_there m vs (earlier ks n) (get_or ks n 0) (h.spots (idx (get_or ks n 0))) (ap (λ (j : ℕ). get_or vs j 0) at ∙ e) in
      let back : set (set vs i 2) (idx (get_or ks n 0)) (version (get_or ks n 0)) ≡ vs =
      ap (λ (j : ℕ). set (set vs i 2) j (version (get_or ks n 0))) at ∙ set-set vs i 2 (version (get_or ks n 0)) ∙ ap (set vs i) (sym e) ∙ set-get_or vs i 0 in
      let is : is_there m (idx (get_or ks n 0)) (version (get_or ks n 0)) ≡ true = there_true m _ _ (omega arith) spot.0 in
      record {
        few = omega arith;
        same = length-set vs i 2 ∙ h.same;
        within =
            λ j d.
            by_cases (ℕ_discrete j n)
            (λ z. omega (arith, length-set vs i 2, ap (λ (q : ℕ). idx (get_or ks q 0)) z))
            (λ ne. omega (arith, length-set vs i 2, h.within j (omega arith)));
        back = ap (λ (q : List ℕ). unmarked q ks n) back ∙ h.back;
        spots =
            λ j.
            subst (λ (q : ℕ). Spot m (set vs q 2) (as_read (get_or ks n 0) ∷ earlier ks n) j) at
            (spot_marked m vs (earlier ks n) (get_or ks n 0) j (omega arith) spot.0 (h.spots j));
        rest =
            next
            ∙ ap (prefixed (indexes (take n ks))) (slots-found m (earlier ks n) (get_or ks n 0) (drop (suc n) ks) spot.1 is)
            ∙ prefixed_found (indexes (take n ks)) (idx (get_or ks n 0)) (slots_of m (as_read (get_or ks n 0) ∷ earlier ks n) (drop (suc n) ks))
            ∙ ap (λ (q : List ℕ). prefixed q (slots_of m (as_read (get_or ks n 0) ∷ earlier ks n) (drop (suc n) ks)))
            (sym (ap indexes (take-suc ks n 0 l) ∙ indexes_snoc (take n ks) (get_or ks n 0)));
      }

  pub run-turn : (i : ℕ) → Stands (marked m vs) (get_or ks n 0) i → Run m ks (set vs i 2) (n + 1)
  run-turn i st =
      subst (λ (d : ℕ). Run m ks (set vs i 2) d) (sym (add-one n))
      (turned i st.index st.below (omega (arith, st.below, st.shape)) st.same)

  -- the run stops: the key is not there, or is repeated
  pub run-stops : (r : ℕ) → has_shape (marked m vs) ≡ true → slot (marked m vs) (get_or ks n 0) ≡ fails r → misses r ≡ slots_of m [] ks
  unfolding absent prefixed
  run-stops r sh e =
      split (is_there (marked m vs) (idx (get_or ks n 0)) (version (get_or ks n 0)))
      (λ t. let f = sym (slot-there (marked m vs) (get_or ks n 0) sh t) ∙ e in let z : ◌≡◌ {A = ℕ} 0 1 = cc in absurd (omega arith))
      (λ t.
      let f : fails 2 ≡ fails r = sym (slot-absent (marked m vs) (get_or ks n 0) sh t) ∙ e in
      let two : r ≡ 2 = cc in
      ap misses two
      ∙ sym (next ∙ ap (prefixed (indexes (take n ks)))
      (split (among (as_read (get_or ks n 0)) (earlier ks n))
      (λ a. slots_repeated m (earlier ks n) (get_or ks n 0) (drop (suc n) ks) a)
      (λ a. slots-absent m (earlier ks n) (get_or ks n 0) (drop (suc n) ks) a
      (false_if (is_there m (idx (get_or ks n 0)) (version (get_or ks n 0)))
      (λ is.
      let w = there m (idx (get_or ks n 0)) (version (get_or ks n 0)) is in
      true_false (spot_repeated m vs (earlier ks n) (get_or ks n 0) (h.spots (idx (get_or ks n 0)))
      (λ v. true_false (there_true (marked m vs) (idx (get_or ks n 0)) (version (get_or ks n 0)) w.below v) t) w.same) a))))))

pub run_ends : (m : Map) (ks vs : List ℕ) (n : ℕ) → Run m ks vs n → length ks ≤ n → slots (indexes ks) ≡ slots_of m [] ks
unfolding slots_of prefixed
run_ends m ks vs n h l =
    sym (h.rest
    ∙ ap₂ (λ (p q : List ℕ). prefixed (indexes p) (slots_of m (earlier ks n) q)) (take_all n ks l) (drop_of_length-le ks l)
    ∙ ap slots (append-nil (indexes ks)))

-- ---- what marking leaves

-- marks keep the shape
pub marked-shape : (m : Map) (vs : List ℕ) → has_shape m ≡ true → length vs ≡ length m.versions → has_shape (marked m vs) ≡ true
marked-shape m vs sh e = let h = shaped m sh in shape_true (marked m vs) (omega arith)

pub marking_stopped : (m : Map) (ks vs : List ℕ) (n : ℕ) (r : Refusal) → Run m ks vs n → n < length ks → has_shape m ≡ true
    → slot (marked m vs) (get_or ks n 0) ≡ fails (number_of r) → Marking m ks (record { count = n; answer = Err r }) vs
marking_stopped m ks vs n r h l sh e =
    record { found = run-stops m ks vs n h l (number_of r) (marked-shape m vs sh h.same) e; few = h.few; within = h.within; back = h.back }

pub marking_all : (m : Map) (ks vs : List ℕ) (n : ℕ) → Run m ks vs n → length ks ≤ n → Marking m ks (record { count = length ks; answer = Ok (tt {0}) }) vs
marking_all m ks vs n h l =
    let all : n ≡ length ks = omega (arith, h.few) in
    record {
      found = run_ends m ks vs n h l;
      few = omega arith;
      within = λ j b. h.within j (omega arith);
      back = ap (unmarked vs ks) (sym all) ∙ h.back;
    }

-- ---- the marks are undone, one key a turn

pub unmarked-turn : (vs ks : List ℕ) (j : ℕ) (key : KeyData) → 0 < j → key ≡ key_of (get_or ks (j - 1) 0) → unmarked (set vs key.idx key.version) ks (j - 1) ≡ unmarked vs ks j
unfolding unmarked
unmarked-turn vs ks j key l e =
    let n : j ≡ suc (j - 1) = omega arith in
    ap (λ (q : KeyData). unmarked (set vs q.idx q.version) ks (j - 1)) e ∙ sym (ap (unmarked vs ks) n)

pub unmarked-end : (vs ks : List ℕ) (j : ℕ) → j ≤ 0 → unmarked vs ks j ≡ vs
unfolding unmarked
unmarked-end vs ks j l = let n : j ≡ 0 = omega arith in ap (unmarked vs ks) n

-- ---- the slots go into the output

length-indexes : (ks : List ℕ) → length (indexes ks) ≡ length ks
unfolding indexes
length-indexes [] = refl
length-indexes (k ∷ ks) = ap suc (length-indexes ks)

get_or-indexes : (ks : List ℕ) (n : ℕ) → n < length ks → get_or (indexes ks) n 0 ≡ idx (get_or ks n 0)
unfolding indexes
get_or-indexes [] n l = absurd (omega arith)
get_or-indexes (k ∷ ks) zero l = refl
get_or-indexes (k ∷ ks) (suc n) l = get_or-indexes ks n (omega arith)

module _ (out ks whole : List ℕ) (n : ℕ) (e : put out (0 + n) (drop n (indexes ks)) ≡ whole) where
  pub fill-turn : (i : ℕ) → n < length out → n < length ks → i ≡ idx (get_or ks n 0) → put (set out n i) (0 + (n + 1)) (drop (n + 1) (indexes ks)) ≡ whole
  fill-turn i l b at =
      let z : 0 + n ≡ n = omega arith in
      ap₂ (λ (j k : ℕ). put (set out j k) (0 + (n + 1)) (drop (n + 1) (indexes ks))) (sym z) (at ∙ sym (get_or-indexes ks n b))
      ∙ put-turn out (indexes ks) whole 0 n (omega arith) (omega (arith, length-indexes ks)) e

  pub fill_end : length ks ≤ n → out ≡ whole
  fill_end l = put-end out (indexes ks) whole 0 n (omega (arith, length-indexes ks)) e
