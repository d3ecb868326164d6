-- The keys of a disjoint call marked in turn: a key has a place in the marked table exactly where it has one in the table itself and did not
-- come before. So the first key without one is the first that a test of the call refuses. Assumes nothing.
use mathlib.Core.Path.{◌≡◌, refl, sym, ap, ◌∙◌, subst}
use mathlib.Core.Logic.{by_cases}
use mathlib.Core.Bool.{true, false, cond}
use mathlib.Core.List.{List, [], ◌∷◌}
use mathlib.Core.Option.{Option, none, some}
use Prim.Native.Nat.{ℕ, zero, suc, ◌+◌, ◌≤◌, ◌<◌, zero-le}
use native.Mathlib.Numerals.{add-one}
use native.Mathlib.Omega.{arith}
use native.Mathlib.Decide.{ℕ_discrete}
use lib.ListN.{length, get_or, set, take, drop, drop_of_length-le}
use lib.Seq.{take-suc, drop-cons}
use Rattle.lists.specs.Among.{among}
use Rattle.lists.specs.Put.{put}
use Rattle.lists.proofs.Tests.{split, true_false, false_if}
use Rattle.lists.proofs.Put.{put_nil, put_cons}
use Rattle.lists.proofs.Among.{among_none, among-other}
use Rattle.keys.specs.Keys.{idx, version, as_read}
use Rattle.keys.proofs.Keys.{read_is, is_read}
use Rattle.table.specs.Table.{Table, link, has_shape, is_live, is_held}
use Rattle.table.specs.Calls.{Judged, found, fails, place_in, place}
use Rattle.lists.specs.Tests.{first}
use Rattle.table.specs.Refused.{key_tests, links_of}
use Rattle.table.proofs.Shape.{Shape, has_shape_lem}
use Rattle.table.proofs.Judged.{Live, standing}
use Rattle.table.proofs.Judging.{place-held}
use Rattle.table.proofs.Facts.{facts_live}
use Rattle.marks.specs.Marks.{toggled, marked}
use Rattle.marks.proofs.Turns.{length-toggled, marked_snoc}
use Rattle.marks.proofs.Marks.{Marks, marks_none, seen_marked, new-found, found-new, marks_more}

-- ---- a key in a table with other versions

abbrev pub with : Table → List ℕ → Table
with t us = record { versions = us; links = t.links; keys = t.keys; values = t.values; head = t.head }

with-shape : (t : Table) (us : List ℕ) → Shape t → length us ≡ length t.versions → Shape (with t us)
with-shape t us a e = omega (arith, a, e)

-- a place stays where the slot has the key's version
with-place : (t : Table) (us : List ℕ) (k p : ℕ) → length us ≡ length t.versions → place t k ≡ found p → get_or us (idx k) 0 ≡ version k → place (with t us) k ≡ found p
unfolding place
with-place t us k p l e q =
    let a = standing t k p e in
    let b : Live (with t us) (idx k) (version k) = record { low = a.low; high = a.high; same = q } in
    let c : link t (idx k) ≡ p = a.linked in
    let w : found (link t (idx k)) ≡ place_in (with t us) (idx k) (version k) =
    place-held (with t us) _ _ (facts_live (with t us) _ _ b) (rw c a.inside) (rw c a.held) in
    rw (has_shape_lem (with t us) (with-shape t us a.shape l)) (sym w ∙ ap found c)

-- keys that are read as one key have one place
place_read : (t : Table) (j k : ℕ) → as_read j ≡ as_read k → place t j ≡ place t k
unfolding place
place_read t j k e = let r = read_is j (idx k) (version k) (omega arith) (e ∙ is_read k _ _ refl refl) in rw (r.0, r.1)

-- ---- the tests of a list of keys, by the place of the first

abbrev onward : Judged → Option ℕ → Option ℕ
onward (found p) f = f
onward (fails r) f = some r

first_key : (t : Table) → has_shape t ≡ true → (seen : List ℕ) (k : ℕ) (ks : List ℕ)
    → first (key_tests t seen (k ∷ ks)) ≡ cond (among (as_read k) seen) (some 2) (onward (place t k) (first (key_tests t (as_read k ∷ seen) ks)))
unfolding place place_in
first_key t sh seen k ks =
    split (among (as_read k) seen)
    (λ a. rw a)
    (λ a. rw (a, sh) (split (is_live t (idx k) (version k))
    (λ b. rw b (split (is_held t (idx k) (version k)) (λ c. rw c) (λ c. rw c)))
    (λ b. rw b)))

-- ---- the places of a list of keys

abbrev pub linked : List ℕ → List ℕ → List ℕ
linked ls [] = []
linked ls (k ∷ ks) = get_or ls (idx k) 0 ∷ linked ls ks

pub linked_places : (t : Table) (ks : List ℕ) → linked t.links ks ≡ links_of t ks
linked_places t [] = refl
linked_places t (k ∷ ks) = ap (λ (ps : List ℕ). link t (idx k) ∷ ps) (linked_places t ks)

-- written in turn: what is left to write gives the same whole
module _ (ls ks b out : List ℕ) (j : ℕ) (rest : put out j (linked ls (drop j ks)) ≡ put b 0 (linked ls ks)) where
  pub places-turn : j < length ks → j < length out → (x : ℕ) → x ≡ get_or ls (idx (get_or ks j 0)) 0 → put (set out j x) (j + 1) (linked ls (drop (j + 1) ks)) ≡ put b 0 (linked ls ks)
  places-turn h l x e =
      rw (e, put_cons out j (get_or ls (idx (get_or ks j 0)) 0) (linked ls (drop (j + 1) ks)) l, add-one) (rw (drop-cons ks j 0 h) at rest)

  pub places-end : length ks ≤ j → out ≡ put b 0 (linked ls ks)
  places-end h = sym (put_nil out j) ∙ rw (drop_of_length-le ks h) at rest

-- ---- after m keys

judged {ℓ} : {A : Type ℓ} (j : Judged) → ((p : ℕ) → j ≡ found p → A) → ((r : ℕ) → j ≡ fails r → A) → A
judged (found p) f g = f p refl
judged (fails r) f g = g r refl

found-fails : {j : Judged} {p r : ℕ} → j ≡ found p → j ≡ fails r → ⊥
found-fails e q = let z : ◌≡◌ {A = ℕ} 0 1 = cc in omega arith

-- the keys that came before, as read
abbrev pub seen : List ℕ → ℕ → List ℕ
seen ks zero = []
seen ks (suc m) = as_read (get_or ks m 0) ∷ seen ks m

-- the refusal of a key that has no place in the marked table: a key that has one in the table itself came before
abbrev pub bar_of : Judged → ℕ
bar_of (found p) = 2
bar_of (fails r) = r

pub record Marking (t : Table) (ks us : List ℕ) (m : ℕ) : Type 0 where
  pub within : m ≤ length ks
  pub turned : us ≡ marked t.versions (take m ks)
  pub long : length us ≡ length t.versions
  pub slots : (j : ℕ) → j < m → idx (get_or ks j 0) < t.head.s
  pub marks : Marks t.versions us (seen ks m)
  -- each of them has a place in the table itself
  pub placed : (k : ℕ) → among (as_read k) (seen ks m) ≡ true → (p : ℕ) × (place t k ≡ found p)
  pub rest : first (key_tests t (seen ks m) (drop m ks)) ≡ first (key_tests t [] ks)

-- where the marking ends
pub record Marked (t : Table) (ks us : List ℕ) (m : ℕ) : Type 0 where
  pub within : m ≤ length ks
  pub turned : us ≡ marked t.versions (take m ks)
  pub slots : (j : ℕ) → j < m → idx (get_or ks j 0) < t.head.s
  pub whole : length ks ≤ m → first (key_tests t [] ks) ≡ none
  pub stopped : m < length ks → first (key_tests t [] ks) ≡ some (bar_of (place t (get_or ks m 0)))

module _ (t : Table) (ks : List ℕ) where
  pub marking_begins : Marking t ks t.versions 0
  unfolding marked
  marking_begins =
      record {
        within = zero-le;
        turned = refl;
        long = refl;
        slots = λ j h. absurd (omega arith);
        marks = marks_none t.versions;
        placed = λ k e. true_false e (among_none (as_read k));
        rest = refl;
      }

  module _ (us : List ℕ) (m : ℕ) (a : Marking t ks us m) where
    pub marking_ends : length ks ≤ m → Marked t ks us m
    marking_ends h =
        record {
          within = a.within;
          turned = a.turned;
          slots = a.slots;
          whole = λ l. sym a.rest ∙ rw (drop_of_length-le ks h);
          stopped = λ l. absurd (omega arith);
        }

    module _ (sh : Shape t) (h : m < length ks) where
      abbrev k : ℕ
      k = get_or ks m 0

      tested : first (key_tests t [] ks) ≡ cond (among (as_read k) (seen ks m)) (some 2) (onward (place t k) (first (key_tests t (seen ks (suc m)) (drop (suc m) ks))))
      tested = sym a.rest ∙ ap (λ (l : List ℕ). first (key_tests t (seen ks m) l)) (drop-cons ks m 0 h) ∙ first_key t (has_shape_lem t sh) (seen ks m) k (drop (suc m) ks)

      -- a key that came before has a place in the table itself only, a bad one has none
      refusal : (r : ℕ) → place (with t us) k ≡ fails r → first (key_tests t [] ks) ≡ some (bar_of (place t k))
      refusal r e =
          tested ∙ split (among (as_read k) (seen ks m))
          (λ b. rw (b, (a.placed k b).1))
          (λ b. rw b (judged (place t k)
          (λ p q. absurd (found-fails (with-place t us k p a.long q (new-found _ _ _ a.marks k b (standing t k p q).same)) e))
          (λ w q. rw q)))

      pub marking_stops : (r : ℕ) → place (with t us) k ≡ fails r → Marked t ks us m
      marking_stops r e =
          record {
            within = a.within;
            turned = a.turned;
            slots = a.slots;
            whole = λ l. absurd (omega arith);
            stopped = λ l. refusal r e;
          }

      pub marking_goes : (p : ℕ) (ws : List ℕ) → place (with t us) k ≡ found p → ws ≡ toggled us k → Marking t ks ws (m + 1)
      marking_goes p ws e w =
          let b = standing (with t us) k p e in
          let new : among (as_read k) (seen ks m) ≡ false = false_if _ (λ c. seen_marked _ _ _ a.marks k c b.same) in
          let at : place t k ≡ found p = with-place (with t us) t.versions k p (sym a.long) e (found-new _ _ _ a.marks k new b.same) in
          subst (Marking t ks ws) (sym (add-one m)) (record {
            within = h;
            turned = w ∙ ap (λ (l : List ℕ). toggled l k) a.turned ∙ sym (ap (marked t.versions) (take-suc ks m 0 h) ∙ marked_snoc t.versions (take m ks) k);
            long = ap length w ∙ length-toggled us k ∙ a.long;
            slots = λ j l. by_cases (ℕ_discrete j m) (λ z. rw z b.high) (λ ne. a.slots j (omega arith));
            marks = subst (λ (l : List ℕ). Marks t.versions l (seen ks (suc m))) (sym w) (marks_more _ _ _ a.marks k new (omega (arith, b)) b.same);
            placed = λ j c.
                by_cases (ℕ_discrete (as_read j) (as_read k))
                (λ z. (p, place_read t j k z ∙ at))
                (λ ne. a.placed j (sym (among-other (as_read j) (as_read k) (seen ks m) ne) ∙ c));
            rest = sym (tested ∙ rw (new, at));
          })
