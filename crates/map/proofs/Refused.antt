-- Theorem G for the secondary map, for any arrays: a call is refused with the number of the first of its tests that fails, and then leaves
-- everything as it was; where all its tests hold it does what the rules say. Each call is one equation over its list of tests. Assumes nothing.
use mathlib.Core.Path.{◌≡◌, refl, ap, ◌∙◌}
use mathlib.Core.Logic.{◌≢◌, ◌↔◌}
use mathlib.Core.Bool.{Bool, true, false}
use mathlib.Core.List.{List, [], ◌∷◌}
use mathlib.Core.Option.{Option, none, some}
use Prim.Native.Nat.{ℕ, ◌-◌}
use native.Mathlib.Omega.{arith}
use lib.Dec.{leb, ltb, eqb}
use lib.ListN.{length}
use borrow.Author.Tests.{eqb-true, ne_eqb}
use Rattle.lists.specs.Among.{among}
use Rattle.lists.specs.Put.{put}
use Rattle.lists.proofs.Tests.{split, either, true_false, before, first-append}
use Rattle.keys.specs.Keys.{idx, version, as_read, key_of, is_null}
use Rattle.keys.specs.declared.KeyData.{KeyData}
use Rattle.rules.specs.declared.Rule.{Rule}
use Rattle.rules.specs.Rules.{keeps_of}
use Rattle.map.specs.Map.{Map, ver, val, has_shape, is_there, older, grown, with_value, emptied}
use Rattle.map.specs.Calls as calls
use Rattle.map.specs.Calls.{Said, said_value, said_count, said_truth, said_ignored, said_replaced, said_kept, said_stored, said_element, said_done, refused, Out, found, slot_in, slot, lookup, settled, fate, fated, insert_key, insert, leaving_from, leaving, remove, ahead, met, drain}
use Rattle.map.specs.Whole.{is_whole}
use Rattle.map.specs.Sweeps.{asked, retaining, retain, clearing, clear, Slots, slots, misses, slotted, slots_of, given, disjoint}
use Rattle.lists.specs.Tests.{first}
use Rattle.map.specs.Refused.{ruled, slot_tests, remove_tests, insert_tests, drain_tests, sweep_tests, key_tests, disjoint_tests, can_enter, enters, inserts, drains, indexes, beside}
use Rattle.map.proofs.Ways.{version-some}

-- ---- where a refusal is given

abbrev is_refused : Said → Bool
is_refused (said_value x) = false
is_refused (said_count n) = false
is_refused (said_truth b) = false
is_refused said_ignored = false
is_refused (said_replaced x) = false
is_refused said_kept = false
is_refused said_stored = false
is_refused (said_element k x p) = false
is_refused said_done = false
is_refused (refused r) = true

refuses : {A : Type 0} (u : A) (f : Option ℕ) (o : Said × A) (r : ℕ) → is_refused o.0 ≡ false → ((ruled u f o).0 ≡ refused r) ↔ (f ≡ some r)
refuses u none o r h = (λ e. true_false (ap is_refused e) h, λ e. let z : ◌≡◌ {A = ℕ} 0 1 = cc in absurd (omega arith))
refuses u (some q) o r h = (λ e. cc, λ e. cc)

-- ---- one key

module _ (m : Map) (k : ℕ) where
  pub lookup-ruled : lookup m k ≡ ruled m (first (slot_tests m k)) (said_value (val m (idx k)), m)
  unfolding lookup slot slot_in
  lookup-ruled = split (has_shape m) (λ a. rw a (split (is_there m (idx k) (version k)) (λ b. rw b) (λ b. rw b))) (λ a. rw a)

  pub put-ruled : (x : ℕ) → calls.put m k x ≡ ruled m (first (slot_tests m k)) (said_value (val m (idx k)), with_value m (idx k) x)
  unfolding calls.put slot slot_in
  put-ruled x = split (has_shape m) (λ a. rw a (split (is_there m (idx k) (version k)) (λ b. rw b) (λ b. rw b))) (λ a. rw a)

  pub remove-ruled : remove m k ≡ ruled m (first (remove_tests m k)) (said_value (val m (idx k)), emptied m (idx k))
  unfolding remove leaving leaving_from slot slot_in
  remove-ruled =
      split (has_shape m)
      (λ a. rw a (split (is_there m (idx k) (version k))
      (λ b. rw b (split (eqb m.head.count 0) (λ c. rw c) (λ c. rw c)))
      (λ b. rw b)))
      (λ a. rw a)

-- ---- insert

-- in a slot of the grown map g: a version that is 0 is no key's
enters-ruled : (m g : Map) (key : KeyData) (x : ℕ) → key.version ≢ 0
    → fated m g key x (settled g.head.s g.head.count (ver g key.idx) key.version) ≡ ruled m (first ((can_enter g key.idx, 5) ∷ [])) (enters g key.idx key.version x)
unfolding settled
enters-ruled m g key x od =
    split (eqb (ver g key.idx) key.version)
    (λ a. let e : ver g key.idx ≡ key.version = eqb-true _ _ a in rw (a, ne_eqb (ver g key.idx) 0 (λ z. od (omega arith))))
    (λ a. rw a (split (eqb (ver g key.idx) 0)
    (λ b. rw b (split (ltb g.head.count (g.head.s - 1)) (λ c. rw c) (λ c. rw c)))
    (λ b. rw b (split (older key.version (ver g key.idx)) (λ c. rw c) (λ c. rw c)))))

insert-key-ruled : (m : Map) (key : KeyData) (x : ℕ) → key.version ≢ 0 → insert_key m key x ≡ ruled m (first (insert_tests m key)) (inserts m key x)
unfolding insert_key fate
insert-key-ruled m key x od =
    split (has_shape m)
    (λ a. rw a (split (is_null key)
    (λ b. rw b)
    (λ b. rw b (split (eqb key.idx 0)
    (λ c. rw c)
    (λ c. rw c (split (leb (length m.versions) key.idx)
    (λ d. rw d)
    (λ d. rw d (enters-ruled m (grown m key.idx) key x od))))))))
    (λ a. rw a)

pub insert-ruled : (m : Map) (k x : ℕ) → insert m k x ≡ ruled m (first (insert_tests m (key_of k))) (inserts m (key_of k) x)
unfolding insert
insert-ruled m k x = insert-key-ruled m (key_of k) x (version-some k)

-- so 1, 9, 8 and 5 are each given exactly where theirs is the first test that fails
pub insert-refused : (m : Map) (k x r : ℕ) → ((insert m k x).0 ≡ refused r) ↔ (first (insert_tests m (key_of k)) ≡ some r)
insert-refused m k x r = rw (insert-ruled m k x) (refuses m (first (insert_tests m (key_of k))) (inserts m (key_of k) x) r accepted)
  where
    accepted : is_refused (inserts m (key_of k) x).0 ≡ false
    accepted =
        either (λ (o : Out). is_refused o.0 ≡ false) (is_null (key_of k)) _ _ refl
        (either (λ (o : Out). is_refused o.0 ≡ false) (eqb (ver (grown m (idx k)) (idx k)) (version k)) _ _ refl
        (either (λ (o : Out). is_refused o.0 ≡ false) (eqb (ver (grown m (idx k)) (idx k)) 0) _ _ refl
        (either (λ (o : Out). is_refused o.0 ≡ false) (older (version k) (ver (grown m (idx k)) (idx k))) _ _ refl refl)))

-- ---- drain step, retain and clear

module _ (m : Map) where
  pub drain-ruled : (p : ℕ) → drain m p ≡ ruled m (first (drain_tests m p)) (drains m p)
  unfolding drain met leaving_from
  drain-ruled p =
      split (has_shape m)
      (λ a. rw a (split (ltb (ahead m p) m.head.s) (λ b. rw b (split (eqb m.head.count 0) (λ c. rw c) (λ c. rw c))) (λ b. rw b)))
      (λ a. rw a)

  asked-ruled : (u : Map) → asked m u ≡ ruled m (first (sweep_tests m)) (said_done, u)
  asked-ruled u = split (has_shape m) (λ a. rw a (split (is_whole m) (λ b. rw b) (λ b. rw b))) (λ a. rw a)

  pub retain-ruled : (rule : Rule) → retain m rule ≡ ruled m (first (sweep_tests m)) (said_done, retaining (keeps_of rule) m.head.s 0 m)
  unfolding retain
  retain-ruled rule = asked-ruled _

  pub clear-ruled : clear m ≡ ruled m (first (sweep_tests m)) (said_done, clearing m.head.count m)
  unfolding clear
  clear-ruled = asked-ruled _

-- ---- disjoint

abbrev seated : Option ℕ → List ℕ → Slots
seated none is = slots is
seated (some r) is = misses r

slotted_seated : (i : ℕ) (f : Option ℕ) (is : List ℕ) → slotted (found i) (seated f is) ≡ seated f (i ∷ is)
slotted_seated i none is = refl
slotted_seated i (some r) is = refl

slots_seated : (m : Map) (earlier ks : List ℕ) → slots_of m earlier ks ≡ seated (first (key_tests m earlier ks)) (indexes ks)
unfolding slots_of slot_in indexes
slots_seated m earlier [] = refl
slots_seated m earlier (k ∷ ks) =
    split (among (as_read k) earlier)
    (λ a. rw a)
    (λ a. rw a (split (is_there m (idx k) (version k))
    (λ b. rw b (ap (slotted (found (idx k))) (slots_seated m (as_read k ∷ earlier) ks) ∙ slotted_seated (idx k) (first (key_tests m (as_read k ∷ earlier) ks)) (indexes ks)))
    (λ b. rw b)))

given-ruled : (m : Map) (f : Option ℕ) (is ks out : List ℕ)
    → given m (seated f is) ks out ≡ beside m (ruled out (before f (first ((leb (length ks) (length out), 6) ∷ []))) (said_done, put out 0 is))
given-ruled m none is ks out = split (leb (length ks) (length out)) (λ b. rw b) (λ b. rw b)
given-ruled m (some r) is ks out = refl

pub disjoint-ruled : (m : Map) (ks out : List ℕ) → disjoint m ks out ≡ beside m (ruled out (first (disjoint_tests m ks out)) (said_done, put out 0 (indexes ks)))
unfolding disjoint
disjoint-ruled m ks out =
    split (has_shape m)
    (λ a. rw (a, slots_seated m [] ks, first-append (key_tests m [] ks) ((leb (length ks) (length out), 6) ∷ [])) (given-ruled m (first (key_tests m [] ks)) (indexes ks) ks out))
    (λ a. rw a)
