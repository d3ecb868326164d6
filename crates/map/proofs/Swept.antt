-- Fresh, drain step, retain and clear: what is kept whole, what stays as it was, what lookup answers afterwards, and that the count is the number of
-- occupied slots. Assumes nothing.
use mathlib.Core.Path.{◌≡◌, refl, sym, ap, subst, ◌∙◌}
use mathlib.Core.Logic.{◌≢◌, by_cases}
use mathlib.Core.Bool.{true, false, cond}
use mathlib.Core.List.{List}
use Prim.Native.Nat.{ℕ, ◌≤◌, ◌<◌}
use native.Mathlib.Omega.{arith}
use native.Mathlib.Decide.{dec_lt}
use lib.ListN.{get_or}
use Rattle.lists.specs.Count.{count}
use Rattle.lists.proofs.Tests.{split, either, false_if}
use Rattle.keys.specs.Keys.{idx, version}
use Rattle.rules.specs.declared.Rule.{Rule}
use Rattle.rules.specs.Rules.{keeps_of}
use Rattle.map.specs.Map.{Map, ver, val, is_occupied, lengths_fit, has_shape, is_there}
use Rattle.map.specs.Calls.{said_value, said_count, said_done, Out, fresh_map, len, lookup, ahead, drain, gone}
use Rattle.map.specs.Whole.{Whole, is_whole}
use Rattle.map.specs.Sweeps.{asked, retaining, retain, clearing, clear}
use Rattle.map.proofs.Whole.{whole_passes}
use Rattle.map.proofs.Cases.{there, there_true, lookup_absent, lookup-there}
use Rattle.map.proofs.Seek.{ahead-occupied}
use Rattle.map.proofs.Drains.{none_ahead, drain-nothing}
use Rattle.map.proofs.Ways.{version-some}
use Rattle.map.proofs.Wholes.{whole-fresh-map}
use Rattle.map.proofs.Lookups.{gone_same, answer, after, lookup_has, has_lookup}
use Rattle.map.proofs.Sieves.{whole-retaining, retaining-slots, retaining-values, retaining_past, retaining_at}
use Rattle.map.proofs.Clears.{clearing-slots, clearing_past, clearing-values, whole-clearing, cleared_vacant}

-- ---- the count

pub len-counts : (m : Map) → Whole m → len m ≡ said_count (count (is_occupied m) m.head.s)
unfolding len
len-counts m w = rw (w.shape, w.counted)

-- ---- fresh

-- a map without elements has no key
no_key : (m : Map) → has_shape m ≡ true → ((i : ℕ) → i < m.head.s → ver m i ≡ 0) → (k : ℕ) → (lookup m k).0 ≡ gone m k
no_key m sh none k =
    answer (lookup_absent m k sh
    (false_if (is_there m (idx k) (version k))
    (λ e. let t = there m (idx k) (version k) e in version-some k (sym t.same ∙ none (idx k) t.below))))

pub lookup-fresh : (vs xs : List ℕ) (k : ℕ) → lengths_fit vs xs ≡ true → (lookup (fresh_map vs xs) k).0 ≡ gone (fresh_map vs xs) k
unfolding fresh_map
lookup-fresh vs xs k e =
    let w = whole-fresh-map vs xs e in
    no_key (fresh_map vs xs) w.shape (λ i l. let z : i ≡ 0 = omega arith in ap (ver (fresh_map vs xs)) z ∙ w.first) k

-- ---- retain and clear on a whole map, and on another

module _ (m u : Map) where
  asked-whole : Whole m → asked m u ≡ (said_done, u)
  asked-whole w = rw (w.shape, whole_passes m w)

  -- where they are refused nothing changes
  asked-keeps : (asked m u).0 ≢ said_done → (asked m u).1 ≡ m
  asked-keeps ne =
      split (has_shape m)
      (λ sh. split (is_whole m) (λ h. absurd (ne (rw (sh, h)))) (λ h. rw (sh, h)))
      (λ sh. rw sh)

  -- what holds of the map, and of the one that is swept, holds afterwards
  asked_either : (P : Map → Type 0) → P m → P u → P (asked m u).1
  asked_either P p q =
      either (λ (o : Out). P o.1) (has_shape m) _ _ (either (λ (o : Out). P o.1) (is_whole m) _ _ q p) p

-- the values stay, and s, and the versions past the slots
pub retain_frame_values : (m : Map) (rule : Rule) → (retain m rule).1.values ≡ m.values
unfolding retain
retain_frame_values m rule = asked_either m _ (λ (u : Map). u.values ≡ m.values) refl (retaining-values (keeps_of rule) m.head.s 0 m)

pub clear_frame_values : (m : Map) → (clear m).1.values ≡ m.values
unfolding clear
clear_frame_values m = asked_either m _ (λ (u : Map). u.values ≡ m.values) refl (clearing-values m.head.count m)

pub retain_frame_slots : (m : Map) (rule : Rule) → (retain m rule).1.head.s ≡ m.head.s
unfolding retain
retain_frame_slots m rule = asked_either m _ (λ (u : Map). u.head.s ≡ m.head.s) refl (retaining-slots (keeps_of rule) m.head.s 0 m)

pub clear_frame_slots : (m : Map) → (clear m).1.head.s ≡ m.head.s
unfolding clear
clear_frame_slots m = asked_either m _ (λ (u : Map). u.head.s ≡ m.head.s) refl (clearing-slots m.head.count m)

pub retain_frame_versions : (m : Map) (rule : Rule) (j : ℕ) → m.head.s ≤ j → ver (retain m rule).1 j ≡ ver m j
unfolding retain
retain_frame_versions m rule j l =
    asked_either m _ (λ (u : Map). ver u j ≡ ver m j) refl (retaining_past (keeps_of rule) m.head.s 0 m j (omega arith))

pub clear_frame_versions : (m : Map) (j : ℕ) → m.head.s ≤ j → ver (clear m).1 j ≡ ver m j
unfolding clear
clear_frame_versions m j l = asked_either m _ (λ (u : Map). ver u j ≡ ver m j) refl (clearing_past m.head.count m j l)

pub retain-refused-keeps : (m : Map) (rule : Rule) → (retain m rule).0 ≢ said_done → (retain m rule).1 ≡ m
unfolding retain
retain-refused-keeps m rule = asked-keeps m _

pub clear-refused-keeps : (m : Map) → (clear m).0 ≢ said_done → (clear m).1 ≡ m
unfolding clear
clear-refused-keeps m = asked-keeps m _

module _ (m : Map) (w : Whole m) where
  retain_is : (rule : Rule) → retain m rule ≡ (said_done, retaining (keeps_of rule) m.head.s 0 m)
  unfolding retain
  retain_is rule = asked-whole m _ w

  clear_is : clear m ≡ (said_done, clearing m.head.count m)
  unfolding clear
  clear_is = asked-whole m _ w

  -- a whole map is never refused
  pub retain_undamaged : (rule : Rule) → (retain m rule).0 ≡ said_done
  retain_undamaged rule = answer (retain_is rule)

  pub clear_undamaged : (clear m).0 ≡ said_done
  clear_undamaged = answer clear_is

  pub whole-retain : (rule : Rule) → Whole (retain m rule).1
  whole-retain rule = subst Whole (sym (after (retain_is rule))) (whole-retaining (keeps_of rule) m.head.s 0 m (omega arith) w)

  pub whole-clear : Whole (clear m).1
  whole-clear = subst Whole (sym (after clear_is)) (whole-clearing m.head.count m w)

  -- ---- after clear no key is there, and a drain step is done

  pub lookup-clear : (k : ℕ) → (lookup (clear m).1 k).0 ≡ gone m k
  lookup-clear k =
      let u = clearing m.head.count m in
      ap (λ (n : Map). (lookup n k).0) (after clear_is)
      ∙ no_key u (whole-clearing m.head.count m w).shape (λ i l. cleared_vacant m w i (omega (arith, clearing-slots m.head.count m))) k
      ∙ gone_same m u k

  pub drain-clear : (p : ℕ) → (drain (clear m).1 p).0 ≡ said_done
  drain-clear p =
      let u = clearing m.head.count m in
      ap (λ (n : Map). (drain n p).0) (after clear_is)
      ∙ by_cases (dec_lt (ahead u p) u.head.s)
      (λ l. absurd (ahead-occupied u p l (cleared_vacant m w (ahead u p) (omega (arith, clearing-slots m.head.count m)))))
      (λ l. answer (drain-nothing u p (none_ahead u p (whole-clearing m.head.count m w).shape (omega arith))))

  -- ---- after retain a key is there where its rule keeps it

  module _ (rule : Rule) (k : ℕ) where
    kept : Map
    kept = retaining (keeps_of rule) m.head.s 0 m

    kept_version : (i : ℕ) → i < m.head.s → ver kept i ≡ cond (keeps_of rule i (val m i)) (ver m i) 0
    unfolding kept
    kept_version i l = retaining_at (keeps_of rule) m.head.s 0 m i (omega arith) w (omega arith) (omega arith)

    kept_lookup : (lookup (retain m rule).1 k).0 ≡ (lookup kept k).0
    unfolding kept
    kept_lookup = ap (λ (n : Map). (lookup n k).0) (after (retain_is rule))

    kept_shape : has_shape kept ≡ true
    unfolding kept
    kept_shape = (whole-retaining (keeps_of rule) m.head.s 0 m (omega arith) w).shape

    kept_slots : kept.head.s ≡ m.head.s
    unfolding kept
    kept_slots = retaining-slots (keeps_of rule) m.head.s 0 m

    kept_value : val kept (idx k) ≡ val m (idx k)
    unfolding kept
    kept_value = ap (λ (xs : List ℕ). get_or xs (idx k) 0) (retaining-values (keeps_of rule) m.head.s 0 m)

    pub lookup-retain_kept : (x : ℕ) → (lookup m k).0 ≡ said_value x → keeps_of rule (idx k) x ≡ true → (lookup (retain m rule).1 k).0 ≡ said_value x
    lookup-retain_kept x e h =
        let f = lookup_has m k x e in
        let t = there m (idx k) (version k) f.is in
        kept_lookup
        ∙ has_lookup kept k x
        (record {
          shape = kept_shape;
          is =
              there_true kept (idx k) (version k) (omega (arith, t.below, kept_slots))
              (kept_version (idx k) t.below ∙ rw (f.value, h) t.same);
          value = kept_value ∙ f.value;
        })

    -- a key whose slot is vacant or has another version
    kept_gone : (is_there kept (idx k) (version k) ≡ true → ⊥) → (lookup (retain m rule).1 k).0 ≡ gone m k
    kept_gone h = kept_lookup ∙ answer (lookup_absent kept k kept_shape (false_if (is_there kept (idx k) (version k)) h)) ∙ gone_same m kept k

    pub lookup-retain_dropped : (x : ℕ) → (lookup m k).0 ≡ said_value x → keeps_of rule (idx k) x ≡ false → (lookup (retain m rule).1 k).0 ≡ gone m k
    lookup-retain_dropped x e h =
        let f = lookup_has m k x e in
        kept_gone (λ is.
        let t = there kept (idx k) (version k) is in
        version-some k (sym t.same ∙ kept_version (idx k) (omega (arith, t.below, kept_slots)) ∙ rw (f.value, h)))

    pub lookup-retain-absent : (lookup m k).0 ≡ gone m k → (lookup (retain m rule).1 k).0 ≡ gone m k
    lookup-retain-absent e =
        kept_gone (λ is.
        let t = there kept (idx k) (version k) is in
        let l : idx k < m.head.s = omega (arith, t.below, kept_slots) in
        split (keeps_of rule (idx k) (val m (idx k)))
        (λ h.
        let s : ver m (idx k) ≡ version k = sym (kept_version (idx k) l ∙ rw h) ∙ t.same in
        let f = sym (answer (lookup-there m k w.shape (there_true m (idx k) (version k) l s))) ∙ e in
        let z : ◌≡◌ {A = ℕ} 0 1 = cc in omega arith)
        (λ h. version-some k (sym t.same ∙ kept_version (idx k) l ∙ rw h)))
