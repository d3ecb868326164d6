-- What marks tell: while every key so far was found in its slot, a key is found in the marked slots exactly where it is found in the slots
-- themselves and did not come before. A marked slot's version is even, a key's version is odd. Assumes nothing.
use mathlib.Core.Path.{◌≡◌, refl, sym, ap, ◌∙◌}
use mathlib.Core.Logic.{◌≢◌, by_cases}
use mathlib.Core.Bool.{true, false, cond}
use mathlib.Core.List.{List, [], ◌∷◌}
use Prim.Native.Nat.{ℕ, ◌%◌, ◌<◌}
use native.Mathlib.Omega.{arith}
use native.Mathlib.Decide.{ℕ_discrete}
use lib.ListN.{length, get_or}
use Rattle.lists.specs.Among.{among}
use Rattle.lists.proofs.Tests.{split, true_false}
use Rattle.lists.proofs.Among.{among_none, among_same, among-other}
use Rattle.keys.specs.Keys.{W, idx, pack, version, as_read}
use Rattle.keys.proofs.Keys.{version-odd, is_read, read_is}
use Rattle.marks.specs.Marks.{flipped, toggled}
use Rattle.marks.proofs.Turns.{toggled_at, toggled_off}

-- the slots us are the slots vs with the slots of the keys seen so far marked, and each of these keys was found in its slot
pub record Marks (vs us seen : List ℕ) : Type 0 where
  pub at : (i : ℕ) → i < W → get_or us i 0 ≡ cond (among (pack i (get_or vs i 0)) seen) (flipped (get_or vs i 0)) (get_or vs i 0)
  pub known : (i v : ℕ) → i < W → among (pack i v) seen ≡ true → (get_or vs i 0 ≡ v) × (v % 2 ≡ 1)

pub marks_none : (vs : List ℕ) → Marks vs vs []
marks_none vs =
    record {
      at = λ i h. rw (among_none (pack i (get_or vs i 0)));
      known = λ i v h e. true_false e (among_none (pack i v));
    }

module _ (vs us seen : List ℕ) (a : Marks vs us seen) (k : ℕ) where
  read : as_read k ≡ pack (idx k) (version k)
  read = is_read k _ _ refl refl

  -- the slot of a key that was seen
  pub seen_found : among (as_read k) seen ≡ true → get_or vs (idx k) 0 ≡ version k
  seen_found e = (a.known (idx k) (version k) (omega arith) (ap (λ (x : ℕ). among x seen) (sym read) ∙ e)).0

  pub seen_marked : among (as_read k) seen ≡ true → get_or us (idx k) 0 ≢ version k
  seen_marked e q =
      let o = seen_found e in
      let m : among (pack (idx k) (get_or vs (idx k) 0)) seen ≡ true = ap (λ (v : ℕ). among (pack (idx k) v) seen) o ∙ ap (λ (x : ℕ). among x seen) (sym read) ∙ e in
      omega (arith, q, o, version-odd k, rw m at (a.at (idx k) (omega arith)))

  -- the slot of a key that is new
  module _ (e : among (as_read k) seen ≡ false) where
    pub new-found : get_or vs (idx k) 0 ≡ version k → get_or us (idx k) 0 ≡ version k
    new-found q =
        let m : among (pack (idx k) (get_or vs (idx k) 0)) seen ≡ false = ap (λ (v : ℕ). among (pack (idx k) v) seen) q ∙ ap (λ (x : ℕ). among x seen) (sym read) ∙ e in
        rw m at (a.at (idx k) (omega arith)) ∙ q

    pub found-new : get_or us (idx k) 0 ≡ version k → get_or vs (idx k) 0 ≡ version k
    found-new q =
        split (among (pack (idx k) (get_or vs (idx k) 0)) seen)
        (λ m.
        let o = (a.known (idx k) (get_or vs (idx k) 0) (omega arith) m).1 in
        absurd (omega (arith, o, q, version-odd k, rw m at (a.at (idx k) (omega arith)))))
        (λ m. sym (rw m at (a.at (idx k) (omega arith))) ∙ q)

    -- it is marked
    pub marks_more : idx k < length us → get_or us (idx k) 0 ≡ version k → Marks vs (toggled us k) (as_read k ∷ seen)
    marks_more h q =
        let o = found-new q in
        record {
          at = λ i l.
              by_cases (ℕ_discrete i (idx k))
              (λ z. rw (z, o, among_same (pack (idx k) (version k)) (as_read k) seen (sym read), toggled_at us k h, q))
              (λ ne. rw (toggled_off us k i ne, among-other (pack i (get_or vs i 0)) (as_read k) seen (λ z. ne (sym (read_is k i _ l (sym z)).0))) (a.at i l));
          known = λ i v l m.
              by_cases (ℕ_discrete (pack i v) (as_read k))
              (λ z. let r = read_is k i v l (sym z) in (ap (λ (j : ℕ). get_or vs j 0) (sym r.0) ∙ o ∙ r.1, omega (arith, r.1, version-odd k)))
              (λ ne. a.known i v l (sym (among-other (pack i v) (as_read k) seen ne) ∙ m));
        }
