-- What is kept of the records, one by one and of them all; and what a turn of the judge's loop makes of what is still to be read. Assumes nothing.
use Rattle.std.proofs.Common.{◌≡◌, ℕ, suc, ◌+◌, ◌^◌, ◌<◌, ◌≤◌, cond, ltb, List, [], ◌∷◌, length, sym, refl, ap, ◌∙◌, add-zero, add_assoc, mod-eq_of_lt, zero-add, arith, le-ltb, lt-ltb, ne_eqb}
use Rattle.lists.proofs.Tests.{split}
use Rattle.writing.specs.Told.{Told, tells, refused, onward}
use Rattle.writing.proofs.Told.{onward-same, onward_assoc}
use Rattle.records.specs.declared.Record.{Record}
use Rattle.records.specs.declared.Record.TheVariants.{Vacant, Occupied}
use Rattle.summaries.specs.declared.Summary.{Summary}
use Rattle.records.specs.Records.{version_of, presence_of, record_at, records_from, list_of}
use Rattle.records.proofs.Images.{by_list, records_length}
use Rattle.summaries.specs.Summaries.{wrong_of, lives, wrongs, blank, summary_of, judged_from, noted_as, noted}

-- ---- one by one

abbrev pub summed : Summary → List Record → Summary
summed s [] = s
summed s (r ∷ l) = summed (noted s r) l

presence-small : (r : Record) → presence_of r ≤ 1
presence-small (Vacant v) = omega arith
presence-small (Occupied v x) = omega arith

wrong_small : (r : Record) → wrong_of r ≤ 1
wrong_small (Vacant v) = omega arith
wrong_small (Occupied v x) = omega arith

-- a summary's numbers
abbrev kept : ℕ → ℕ → ℕ → ℕ → ℕ → Summary
kept c v p n w = record { count = c; version = v; presence = p; live = n; wrong = w }

-- after the first record, the counts grow as long as they fit
noted_more : (c v p n w : ℕ) (r : Record) → 0 < c → c + 1 < 2 ^ 32 → n + 1 < 2 ^ 32 → w + 1 < 2 ^ 32
    → noted (kept c v p n w) r ≡ kept (c + 1) v p (n + presence_of r) (w + wrong_of r)
unfolding noted noted_as
noted_more c v p n w r h i j k =
    rw (ne_eqb c 0 (λ z. absurd (omega arith)), mod-eq_of_lt {n = c + 1} i, mod-eq_of_lt {n = n + presence_of r} {m = 2 ^ 32} (omega (arith, presence-small r)), mod-eq_of_lt {n = w + wrong_of r} {m = 2 ^ 32} (omega (arith, wrong_small r)))

same_kept : {a b d e f g : ℕ} (v p : ℕ) → a ≡ b → d ≡ e → f ≡ g → kept a v p d f ≡ kept b v p e g
same_kept v p x y z = rw (x, y, z)

summed_more : (c v p n w : ℕ) (l : List Record) → 0 < c → c + length l < 2 ^ 32 → n < c → w < c
    → summed (kept c v p n w) l ≡ kept (c + length l) v p (n + lives l) (w + wrongs l)
unfolding lives wrongs
summed_more c v p n w [] h i j k = simp add-zero
summed_more c v p n w (r ∷ l) h i j k =
    ap (λ (s : Summary). summed s l) (noted_more c v p n w r h (omega arith) (omega arith) (omega arith))
    ∙ summed_more (c + 1) v p (n + presence_of r) (w + wrong_of r) l (omega arith) (omega arith) (omega (arith, presence-small r)) (omega (arith, wrong_small r))
    ∙ same_kept v p (omega arith) (add_assoc n (presence_of r) (lives l)) (add_assoc w (wrong_of r) (wrongs l))

-- what is kept one by one is what is kept of them all
pub summed_all : (l : List Record) → length l < 2 ^ 32 → summed blank l ≡ summary_of l
unfolding summary_of noted noted_as
summed_all [] h = refl
summed_all (r ∷ l) h =
    summed_more 1 (version_of r) (presence_of r) 0 0 l (omega arith) (omega arith) (omega arith) (omega arith)
    ∙ same_kept (version_of r) (presence_of r) (omega arith) (zero-add (lives l)) (zero-add (wrongs l))

-- ---- the records still to be read

pub list_length : (k : ℕ) (s : List ℕ) (at : ℕ) (l : List Record) → list_of k s at ≡ tells l → length l ≡ k
list_length k s at l e = by_list k s at l e (λ n f h. records_length k s at l n f)

-- what is kept of so many records from a place on, of which others have been kept
abbrev pub keeping : ℕ → List ℕ → ℕ → Summary → Told Summary
keeping k s at kept = onward (list_of k s at) (λ l. tells (summed kept l))

-- one record more
first_of : (s : List ℕ) (kept : Summary) (r : Record) (x : Told (List Record × ℕ)) (f : List Record × ℕ → Told (List Record)) → ((l : List Record) (n : ℕ) → f (l, n) ≡ cond (ltb n (length s)) (refused 15) (tells l))
    → onward (onward (onward x (λ l. tells (r ∷ l.0, l.1))) f) (λ l. tells (summed kept l)) ≡ onward (onward x f) (λ l. tells (summed (noted kept r) l))
first_of s kept r (refused k) f e = refl
first_of s kept r (tells (l, n)) f e = rw (e (r ∷ l) n, e l n) (split (ltb n (length s)) (λ t. rw t) (λ t. rw t))

module _ (s : List ℕ) (at : ℕ) (kept : Summary) where
  pub keeping_refused : (k j : ℕ) → record_at s at ≡ refused j → keeping (suc k) s at kept ≡ refused j
  unfolding list_of records_from
  keeping_refused k j e = rw e

  pub keeping_more : (k : ℕ) (r : Record) (n : ℕ) → record_at s at ≡ tells (r, n) → keeping (suc k) s at kept ≡ keeping k s n (noted kept r)
  unfolding list_of records_from
  keeping_more k r n e = rw e (first_of s kept r (records_from k s n) _ (λ l m. refl))

  pub keeping_over : at < length s → keeping 0 s at kept ≡ refused 15
  unfolding list_of records_from
  keeping_over h = rw (lt-ltb at (length s) h)

  pub keeping_end : length s ≤ at → keeping 0 s at kept ≡ tells kept
  unfolding list_of records_from
  keeping_end h = rw (le-ltb at (length s) h)

-- what is judged is what is kept from the first record on
pub judged_kept : (count : ℕ) (s : List ℕ) (from : ℕ) → count < 2 ^ 32 → judged_from count s from ≡ onward (keeping count s from blank) (λ k. tells (from, k))
unfolding judged_from
judged_kept count s from h =
    sym (onward_assoc (list_of count s from) _ _
    ∙ onward-same (list_of count s from) _ _ (λ l e. ap (λ (k : Summary). tells (from, k)) (summed_all l (omega (arith, list_length count s from l e)))))
