-- The refusals that reading an image's records can give, and no others. Assumes nothing.
use Prim.Native.Nat.{ℕ, zero, suc}
use mathlib.Core.Path.{◌≡◌, sym}
use mathlib.Core.Logic.{⊎_elim}
use mathlib.Core.List.{List}
use lib.Dec.{ltb, eqb}
use lib.ListN.{length}
use Rattle.lists.proofs.Tests.{split}
use Rattle.writing.specs.Told.{Told, refused}
use Rattle.numbers.specs.Numbers.{number_at}
use Rattle.writing.proofs.Told.{never, refused-same, by_refusal}
use Rattle.numbers.proofs.Bounds.{number_refusals}
use Rattle.records.specs.Records.{record_at, records_from, count_of, list_of, records_of, Fault, ends, form, too_many, trailing, presence}

number-fault : (bits : ℕ) (s : List ℕ) (at k : ℕ) → number_at bits s at ≡ refused k → Fault k
number-fault bits s at k e = ⊎_elim (λ h. rw h ends) (λ h. rw h form) (number_refusals bits s at k e)

is : {A : Type 0} {j k : ℕ} → Fault j → ◌≡◌ {A = Told A} (refused j) (refused k) → Fault k
is f e = rw (refused-same e) at f

record-fault : (s : List ℕ) (at k : ℕ) → record_at s at ≡ refused k → Fault k
unfolding record_at
record-fault s at k e =
    by_refusal (number_at 32 s at) _ k e (number-fault 32 s at k) (λ v f g.
    by_refusal (number_at 32 s v.1) _ k g (number-fault 32 s v.1 k) (λ p h i.
    split (eqb p.0 0) (λ t. never (sym (rw t at i))) (λ t.
    split (eqb p.0 1) (λ u. by_refusal (number_at 64 s p.1) _ k (rw (t, u) at i) (number-fault 64 s p.1 k) (λ x j l. never (sym l)))
    (λ u. is presence (rw (t, u) at i)))))

records_fault : (n : ℕ) (s : List ℕ) (at k : ℕ) → records_from n s at ≡ refused k → Fault k
unfolding records_from
records_fault zero s at k e = never (sym e)
records_fault (suc n) s at k e =
    by_refusal (record_at s at) _ k e (record-fault s at k) (λ r f g. by_refusal (records_from n s r.1) _ k g (records_fault n s r.1 k) (λ l h i. never (sym i)))

pub image-fault : (s : List ℕ) (most k : ℕ) → records_of s most ≡ refused k → Fault k
unfolding records_of count_of list_of
image-fault s most k e =
    by_refusal (count_of s most) _ k e (λ f.
    by_refusal (number_at 32 s 0) _ k f (number-fault 32 s 0 k) (λ c g h. split (ltb most c.0) (λ t. is too_many (rw t at h)) (λ t. never (sym (rw t at h))))) (λ c f g.
    by_refusal (records_from c.0 s c.1) _ k g (records_fault c.0 s c.1 k)
    (λ l h i. split (ltb l.1 (length s)) (λ t. is trailing (rw t at i)) (λ t. never (sym (rw t at i)))))
