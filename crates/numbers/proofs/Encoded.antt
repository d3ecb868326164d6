-- The shortest form of a number, group by group: its bytes, its length, and what putting it into a buffer leaves. Assumes nothing.
use Prim.Native.Nat.{ℕ, zero, suc, ◌+◌, ◌/◌, ◌%◌, ◌≤◌, ◌<◌}
use mathlib.Core.Path.{◌≡◌, sym, ap, ◌∙◌}
use mathlib.Core.List.{List, [], ◌∷◌}
use mathlib.Core.Logic.{⊎_elim}
use native.Mathlib.Numerals.{add-one}
use native.Mathlib.Omega.{arith}
use lib.ListN.{length, set}
use borrow.Author.Tests.{lt-ltb, le-ltb}
use Rattle.lists.specs.Put.{put}
use Rattle.lists.proofs.Put.{put_nil, put_cons}
use Rattle.lists.proofs.Tests.{lt_or_le}
use Rattle.numbers.specs.Numbers.{worth, groups_of, encoded}
use Rattle.numbers.proofs.Numbers.{worth-next}

-- ---- one group, and the rest

pub groups_last : (k n : ℕ) → n < 128 → groups_of (suc k) n ≡ n ∷ []
unfolding groups_of
groups_last k n h = rw (lt-ltb n 128 h, groups_of)

pub groups_more : (k n : ℕ) → 128 ≤ n → groups_of (suc k) n ≡ (n % 128 + 128) ∷ groups_of k (n / 128)
unfolding groups_of
groups_more k n h = rw (le-ltb n 128 h, groups_of)

-- how many groups may be taken does not matter once it is more than the number
enough : (k j n : ℕ) → n < k → n < j → groups_of k n ≡ groups_of j n
enough zero j n h i = absurd (omega arith)
enough (suc k) zero n h i = absurd (omega arith)
enough (suc k) (suc j) n h i =
    ⊎_elim (λ l. groups_last k n l ∙ sym (groups_last j n l))
    (λ g. groups_more k n g ∙ ap (λ t. (n % 128 + 128) ∷ t) (enough k j (n / 128) (omega arith) (omega arith)) ∙ sym (groups_more j n g))
    (lt_or_le n 128)

pub encoded-last : (n : ℕ) → n < 128 → encoded n ≡ n ∷ []
unfolding encoded
encoded-last n h = groups_last n n h

pub encoded-more : (n : ℕ) → 128 ≤ n → encoded n ≡ (n % 128 + 128) ∷ encoded (n / 128)
unfolding encoded
encoded-more n h = groups_more n n h ∙ ap (λ t. (n % 128 + 128) ∷ t) (enough n (suc (n / 128)) (n / 128) (omega arith) (omega arith))

-- ---- its length

pub length_last : (n : ℕ) → n < 128 → length (encoded n) ≡ 1
length_last n h = ap length (encoded-last n h)

pub length_more : (n : ℕ) → 128 ≤ n → length (encoded n) ≡ length (encoded (n / 128)) + 1
length_more n h = ap length (encoded-more n h) ∙ sym (add-one (length (encoded (n / 128))))

-- a number below the worth of k groups has k at most: five for 32 bits, ten for 64
pub length_bound : (k n : ℕ) → n < worth (suc k) → length (encoded n) ≤ suc k
length_bound zero n h = omega (arith, length_last n h)
length_bound (suc k) n h =
    ⊎_elim (λ l. omega (arith, length_last n l))
    (λ g. omega (arith, length_more n g, length_bound k (n / 128) (omega (arith, rw (add-one (suc k)) at (worth-next (suc k))))))
    (lt_or_le n 128)

-- ---- put into a buffer: the first byte is stored, and then the rest

pub put_last : (d : List ℕ) (at n : ℕ) → n < 128 → at < length d → set d at n ≡ put d at (encoded n)
put_last d at n h l = rw (encoded-last n h) (sym (put_nil (set d at n) (at + 1)) ∙ put_cons d at n [] l)

pub put-more : (d : List ℕ) (at n : ℕ) → 128 ≤ n → at < length d → put (set d at (n % 128 + 128)) (at + 1) (encoded (n / 128)) ≡ put d at (encoded n)
put-more d at n h l = rw (encoded-more n h) (put_cons d at (n % 128 + 128) (encoded (n / 128)) l)
