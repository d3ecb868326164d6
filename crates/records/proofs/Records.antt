-- What a record and a slot count say, from what their numbers say. Assumes nothing.
use Prim.Native.Nat.{ℕ, ◌+◌, ◌≤◌}
use mathlib.Core.Path.{◌≡◌, ap, ◌∙◌}
use mathlib.Core.List.{List}
use native.Mathlib.Omega.{arith}
use lib.ListN.{length, length-append}
use lib.Dec.{ltb}
use borrow.Author.Tests.{le-ltb, ltb-false, eq-eqb, ne_eqb}
use Rattle.lists.proofs.Tests.{split}
use Rattle.writing.specs.Told.{tells}
use Rattle.numbers.specs.Numbers.{number_at, encoded}
use Rattle.writing.proofs.Told.{never, told, both, by_answer}
use Rattle.numbers.proofs.Encoded.{length_last, length_bound}
use Rattle.records.specs.declared.Record.{Record}
use Rattle.records.specs.declared.Record.TheVariants.{Vacant, Occupied}
use Rattle.records.specs.Records.{record_at, count_of, record_bytes, Fit}

-- ---- a record

module _ (s : List ℕ) (at : ℕ) where
  module _ (v n : ℕ) (e : number_at 32 s at ≡ tells (v, n)) where
    module _ (p i : ℕ) (f : number_at 32 s n ≡ tells (p, i)) where
      pub vacant : p ≡ 0 → record_at s at ≡ tells (Vacant v, i)
      unfolding record_at
      vacant h = rw (e, f, eq-eqb p 0 h)

      module _ (h : p ≡ 0 → ⊥) where
        module _ (j : p ≡ 1) where
          pub occupied : (x o : ℕ) → number_at 64 s i ≡ tells (x, o) → record_at s at ≡ tells (Occupied v x, o)
          unfolding record_at
          occupied x o g = rw (e, f, ne_eqb p 0 h, eq-eqb p 1 j, g)

-- ---- the slot count

module _ (s : List ℕ) (most : ℕ) where
  module _ (c n : ℕ) (e : number_at 32 s 0 ≡ tells (c, n)) where
    pub counted : c ≤ most → count_of s most ≡ tells (c, n)
    unfolding count_of
    counted h = rw (e, le-ltb most c h)

  -- and the other way round
  pub count-is : (c n : ℕ) → count_of s most ≡ tells (c, n) → (number_at 32 s 0 ≡ tells (c, n)) × (c ≤ most)
  unfolding count_of
  count-is c n e =
      by_answer (number_at 32 s 0) _ (c, n) e (λ y f g.
      split (ltb most y.0) (λ t. never (rw t at g)) (λ t.
      let p = told (rw t at g) in (f ∙ ap tells p, ltb-false most c (rw (both p).0 at t))))

-- ---- a record's length

pub length_vacant : (v : ℕ) → length (record_bytes (Vacant v)) ≡ length (encoded v) + 1
unfolding record_bytes
length_vacant v = simp length-append (ap (λ (n : ℕ). length (encoded v) + n) (length_last 0 (omega arith)))

pub length-occupied : (v x : ℕ) → length (record_bytes (Occupied v x)) ≡ length (encoded v) + 1 + length (encoded x)
unfolding record_bytes
length-occupied v x = simp length-append (ap (λ (n : ℕ). length (encoded v) + n + length (encoded x)) (length_last 1 (omega arith)))

-- five bytes for a version, one for a presence, ten for a value
pub length-record : (r : Record) → Fit r → length (record_bytes r) ≤ 16
length-record (Vacant v) f = omega (arith, length_vacant v, length_bound 4 v (omega arith))
length-record (Occupied v x) f = omega (arith, length-occupied v x, length_bound 4 v (omega (arith, f.0)), length_bound 9 x (omega (arith, f.1)))
