-- Laws of decimal numbers in a line: what the reader's loop keeps, a turn of it, and its ways out. Assumes nothing.
use mathlib.Core.Path.{◌≡◌, refl, sym, ap₂, ◌∙◌, subst}
use mathlib.Core.Bool.{Bool, true, false, cond, ◌&&◌}
use mathlib.Core.List.{List, [], ◌∷◌}
use Prim.Native.Nat.{ℕ, suc, ◌+◌, ◌-◌, ◌*◌, ◌≤◌, ◌<◌}
use native.Mathlib.Nat.{lt_of_not-le, le_refl, add-zero}
use native.Mathlib.Numerals.{add-one}
use native.Mathlib.Omega.{arith}
use lib.ListN.{length, drop, get_or, get_or-eq_default}
use lib.Seq.{drop-cons, get_or-drop}
use lib.Dec.{ltb, eqb}
use borrow.Author.Tests.{ltb-false, lt-ltb, le-ltb, le-leb, lt-leb, eq-eqb, ne_eqb}
use Rattle.fields.specs.declared.Number.{Number}
use Rattle.std.specs.Prelude.{Option, Some, None}
use Rattle.text.specs.Text.{digit_of, value_from, value_of}
use Rattle.fields.specs.Fields.{reads, digits_in, number_at, field_at}

pub digit_low : (b : ℕ) → b < 48 → digit_of b ≡ 10
unfolding digit_of
digit_low b h = rw (lt-leb 48 b h)

pub digit-high : (b : ℕ) → 57 < b → digit_of b ≡ 10
unfolding digit_of
digit-high b h = rw (le-leb 48 b (omega arith), lt-leb b 57 h)

pub digit_in : (b : ℕ) → 48 ≤ b → b ≤ 57 → digit_of b ≡ b - 48
unfolding digit_of
digit_in b h l = rw (le-leb 48 b h, le-leb b 57 l)

-- past the end there is no digit
pub digit_past : (s : List ℕ) (i : ℕ) → length s ≤ i → digit_of (get_or s i 0) ≡ 10
digit_past s i h = rw (get_or-eq_default s 0 h) (digit_low 0 (omega arith))

pub digit-there : (s : List ℕ) (i : ℕ) → digit_of (get_or s i 0) < 10 → i < length s
digit-there s i h = lt_of_not-le (λ l. omega (arith, digit_past s i l))

-- a digit more
module _ (s : List ℕ) (i : ℕ) (h : digit_of (get_or s i 0) < 10) where
  next : drop i s ≡ get_or s i 0 ∷ drop (i + 1) s
  next = rw (add-one, drop-cons s i 0 (digit-there s i h))

  pub digits_more : digits_in (drop i s) ≡ suc (digits_in (drop (i + 1) s))
  digits_more = rw (next, lt-ltb (digit_of (get_or s i 0)) 10 h)

  pub value-more : (v : ℕ) → value_from v (drop i s) ≡ value_from (v * 10 + digit_of (get_or s i 0)) (drop (i + 1) s)
  value-more v = rw (next, lt-ltb (digit_of (get_or s i 0)) 10 h)

-- no digit more
pub stops : (l : List ℕ) (v : ℕ) → 10 ≤ digit_of (get_or l 0 0) → (digits_in l ≡ 0) × (value_from v l ≡ v)
stops [] v h = (refl, refl)
stops (b ∷ l) v h = (rw (le-ltb (digit_of b) 10 h), rw (le-ltb (digit_of b) 10 h))

pub digits-end : (s : List ℕ) (i v : ℕ) → 10 ≤ digit_of (get_or s i 0) → (digits_in (drop i s) ≡ 0) × (value_from v (drop i s) ≡ v)
digits-end s i v h = stops (drop i s) v (rw (get_or-drop, add-zero) h)

-- a value only grows
grows : (t : Bool) (v w d : ℕ) → v * 10 + d ≤ w → v ≤ cond t w v
grows true v w d h = omega arith
grows false v w d h = le_refl v

pub value_ge : (l : List ℕ) (v : ℕ) → v ≤ value_from v l
value_ge [] v = le_refl v
value_ge (b ∷ l) v = grows (ltb (digit_of b) 10) v (value_from (v * 10 + digit_of b) l) (digit_of b) (value_ge l (v * 10 + digit_of b))

-- what the reader's loop keeps: at i, having read the value v, with the digit d next
pub record Reading (limit : ℕ) (s : List ℕ) (at d i v : ℕ) : Type 0 where
  pub digit : d ≡ digit_of (get_or s i 0)
  pub after : at ≤ i
  pub small : v ≤ limit
  pub digits : i + digits_in (drop i s) ≡ at + digits_in (drop at s)
  pub value : value_from v (drop i s) ≡ value_of (drop at s)

module _ (limit : ℕ) (s : List ℕ) (at d i v : ℕ) (r : Reading limit s at d i v) where
  -- a turn
  module _ (h : d < 10) where
    below : digit_of (get_or s i 0) < 10
    below = omega arith

    more : value_from (v * 10 + d) (drop (i + 1) s) ≡ value_of (drop at s)
    more = rw r.digit (sym (value-more s i below v) ∙ r.value)

    pub turn-there : i < length s
    turn-there = digit-there s i below

    pub turn : (e : ℕ) → e ≡ digit_of (get_or s (i + 1) 0) → v * 10 + d ≤ limit → Reading limit s at e (i + 1) (v * 10 + d)
    turn e p l = record { digit = p; after = omega arith; small = l; digits = omega (arith, digits_more s i below); value = more }

    pub turn_over : limit < v * 10 + d → None ≡ number_at limit s at
    unfolding number_at
    turn_over l = rw (lt-ltb limit (value_of (drop at s)) (omega (arith, more, value_ge (drop (i + 1) s) (v * 10 + d))))

  -- the ways out, where no digit is next
  module _ (h : 10 ≤ d) where
    stop : (digits_in (drop i s) ≡ 0) × (value_from v (drop i s) ≡ v)
    stop = digits-end s i v (omega arith)

    last : i ≡ at + digits_in (drop at s)
    last = omega (arith, stop.0)

    same : v ≡ value_of (drop at s)
    same = sym stop.1 ∙ r.value

    fits : ltb limit (value_of (drop at s)) ≡ false
    fits = le-ltb limit (value_of (drop at s)) (omega (arith, same))

    pub out_none : i ≡ at → None ≡ number_at limit s at
    unfolding number_at
    out_none e = rw (fits, eq-eqb (digits_in (drop at s)) 0 (omega (arith, last)))

    module _ (some : i ≡ at → ⊥) where
      there : eqb (digits_in (drop at s)) 0 ≡ false
      there = ne_eqb (digits_in (drop at s)) 0 (λ z. some (omega (arith, last)))

      pub out-leads : digit_of (get_or s at 0) ≡ 0 → 1 < i - at → None ≡ number_at limit s at
      unfolding number_at
      out-leads e l = rw (fits, there, eq-eqb (digit_of (get_or s at 0)) 0 e, lt-ltb 1 (digits_in (drop at s)) (omega (arith, last)))

      pub out_zero : digit_of (get_or s at 0) ≡ 0 → i - at ≤ 1 → reads v i ≡ number_at limit s at
      unfolding number_at
      out_zero e l =
          rw (fits, there, eq-eqb (digit_of (get_or s at 0)) 0 e, le-ltb 1 (digits_in (drop at s)) (omega (arith, last))) (ap₂ reads same last)

      pub out-plain : (digit_of (get_or s at 0) ≡ 0 → ⊥) → reads v i ≡ number_at limit s at
      unfolding number_at
      out-plain f = rw (fits, there, ne_eqb (digit_of (get_or s at 0)) 0 f) (ap₂ reads same last)

-- a number that is read is within the limit
pub UpTo : ℕ → Option Number → Type 0
UpTo limit (Some r) = r.value ≤ limit
UpTo limit None = Unit {0}

judged-small : (limit v n : ℕ) (a b c : Bool) → ltb limit v ≡ a → UpTo limit (cond a None (cond b None (cond c None (reads v n))))
unfolding UpTo
judged-small limit v n true b c e = tt
judged-small limit v n false true c e = tt
judged-small limit v n false false true e = tt
judged-small limit v n false false false e = ltb-false limit v e

number_small : (limit : ℕ) (s : List ℕ) (at : ℕ) → UpTo limit (number_at limit s at)
unfolding number_at
number_small limit s at =
    judged-small limit (value_of (drop at s)) (at + digits_in (drop at s)) (ltb limit (value_of (drop at s))) (eqb (digits_in (drop at s)) 0)
    (eqb (digit_of (get_or s at 0)) 0 && ltb 1 (digits_in (drop at s))) refl

field_cases : (limit : ℕ) (r : Option Number) (t : Bool) → UpTo limit r → UpTo limit (cond t r None)
unfolding UpTo
field_cases limit r true h = h
field_cases limit r false h = tt

pub field-small : (limit : ℕ) (s : List ℕ) (at v n : ℕ) → reads v n ≡ field_at limit s at → v ≤ limit
unfolding field_at UpTo
field-small limit s at v n e =
    subst (UpTo limit) (sym e) (field_cases limit (number_at limit s (at + 1)) (eqb (get_or s at 0) 32) (number_small limit s (at + 1)))
