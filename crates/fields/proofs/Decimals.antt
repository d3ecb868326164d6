-- A number in a line is decimal text and nothing else: what is written is read, and what is read would be written so.
-- The first by the laws of decimal text; the second digit by digit, from any value above 0 on. Assumes nothing.
use mathlib.Core.Path.{◌≡◌, refl, sym, ap, ap₂, ◌∙◌}
use mathlib.Core.Logic.{⊎_elim}
use mathlib.Core.Bool.{Bool, true, false, cond, ◌&&◌}
use mathlib.Core.List.{List, [], ◌∷◌, ◌++◌, append_assoc, append-nil, Memᴰ}
use Prim.Native.Nat.{ℕ, suc, ◌+◌, ◌-◌, ◌*◌, ◌/◌, ◌%◌, ◌≤◌, ◌<◌}
use native.Mathlib.Nat.{zero-add, add-zero, eq-zero-or-pos}
use native.Mathlib.Omega.{arith}
use lib.ListN.{length, take, drop, get_or, take-append-drop, get_or-append}
use lib.Seq.{get_or-drop, drop-drop}
use lib.Dec.{ltb, leb, eqb}
use borrow.Author.Tests.{eqb-false, leb-true, ltb-true, ltb-false, lt-ltb, le-ltb, eq-eqb, ne_eqb}
use Rattle.std.specs.Prelude.{None}
use Rattle.text.specs.Text.{digits, decimal, digit_of, value_from, value_of}
use Rattle.text.proofs.Decimal.{digits_step, digits_zero, length-decimal}
use Rattle.text.proofs.Reading.{value-decimal_then, decimal-bytes, decimal-first}
use Rattle.fields.specs.declared.Number.{Number}
use Rattle.fields.specs.Fields.{reads, digits_in, number_at}
use Rattle.fields.proofs.Numbers.{digit_in, stops, value_ge}

-- ---- bytes and digits

digit_cases : (b : ℕ) (x y : Bool) → leb 48 b ≡ x → cond (x && y) (b - 48) 10 < 10 → b ≡ 48 + cond (x && y) (b - 48) 10
digit_cases b true true e h = omega (arith, leb-true 48 b e)
digit_cases b true false e h = omega arith
digit_cases b false y e h = omega arith

-- the byte of a digit
digit-byte : (b : ℕ) → digit_of b < 10 → b ≡ 48 + digit_of b
unfolding digit_of
digit-byte b h = digit_cases b (leb 48 b) (leb b 57) refl h

digit-small : (b : ℕ) → (48 ≤ b) × (b ≤ 57) → digit_of b < 10
digit-small b h = omega (arith, digit_in b h.0 h.1)

-- a text of digits before a text: their count is its length
digits-before : (t rest : List ℕ) → ((x : ℕ) → Memᴰ x t → (48 ≤ x) × (x ≤ 57)) → digits_in (t ++ rest) ≡ length t + digits_in rest
digits-before [] rest h = sym (zero-add (digits_in rest))
digits-before (b ∷ t) rest h =
    let one : ltb (digit_of b) 10 ≡ true = lt-ltb (digit_of b) 10 (digit-small b (h b (Memᴰ.head refl))) in
    let more : digits_in (t ++ rest) ≡ length t + digits_in rest = digits-before t rest (λ x m. h x (Memᴰ.tail m)) in
    rw one (omega arith)

-- ---- what is written is read

-- n's text at a place, within the limit and with no digit after it, is read as n
module _ (limit : ℕ) (line : List ℕ) (at n : ℕ) (rest : List ℕ) (there : drop at line ≡ decimal n ++ rest) (small : n ≤ limit) (stop : 10 ≤ digit_of (get_or rest 0 0)) where
  is_value : value_of (drop at line) ≡ n
  is_value = ap value_of there ∙ value-decimal_then n rest ∙ (stops rest n stop).1

  is_count : digits_in (drop at line) ≡ length (decimal n)
  is_count = omega (arith, ap digits_in there, digits-before (decimal n) rest (decimal-bytes n), (stops rest n stop).0)

  is_first : get_or line at 0 ≡ get_or (decimal n) 0 0
  is_first =
      sym (rw (get_or-drop at line 0 0, add-zero)) ∙ ap (λ (l : List ℕ). get_or l 0 0) there
      ∙ get_or-append (decimal n) rest 0 0 (omega (arith, length-decimal n))

  leading : (eqb (digit_of (get_or line at 0)) 0 && ltb 1 (digits_in (drop at line))) ≡ false
  leading = ⊎_elim zero_alone no_zero (eq-zero-or-pos n)
    where
      and_false : (x : Bool) → (x && false) ≡ false
      and_false true = refl
      and_false false = refl

      zero_alone : n ≡ 0 → (eqb (digit_of (get_or line at 0)) 0 && ltb 1 (digits_in (drop at line))) ≡ false
      zero_alone e =
          let z : n / 10 ≡ 0 = omega arith in
          rw (le-ltb 1 (digits_in (drop at line)) (omega (arith, is_count, length-decimal n, ap (λ (k : ℕ). length (digits k)) z, ap length digits_zero)))
          (and_false (eqb (digit_of (get_or line at 0)) 0))

      no_zero : 0 < n → (eqb (digit_of (get_or line at 0)) 0 && ltb 1 (digits_in (drop at line))) ≡ false
      no_zero h =
          rw (ne_eqb (digit_of (get_or line at 0)) 0 (λ z. omega (arith, is_first, decimal-first n h, digit-byte (get_or line at 0) (omega arith))))

  pub number_read : number_at limit line at ≡ reads n (at + length (decimal n))
  unfolding number_at
  number_read =
      rw (le-ltb limit (value_of (drop at line)) (omega (arith, is_value)), ne_eqb (digits_in (drop at line)) 0 (λ z. omega (arith, is_count, length-decimal n)), leading)
      (ap₂ reads is_value (ap (λ (k : ℕ). at + k) is_count))

-- ---- what is read would be written so

-- a digit more
digits-next : (v d : ℕ) → 0 < v * 10 + d → d < 10 → digits (v * 10 + d) ≡ digits v ++ ((48 + d) ∷ [])
digits-next v d h l = digits_step (v * 10 + d) h ∙ ap₂ (λ (p q : ℕ). digits p ++ ((48 + q) ∷ [])) tens ones
  where
    tens : (v * 10 + d) / 10 ≡ v
    tens = omega arith

    ones : (v * 10 + d) % 10 ≡ d
    ones = omega arith

-- the digits of v, and the digits that follow, are those of the value
more_at : (b v : ℕ) (l : List ℕ) (t : Bool) → ltb (digit_of b) 10 ≡ t → 0 < v
    → digits (v * 10 + digit_of b) ++ take (digits_in l) l ≡ digits (value_from (v * 10 + digit_of b) l)
    → digits v ++ take (cond t (suc (digits_in l)) 0) (b ∷ l) ≡ digits (cond t (value_from (v * 10 + digit_of b) l) v)
more_at b v l false e h i = append-nil (digits v)
more_at b v l true e h i =
    ap (λ (x : ℕ). digits v ++ (x ∷ take (digits_in l) l)) (digit-byte b d)
    ∙ sym (append_assoc (digits v) ((48 + digit_of b) ∷ []) (take (digits_in l) l))
    ∙ ap (λ (p : List ℕ). p ++ take (digits_in l) l) (sym (digits-next v (digit_of b) (omega arith) d))
    ∙ i
  where
    d : digit_of b < 10
    d = ltb-true (digit_of b) 10 e

more : (l : List ℕ) (v : ℕ) → 0 < v → digits v ++ take (digits_in l) l ≡ digits (value_from v l)
more [] v h = append-nil (digits v)
more (b ∷ l) v h = more_at b v l (ltb (digit_of b) 10) refl h (more l (v * 10 + digit_of b) (omega arith))

none_more : (b v : ℕ) (l : List ℕ) (t : Bool) → cond t (suc (digits_in l)) 0 ≡ 0 → cond t (value_from (v * 10 + digit_of b) l) v ≡ v
none_more b v l true e = absurd (omega arith)
none_more b v l false e = refl

none : (l : List ℕ) (v : ℕ) → digits_in l ≡ 0 → value_from v l ≡ v
none [] v e = refl
none (b ∷ l) v e = none_more b v l (ltb (digit_of b) 10) e

-- digits that begin with a zero, which stands alone, or with another digit
begins_zero : (b : ℕ) (l : List ℕ) → digit_of b < 10 → digit_of b ≡ 0 → digits_in l ≡ 0 → b ∷ take (digits_in l) l ≡ decimal (value_from (0 + digit_of b) l)
begins_zero b l h e f =
    ap₂ (λ (x k : ℕ). x ∷ take k l) byte f ∙ sym (ap decimal (none l (0 + digit_of b) f ∙ zero) ∙ ap (λ (p : List ℕ). p ++ (48 ∷ [])) digits_zero)
  where
    byte : b ≡ 48
    byte = omega (arith, digit-byte b h)

    zero : 0 + digit_of b ≡ 0
    zero = omega arith

begins-more : (b : ℕ) (l : List ℕ) → digit_of b < 10 → 0 < digit_of b → b ∷ take (digits_in l) l ≡ decimal (value_from (0 + digit_of b) l)
begins-more b l h p =
    rw (zero-add (digit_of b))
    (ap (λ (x : ℕ). x ∷ take (digits_in l) l) (digit-byte b h) ∙ ap (λ (q : List ℕ). q ++ take (digits_in l) l) (sym alone) ∙ more l (digit_of b) p
    ∙ digits_step (value_from (digit_of b) l) (omega (arith, value_ge l (digit_of b))))
  where
    alone : digits (digit_of b) ≡ (48 + digit_of b) ∷ []
    alone =
        digits_step (digit_of b) p ∙ ap₂ (λ (x y : ℕ). digits x ++ ((48 + y) ∷ [])) tens ones ∙ ap (λ (q : List ℕ). q ++ ((48 + digit_of b) ∷ [])) digits_zero
      where
        tens : digit_of b / 10 ≡ 0
        tens = omega arith

        ones : digit_of b % 10 ≡ digit_of b
        ones = omega arith

front_at : (b : ℕ) (l : List ℕ) (t : Bool) → ltb (digit_of b) 10 ≡ t → eqb (cond t (suc (digits_in l)) 0) 0 ≡ false
    → (eqb (digit_of b) 0 && ltb 1 (cond t (suc (digits_in l)) 0)) ≡ false
    → take (cond t (suc (digits_in l)) 0) (b ∷ l) ≡ decimal (cond t (value_from (0 + digit_of b) l) 0)
front_at b l false e f g = absurd (eqb-false 0 0 f refl)
front_at b l true e f g = ⊎_elim zero_first (begins-more b l d) (eq-zero-or-pos (digit_of b))
  where
    d : digit_of b < 10
    d = ltb-true (digit_of b) 10 e

    zero_first : digit_of b ≡ 0 → b ∷ take (digits_in l) l ≡ decimal (value_from (0 + digit_of b) l)
    zero_first z = begins_zero b l d z (omega (arith, ltb-false 1 (suc (digits_in l)) (rw (eq-eqb (digit_of b) 0 z) at g)))

-- a text whose front has digits, and no zero before another: they are the decimal text of their value
front : (l : List ℕ) → eqb (digits_in l) 0 ≡ false → (eqb (digit_of (get_or l 0 0)) 0 && ltb 1 (digits_in l)) ≡ false
    → take (digits_in l) l ≡ decimal (value_of l)
front [] f g = absurd (eqb-false 0 0 f refl)
front (b ∷ l) f g = front_at b l (ltb (digit_of b) 10) refl f g

record Found (a b c : Bool) (w m v n : ℕ) : Type 0 where
  second : b ≡ false
  third : c ≡ false
  value : w ≡ v
  after : m ≡ n

found : (a b c : Bool) (w m v n : ℕ) → cond a None (cond b None (cond c None (reads w m))) ≡ reads v n → Found a b c w m v n
found true b c w m v n e = let z : ◌≡◌ {A = ℕ} 0 1 = cc in absurd (omega arith)
found false true c w m v n e = let z : ◌≡◌ {A = ℕ} 0 1 = cc in absurd (omega arith)
found false false true w m v n e = let z : ◌≡◌ {A = ℕ} 0 1 = cc in absurd (omega arith)
found false false false w m v n e =
    let same : ◌≡◌ {A = Number} (record { value = w; next = m }) (record { value = v; next = n }) = cc in
    record { second = refl; third = refl; value = ap (λ (r : Number). r.value) same; after = ap (λ (r : Number). r.next) same }

-- a number that is read stands there as its decimal text, up to the place after it
pub number-written : (limit : ℕ) (line : List ℕ) (at v n : ℕ) → number_at limit line at ≡ reads v n → drop at line ≡ decimal v ++ drop n line
unfolding number_at
number-written limit line at v n e =
    sym (take-append-drop (digits_in (drop at line)) (drop at line)) ∙ ap₂ ◌++◌ text rest
  where
    q : Found (ltb limit (value_of (drop at line))) (eqb (digits_in (drop at line)) 0) (eqb (digit_of (get_or line at 0)) 0 && ltb 1 (digits_in (drop at line))) (value_of (drop at line)) (at + digits_in (drop at line)) v n
    q = found (ltb limit (value_of (drop at line))) (eqb (digits_in (drop at line)) 0) (eqb (digit_of (get_or line at 0)) 0 && ltb 1 (digits_in (drop at line))) (value_of (drop at line)) (at + digits_in (drop at line)) v n e

    text : take (digits_in (drop at line)) (drop at line) ≡ decimal v
    text = front (drop at line) q.second (rw (get_or-drop, add-zero) q.third) ∙ ap decimal q.value

    rest : drop (digits_in (drop at line)) (drop at line) ≡ drop n line
    rest = drop-drop (digits_in (drop at line)) at line ∙ ap (λ (m : ℕ). drop m line) q.after
