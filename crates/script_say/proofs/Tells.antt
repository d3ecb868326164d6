-- What is printed tells the answer: of one kind of command, two answers that print the same line are one. Assumes nothing.
use mathlib.Core.Path.{◌≡◌, refl, sym, ap, ◌∙◌}
use mathlib.Core.Bool.{false}
use mathlib.Core.List.{List, [], ◌∷◌, ◌++◌, append_cancel_left, append_cancel_right}
use Prim.Native.Nat.{ℕ}
use native.Mathlib.Omega.{arith}
use lib.ListN.{get_or}
use Rattle.lists.proofs.Tests.{split}
use Rattle.keys.specs.Keys.{idx, version, as_read, key_of, number_of, is_null}
use Rattle.keys.proofs.Keys.{number-key}
use Rattle.text.specs.Text.{decimal, digit_of, value_from, value_of, refused_text}
use Rattle.text.proofs.Decimal.{digits_zero}
use Rattle.text.proofs.Reading.{value-decimal_then, decimal_one_to_one}
use Rattle.text.proofs.Keys.{key-text-null, key-text-plain, stops_at_letter, key-text_one_to_one}
use Rattle.table.specs.Calls.{Said, said_key, said_value, said_done, said_count, refused}
use Rattle.script_say.specs.Says.{newline, answer_text, line_out}

-- the newline after both is no part of the answers
line-text : (a b : Said) → line_out a ≡ line_out b → answer_text a ≡ answer_text b
unfolding line_out
line-text a b e = append_cancel_right (answer_text a) (answer_text b) (newline ∷ []) e

pub value_tells : (x y : ℕ) → line_out (said_value x) ≡ line_out (said_value y) → x ≡ y
unfolding answer_text
value_tells x y e = decimal_one_to_one x y (line-text (said_value x) (said_value y) e)

pub count-tells : (m n : ℕ) → line_out (said_count m) ≡ line_out (said_count n) → m ≡ n
unfolding answer_text
count-tells m n e = decimal_one_to_one m n (line-text (said_count m) (said_count n) e)

pub refused-tells : (r q : ℕ) → line_out (refused r) ≡ line_out (refused q) → r ≡ q
unfolding answer_text
refused-tells r q e = decimal_one_to_one r q (append_cancel_left refused_text (decimal r) (decimal q) (line-text (refused r) (refused q) e))

-- a key, as it is read; no insert answers the null key
pub key-tells : (k j : ℕ) → is_null (key_of k) ≡ false → is_null (key_of j) ≡ false → line_out (said_key k) ≡ line_out (said_key j) → as_read k ≡ as_read j
unfolding answer_text
key-tells k j p q e =
    sym (number-key k) ∙ ap number_of (key-text_one_to_one (key_of k) (key_of j) p q (line-text (said_key k) (said_key j) e)) ∙ number-key j

-- ---- no other answer looks like a refusal

stops_at_newline : (n : ℕ) (t : List ℕ) → value_from n (newline ∷ t) ≡ n
unfolding digit_of
stops_at_newline n t = refl

no_value : (s : List ℕ) → value_of (114 ∷ s) ≡ 0
unfolding digit_of
no_value s = refl

-- no `r` stands where a number does
number-first : (n : ℕ) (t s : List ℕ) → value_from n t ≡ n → decimal n ++ t ≡ 114 ∷ s → ⊥
number-first n t s stops e =
    let none : n ≡ 0 = sym (value-decimal_then n t ∙ stops) ∙ ap value_of e ∙ no_value s in
    let front : ◌≡◌ {A = ℕ} 48 114 = ap (λ (l : List ℕ). get_or l 0 0) (sym (ap (λ (l : List ℕ). (l ++ (48 ∷ [])) ++ t) digits_zero) ∙ ap (λ (m : ℕ). decimal m ++ t) (sym none) ∙ e) in
    omega arith

pub value_not_refused : (x r : ℕ) → line_out (said_value x) ≡ line_out (refused r) → ⊥
unfolding answer_text line_out
value_not_refused x r e = number-first x (newline ∷ []) _ (stops_at_newline x []) e

pub count_not_refused : (m r : ℕ) → line_out (said_count m) ≡ line_out (refused r) → ⊥
unfolding answer_text line_out
count_not_refused m r e = number-first m (newline ∷ []) _ (stops_at_newline m []) e

pub done_not_refused : (r : ℕ) → line_out said_done ≡ line_out (refused r) → ⊥
unfolding answer_text line_out
done_not_refused r e = let front : ◌≡◌ {A = ℕ} 111 114 = ap (λ (l : List ℕ). get_or l 0 0) e in omega arith

pub key_not_refused : (k r : ℕ) → line_out (said_key k) ≡ line_out (refused r) → ⊥
unfolding answer_text
key_not_refused k r e =
    let f = line-text (said_key k) (refused r) e in
    split (is_null (key_of k))
    (λ p. let front : ◌≡◌ {A = ℕ} 110 114 = ap (λ (l : List ℕ). get_or l 0 0) (sym (key-text-null (key_of k) p) ∙ f) in omega arith)
    (λ p. number-first (idx k) _ _ (stops_at_letter (idx k) (decimal (version k))) (sym (key-text-plain (key_of k) p) ∙ f))
