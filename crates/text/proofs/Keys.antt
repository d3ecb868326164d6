-- Laws of keys' text: how it is put in, part by part; that two keys which are not null have two texts, and that no such key prints `null`. Assumes nothing.
use mathlib.Core.Path.{◌≡◌, refl, sym, ap, ap₂, ◌∙◌}
use mathlib.Core.Bool.{true, false}
use mathlib.Core.List.{List, ◌∷◌, ◌++◌, append_cancel_left}
use Prim.Native.Nat.{ℕ, zero, suc, ◌+◌, ◌≤◌, ◌<◌}
use native.Mathlib.Omega.{arith}
use lib.ListN.{length, set, get_or, length-append}
use lib.Seq.{get_or-append_seam}
use Rattle.lists.specs.Put.{put}
use Rattle.lists.proofs.Put.{put_cons, put-put, length-put}
use Rattle.lists.proofs.Tests.{split}
use Rattle.keys.specs.Keys.{is_null}
use Rattle.keys.specs.declared.KeyData.{KeyData}
use Rattle.text.specs.Text.{decimal, digit_of, value_from, value_of, null_text, key_text}
use Rattle.text.proofs.Reading.{value-decimal_then, decimal_one_to_one}

pub key-text-null : (k : KeyData) → is_null k ≡ true → key_text k ≡ null_text
unfolding key_text
key-text-null k h = rw h

pub key-text-plain : (k : KeyData) → is_null k ≡ false → key_text k ≡ decimal k.idx ++ (118 ∷ decimal k.version)
unfolding key_text
key-text-plain k h = rw h

-- a key that is not null, in its three parts
module _ (k : KeyData) (plain : is_null k ≡ false) where
  pub key-text-length : length (key_text k) ≡ length (decimal k.idx) + 1 + length (decimal k.version)
  key-text-length = omega (arith, ap length (key-text-plain k plain), length-append (decimal k.idx) (118 ∷ decimal k.version))

  -- put in one after the other; letter is the place of the `v`, l the buffer after the index and m the buffer after the version
  pub key-text-put : (b l m : List ℕ) (at letter : ℕ) → letter ≡ at + length (decimal k.idx) → letter + 1 + length (decimal k.version) ≤ length b
      → l ≡ put b at (decimal k.idx) → m ≡ put (set l letter 118) (letter + 1) (decimal k.version) → m ≡ put b at (key_text k)
  key-text-put b l m at letter p h e f =
      f ∙ put_cons l letter 118 (decimal k.version) room
      ∙ ap₂ (λ (x : List ℕ) (n : ℕ). put x n (118 ∷ decimal k.version)) e p
      ∙ put-put b at (decimal k.idx) (118 ∷ decimal k.version) (omega arith)
      ∙ ap (put b at) (sym (key-text-plain k plain))
    where
      room : letter < length l
      room = omega (arith, ap length e, length-put b at (decimal k.idx) (omega arith))

-- ---- which key a text is of

pub stops_at_letter : (n : ℕ) (t : List ℕ) → value_from n (118 ∷ t) ≡ n
unfolding digit_of
stops_at_letter n t = refl

-- two keys that are not null and have one text are one key
pub key-text_one_to_one : (k l : KeyData) → is_null k ≡ false → is_null l ≡ false → key_text k ≡ key_text l → k ≡ l
key-text_one_to_one k l p q e = ap₂ (λ (i v : ℕ). record { idx = i; version = v }) same_index same_version
  where
    same : decimal k.idx ++ (118 ∷ decimal k.version) ≡ decimal l.idx ++ (118 ∷ decimal l.version)
    same = sym (key-text-plain k p) ∙ e ∙ key-text-plain l q

    index : (i v : ℕ) → value_of (decimal i ++ (118 ∷ decimal v)) ≡ i
    index i v = value-decimal_then i (118 ∷ decimal v) ∙ stops_at_letter i (decimal v)

    same_index : k.idx ≡ l.idx
    same_index = sym (index k.idx k.version) ∙ ap value_of same ∙ index l.idx l.version

    after : 118 ∷ decimal k.version ≡ 118 ∷ decimal l.version
    after =
        append_cancel_left (decimal k.idx) (118 ∷ decimal k.version) (118 ∷ decimal l.version)
        (same ∙ ap (λ (i : ℕ). decimal i ++ (118 ∷ decimal l.version)) (sym same_index))

    same_version : k.version ≡ l.version
    same_version = decimal_one_to_one k.version l.version (cc after)

no_letter : (i : ℕ) → get_or null_text i 0 ≡ 118 → ⊥
no_letter zero e = omega arith
no_letter (suc zero) e = omega arith
no_letter (suc (suc zero)) e = omega arith
no_letter (suc (suc (suc zero))) e = omega arith
no_letter (suc (suc (suc (suc i)))) e = omega arith

-- no other key prints `null`: there is no `v` in it
pub key-text-null_only : (k : KeyData) → key_text k ≡ null_text → is_null k ≡ true
key-text-null_only k e = split (is_null k) (λ p. p) (λ p. absurd (no_letter place (letter p)))
  where
    place : ℕ
    place = length (decimal k.idx)

    letter : is_null k ≡ false → get_or null_text place 0 ≡ 118
    letter p =
        ap (λ (t : List ℕ). get_or t place 0) (sym e ∙ key-text-plain k p) ∙ get_or-append_seam (decimal k.idx) 118 (decimal k.version) 0
