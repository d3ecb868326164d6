-- A line is understood exactly where it is the text of a command, and then as that command; any other line is refused with 17.
-- By the two directions of a number after a space, chained over the line. Assumes nothing.
use mathlib.Core.Path.{◌≡◌, refl, sym, ap, ap₂, ◌∙◌}
use mathlib.Core.Logic.{◌⊎◌, inl, inr}
use mathlib.Core.Bool.{true}
use mathlib.Core.List.{List, [], ◌∷◌, ◌++◌, append-nil}
use Prim.Native.Nat.{ℕ, ◌+◌, ◌≤◌, ◌<◌}
use native.Mathlib.Nat.{lt_of_not-le, add-zero}
use native.Mathlib.Numerals.{add-one}
use native.Mathlib.Omega.{arith}
use lib.ListN.{length, drop, get_or, length-append, drop_of_length-le, get_or-eq_default}
use lib.Seq.{drop-cons, drop-drop, drop-append_seam, get_or-drop}
use lib.Dec.{leb, ltb, eqb}
use borrow.Author.Tests.{leb-true, eqb-true, le-leb}
use Rattle.lists.proofs.Tests.{picked, and_true, and_left, and_right}
use Rattle.keys.specs.Keys.{idx, vsn, pack}
use Rattle.keys.proofs.Keys.{idx-pack, vsn-pack}
use Rattle.text.specs.Text.{decimal, digit_of}
use Rattle.text.proofs.Decimal.{length-decimal_64}
use Rattle.table.specs.Steps.{c_lookup, c_put, c_insert, c_remove, c_detach, c_reattach, c_drain, c_retain, c_clear}
use Rattle.fields.specs.declared.Number.{Number}
use Rattle.std.specs.Prelude.{Option, Some, None}
use Rattle.commands.specs.Lines.{Asked, asks, asks_len, rejects, misread, key_in, most32, most64, index_after, version_after, ended, insert_of, reattach_of, plain_of, keyed_of, longest, asked, key_words, line_text, is_command}
use Rattle.fields.proofs.Numbers.{field-small}
use Rattle.fields.specs.Fields.{reads, field_at}
use Rattle.fields.proofs.Fields.{field-space}
use Rattle.commands.proofs.Lines.{key-whole, ended_yes, asked_i, asked-key, keyed-plain}
use Rattle.fields.proofs.Decimals.{number_read, number-written}

-- ---- what is understood is a command's text

byte-there : (line : List ℕ) (i b : ℕ) → 0 < b → get_or line i 0 ≡ b → i < length line
byte-there line i b h e = lt_of_not-le (λ l. omega (arith, get_or-eq_default line 0 l))

-- a number after a space
field-written : (limit : ℕ) (line : List ℕ) (at v n : ℕ) → field_at limit line at ≡ reads v n → drop at line ≡ 32 ∷ (decimal v ++ drop n line)
unfolding field_at
field-written limit line at v n =
    picked (λ (r : Option Number). r ≡ reads v n → drop at line ≡ 32 ∷ (decimal v ++ drop n line)) (eqb (get_or line at 0) 32) _ _
    (λ s e. spaced (eqb-true (get_or line at 0) 32 s) (number-written limit line (at + 1) v n e)) (λ _ e. let z : ◌≡◌ {A = ℕ} 0 1 = cc in absurd (omega arith))
  where
    spaced : get_or line at 0 ≡ 32 → drop (at + 1) line ≡ decimal v ++ drop n line → drop at line ≡ 32 ∷ (decimal v ++ drop n line)
    spaced s e = drop-cons line at 0 (byte-there line at 32 (omega arith) s) ∙ ap₂ ◌∷◌ s (rw (← add-one at) e)

module _ (line : List ℕ) where
  -- a line from its first byte and what follows
  whole : (l : List ℕ) (b x : ℕ) (t : List ℕ) → get_or l 0 0 ≡ b → drop 1 l ≡ x ∷ t → l ≡ b ∷ x ∷ t
  whole [] b x t p q = let z : ◌≡◌ {A = ℕ} 0 1 = cc in absurd (omega arith)
  whole (c ∷ l) b x t p q = ap₂ ◌∷◌ p q

  abbrev Understood : Asked → Type 0
  Understood a = (a ≡ misread) ⊎ ((line ≡ line_text a) × (is_command a ≡ true))

  at_end : (n : ℕ) → n ≡ length line → drop n line ≡ []
  at_end n e = drop_of_length-le line {i = n} (omega arith)

  -- the last number of a line
  last_written : (limit at v n : ℕ) → field_at limit line at ≡ reads v n → n ≡ length line → drop at line ≡ 32 ∷ decimal v
  last_written limit at v n e z = field-written limit line at v n e ∙ ap (λ (r : List ℕ). 32 ∷ (decimal v ++ r)) (at_end n z) ∙ ap (λ (r : List ℕ). 32 ∷ r) (append-nil (decimal v))

  understood_end : (n : ℕ) (a : Asked) → (n ≡ length line → Understood a) → Understood (ended line n a)
  understood_end n a f = picked Understood (eqb n (length line)) a misread (λ e. f (eqb-true n (length line) e)) (λ _. inl refl)

  understood_insert : (r : Option Number) → field_at most64 line 1 ≡ r → get_or line 0 0 ≡ 105 → Understood (insert_of line r)
  understood_insert None e b = inl refl
  understood_insert (Some x) e b =
      understood_end x.next _ (λ z. inr (whole line 105 32 (decimal x.value) b (last_written most64 1 x.value x.next e z), le-leb x.value most64 (field-small most64 line 1 x.value x.next (sym e))))

  module _ (k : ℕ) (small : k ≤ most64) where
    understood_plain : (letter : ℕ) → get_or line 0 0 ≡ letter → drop 1 line ≡ key_words k [] → Understood (plain_of letter k)
    understood_plain letter b w =
        picked Understood (eqb letter 103) _ _ (λ e. inr (is 103 e, fits))
        (λ _. picked Understood (eqb letter 114) _ _ (λ e. inr (is 114 e, fits))
        (λ _. picked Understood (eqb letter 100) _ _ (λ e. inr (is 100 e, fits)) (λ _. inl refl)))
      where
        fits : leb k most64 ≡ true
        fits = le-leb k most64 small

        is : (l : ℕ) → eqb letter l ≡ true → line ≡ l ∷ key_words k []
        is l e = whole line l 32 _ (b ∙ eqb-true letter l e) w

    understood_reattach : (m : ℕ) (r : Option Number) → field_at most64 line m ≡ r → get_or line 0 0 ≡ 97 → drop 1 line ≡ key_words k (drop m line) → Understood (reattach_of line k r)
    understood_reattach m None e b w = inl refl
    understood_reattach m (Some x) e b w =
        understood_end x.next _
        (λ z. inr (whole line 97 32 _ b (w ∙ ap (key_words k) (last_written most64 m x.value x.next e z)), and_true (le-leb k most64 small) (le-leb x.value most64 (field-small most64 line m x.value x.next (sym e)))))

    understood_key : (letter m : ℕ) → get_or line 0 0 ≡ letter → drop 1 line ≡ key_words k (drop m line) → Understood (keyed_of line letter (reads k m))
    understood_key letter m b w =
        picked Understood (eqb letter 97) _ _ (λ e. understood_reattach m (field_at most64 line m) refl (b ∙ eqb-true letter 97 e) w)
        (λ _. understood_end m _ (λ z. understood_plain letter b (w ∙ ap (key_words k) (at_end m z))))

  understood_version : (i n : ℕ) (r : Option Number) → field_at most32 line 1 ≡ reads i n → field_at most32 line n ≡ r → Understood (keyed_of line (get_or line 0 0) (version_after i r))
  understood_version i n None e f = inl refl
  understood_version i n (Some r) e f = understood_key (pack i r.value) (omega (arith, index, version)) (get_or line 0 0) r.next refl words
    where
      index : i ≤ most32
      index = field-small most32 line 1 i n (sym e)

      version : r.value ≤ most32
      version = field-small most32 line n r.value r.next (sym f)

      words : drop 1 line ≡ key_words (pack i r.value) (drop r.next line)
      words =
          field-written most32 line 1 i n e ∙ ap (λ (rest : List ℕ). 32 ∷ (decimal i ++ rest)) (field-written most32 line n r.value r.next f)
          ∙ sym (ap₂ (λ (x y : ℕ). 32 ∷ (decimal x ++ (32 ∷ (decimal y ++ drop r.next line)))) (idx-pack i r.value (omega (arith, index))) (vsn-pack i r.value (omega (arith, index))))

  understood_index : (r : Option Number) → field_at most32 line 1 ≡ r → Understood (keyed_of line (get_or line 0 0) (index_after line r))
  understood_index None e = inl refl
  understood_index (Some i) e = understood_version i.value i.next (field_at most32 line i.next) e refl

  understood_l : get_or line 0 0 ≡ 108 → Understood (ended line 1 asks_len)
  understood_l b = understood_end 1 asks_len (λ z. inr (alone line b z, refl))
    where
      alone : (l : List ℕ) → get_or l 0 0 ≡ 108 → 1 ≡ length l → l ≡ 108 ∷ []
      alone [] e z = absurd (omega arith)
      alone (c ∷ []) e z = ap (λ (x : ℕ). x ∷ []) e
      alone (c ∷ d ∷ l) e z = absurd (omega arith)

  -- a line that is not refused with 17 is the text of the command that it asks for, with its numbers within their widths
  pub line-written : (asked line ≡ misread) ⊎ ((line ≡ line_text (asked line)) × (is_command (asked line) ≡ true))
  unfolding asked key_in
  line-written =
      picked Understood (ltb longest (length line)) _ _ (λ _. inl refl)
      (λ _. picked Understood (eqb (get_or line 0 0) 108) _ _ (λ e. understood_l (eqb-true (get_or line 0 0) 108 e))
      (λ _. picked Understood (eqb (get_or line 0 0) 105) _ _ (λ e. understood_insert (field_at most64 line 1) refl (eqb-true (get_or line 0 0) 105 e))
      (λ _. understood_index (field_at most32 line 1) refl)))

-- ---- a command's text is understood

-- a number after a space, and what follows it
module _ (limit : ℕ) (line : List ℕ) (at n : ℕ) (rest : List ℕ) (e : drop at line ≡ 32 ∷ (decimal n ++ rest)) where
  after-space : drop (at + 1) line ≡ decimal n ++ rest
  after-space = sym (drop-drop 1 at line) ∙ ap (drop 1) e

  field-read : n ≤ limit → 10 ≤ digit_of (get_or rest 0 0) → field_at limit line at ≡ reads n (at + 1 + length (decimal n))
  field-read h s = sym (field-space limit line at byte) ∙ number_read limit line (at + 1) n rest after-space h s
    where
      byte : get_or line at 0 ≡ 32
      byte = sym (rw (get_or-drop at line 0 0, add-zero)) ∙ ap (λ (l : List ℕ). get_or l 0 0) e

  field-after : drop (at + 1 + length (decimal n)) line ≡ rest
  field-after = sym (drop-drop (length (decimal n)) (at + 1) line) ∙ ap (drop (length (decimal n))) after-space ∙ drop-append_seam (decimal n) rest

no_digit : 10 ≤ digit_of 0
unfolding digit_of
no_digit = omega arith

no_digit-space : 10 ≤ digit_of 32
unfolding digit_of
no_digit-space = omega arith

-- the lengths of a letter, an index and a version
abbrev after_index : ℕ → ℕ
after_index k = 1 + 1 + length (decimal (idx k))

abbrev after_key : ℕ → ℕ
after_key k = after_index k + 1 + length (decimal (vsn k))

module _ (letter k : ℕ) (rest : List ℕ) (small : k ≤ most64) where
  length-key : length (letter ∷ key_words k rest) ≡ after_key k + length rest
  length-key = omega (arith, length-append (decimal (idx k)) (32 ∷ (decimal (vsn k) ++ rest)), length-append (decimal (vsn k)) rest)

  length_short : length (letter ∷ key_words k rest) ≤ 44 + length rest
  length_short = omega (arith, length-key, length-decimal_64 (idx k) (omega arith), length-decimal_64 (vsn k) (omega arith))

  after_index_lem : drop (after_index k) (letter ∷ key_words k rest) ≡ 32 ∷ (decimal (vsn k) ++ rest)
  after_index_lem = field-after most32 (letter ∷ key_words k rest) 1 (idx k) (32 ∷ (decimal (vsn k) ++ rest)) refl

  key-after : drop (after_key k) (letter ∷ key_words k rest) ≡ rest
  key-after = field-after most32 (letter ∷ key_words k rest) (after_index k) (vsn k) rest after_index_lem

  key-read : 10 ≤ digit_of (get_or rest 0 0) → key_in (letter ∷ key_words k rest) ≡ reads k (after_key k)
  key-read s =
      sym (key-whole (letter ∷ key_words k rest) (idx k) (after_index k) (field-read most32 (letter ∷ key_words k rest) 1 (idx k) _ refl (omega arith) no_digit-space) (vsn k) (after_key k) (field-read most32 (letter ∷ key_words k rest) (after_index k) (vsn k) rest after_index_lem (omega arith) s))
      ∙ ap (λ (m : ℕ). reads m (after_key k)) packed
    where
      packed : pack (idx k) (vsn k) ≡ k
      packed = omega arith

-- the last number of a line
module _ (line : List ℕ) (at x : ℕ) (e : drop at line ≡ 32 ∷ decimal x) where
  last-there : drop at line ≡ 32 ∷ (decimal x ++ [])
  last-there = e ∙ ap (λ (r : List ℕ). 32 ∷ r) (sym (append-nil (decimal x)))

  last-read : x ≤ most64 → field_at most64 line at ≡ reads x (at + 1 + length (decimal x))
  last-read h = field-read most64 line at x [] last-there h no_digit

insert-read : (x : ℕ) → x ≤ most64 → asked (105 ∷ 32 ∷ decimal x) ≡ asks (c_insert x)
insert-read x h =
    sym (asked_i (105 ∷ 32 ∷ decimal x) (omega (arith, length-decimal_64 x (omega arith))) refl)
    ∙ ap (insert_of (105 ∷ 32 ∷ decimal x)) (last-read (105 ∷ 32 ∷ decimal x) 1 x refl h)
    ∙ sym (ended_yes (105 ∷ 32 ∷ decimal x) (1 + 1 + length (decimal x)) (asks (c_insert x)) (omega arith))

reattach-read : (k x : ℕ) → k ≤ most64 → x ≤ most64 → asked (97 ∷ key_words k (32 ∷ decimal x)) ≡ asks (c_reattach k x)
reattach-read k x h l =
    sym (asked-key text (omega (arith, length_short 97 k (32 ∷ decimal x) h, length-decimal_64 x (omega arith))) (λ e. omega arith) (λ e. omega arith))
    ∙ ap (keyed_of text 97) (key-read 97 k (32 ∷ decimal x) h no_digit-space)
    ∙ ap (reattach_of text k) (last-read text (after_key k) x (key-after 97 k (32 ∷ decimal x) h) l)
    ∙ sym (ended_yes text (after_key k + 1 + length (decimal x)) (asks (c_reattach k x)) (omega (arith, length-key 97 k (32 ∷ decimal x) h)))
  where
    text : List ℕ
    text = 97 ∷ key_words k (32 ∷ decimal x)

plain-read : (letter k : ℕ) → (letter ≡ 108 → ⊥) → (letter ≡ 105 → ⊥) → (letter ≡ 97 → ⊥) → k ≤ most64 → asked (letter ∷ key_words k []) ≡ plain_of letter k
plain-read letter k f g a h =
    sym (asked-key (letter ∷ key_words k []) (omega (arith, length_short letter k [] h)) f g)
    ∙ ap (keyed_of (letter ∷ key_words k []) letter) (key-read letter k [] h no_digit)
    ∙ sym (keyed-plain (letter ∷ key_words k []) letter k (after_key k) a)
    ∙ sym (ended_yes (letter ∷ key_words k []) (after_key k) (plain_of letter k) (omega (arith, length-key letter k [] h)))

-- the text of a command is a line that asks for it
pub line_read : (a : Asked) → is_command a ≡ true → asked (line_text a) ≡ a
unfolding asked
line_read asks_len h = refl
line_read (asks (c_insert x)) h = insert-read x (leb-true x most64 h)
line_read (asks (c_lookup k)) h = plain-read 103 k (λ e. omega arith) (λ e. omega arith) (λ e. omega arith) (leb-true k most64 h)
line_read (asks (c_remove k)) h = plain-read 114 k (λ e. omega arith) (λ e. omega arith) (λ e. omega arith) (leb-true k most64 h)
line_read (asks (c_detach k)) h = plain-read 100 k (λ e. omega arith) (λ e. omega arith) (λ e. omega arith) (leb-true k most64 h)
line_read (asks (c_reattach k x)) h = reattach-read k x (leb-true k most64 (and_left (leb k most64) (leb x most64) h)) (leb-true x most64 (and_right (leb k most64) (leb x most64) h))
line_read (asks (c_put k x)) h = let z : ◌≡◌ {A = ℕ} 0 1 = cc in absurd (omega arith)
line_read (asks c_drain) h = let z : ◌≡◌ {A = ℕ} 0 1 = cc in absurd (omega arith)
line_read (asks (c_retain rule)) h = let z : ◌≡◌ {A = ℕ} 0 1 = cc in absurd (omega arith)
line_read (asks c_clear) h = let z : ◌≡◌ {A = ℕ} 0 1 = cc in absurd (omega arith)
line_read (rejects r) h = let z : ◌≡◌ {A = ℕ} 0 1 = cc in absurd (omega arith)
