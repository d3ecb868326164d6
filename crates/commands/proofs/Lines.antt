-- Laws of script lines: the definitions' cases, one by one. Assumes nothing.
use mathlib.Core.Path.{◌≡◌, refl}
use mathlib.Core.List.{List, [], ◌∷◌}
use Prim.Native.Nat.{ℕ, ◌≤◌, ◌<◌}
use native.Mathlib.Omega.{arith}
use lib.ListN.{length, get_or}
use borrow.Author.Tests.{lt-ltb, le-ltb, eq-eqb, ne_eqb}
use Rattle.keys.specs.Keys.{pack}
use Rattle.fields.specs.Fields.{reads, field_at}
use Rattle.commands.specs.Lines.{Asked, misread, key_in, most32, most64, ended, insert_of, plain_of, keyed_of, longest, asked}

-- ---- a key

module _ (line : List ℕ) where
  module _ (i n : ℕ) (e : field_at most32 line 1 ≡ reads i n) where
    pub key-whole : (v m : ℕ) → field_at most32 line n ≡ reads v m → reads (pack i v) m ≡ key_in line
    unfolding key_in
    key-whole v m f = rw (e, f)

  -- ---- lines, by length and first byte

  pub ended_yes : (n : ℕ) (x : Asked) → n ≡ length line → x ≡ ended line n x
  ended_yes n x e = rw (eq-eqb n (length line) e)

  pub asked-long : longest < length line → misread ≡ asked line
  unfolding asked
  asked-long h = rw (lt-ltb longest (length line) h)

  module _ (h : length line ≤ longest) where
    pub asked_i : get_or line 0 0 ≡ 105 → insert_of line (field_at most64 line 1) ≡ asked line
    unfolding asked
    asked_i e = rw (le-ltb longest (length line) h, ne_eqb (get_or line 0 0) 108 (λ z. omega arith), eq-eqb (get_or line 0 0) 105 e)

    pub asked-key : (get_or line 0 0 ≡ 108 → ⊥) → (get_or line 0 0 ≡ 105 → ⊥) → keyed_of line (get_or line 0 0) (key_in line) ≡ asked line
    unfolding asked
    asked-key f g = rw (le-ltb longest (length line) h, ne_eqb (get_or line 0 0) 108 f, ne_eqb (get_or line 0 0) 105 g)

pub asked_empty : (line : List ℕ) → length line ≡ 0 → misread ≡ asked line
unfolding asked key_in field_at
asked_empty [] h = refl
asked_empty (b ∷ t) h = absurd (omega arith)

-- ---- what a letter and a key come to

module _ (line : List ℕ) (letter k m : ℕ) where
  pub keyed-plain : (letter ≡ 97 → ⊥) → ended line m (plain_of letter k) ≡ keyed_of line letter (reads k m)
  keyed-plain f = rw (ne_eqb letter 97 f)
