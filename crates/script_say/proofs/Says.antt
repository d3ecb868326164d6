-- Texts after texts in a buffer, and how long the line of an answer is. Assumes nothing.
use mathlib.Core.Path.{◌≡◌, refl, sym, ap, ap₂, ◌∙◌}
use mathlib.Core.List.{List, [], ◌∷◌, ◌++◌}
use Prim.Native.Nat.{ℕ, ◌+◌, ◌^◌, ◌≤◌, ◌<◌}
use native.Mathlib.Omega.{arith}
use lib.ListN.{length, take, drop, length-append}
use lib.Seq.{take_at}
use Rattle.lists.proofs.Tests.{split}
use Rattle.refusal.specs.declared.Refusal.{Refusal}
use Rattle.refusal.specs.declared.Refusal.TheVariants.{Shape, Dead, Full, NotDetached, Damaged, Short, Beyond, IndexZero, Ends, Form, TooMany, First, Occupation, Trailing, Presence, Line}
use Rattle.refusal.specs.Refusals.{number_of}
use Rattle.keys.specs.Keys.{W, idx, version, key_of, is_null}
use Rattle.keys.specs.declared.KeyData.{KeyData}
use Rattle.keys.proofs.Keys.{version_word}
use Rattle.std.specs.Prelude.{Result, Ok, Err}
use Rattle.writing.specs.Told.{Told, tells, refused}
use Rattle.writing.specs.Writing.{told_of, outcome, written, written_after}
use Rattle.text.specs.Text.{decimal, key_text, ok_text, refused_text}
use Rattle.writing.proofs.Writing.{written-refused, then_end, written_then, written-fits}
use Rattle.text.proofs.Decimal.{length-decimal_32, length-decimal_64}
use Rattle.text.proofs.Keys.{key-text-null, key-text-length}
use Rattle.table.specs.Calls.{Said, said_key, said_value, said_done, said_count}
use Rattle.table.specs.Calls as calls
use Rattle.script_look.specs.declared.Answer.{Answer}
use Rattle.script_look.specs.declared.Answer.TheVariants.{Key, Value, Done, Count}
use Rattle.script_look.specs.Answers.{answer_said}
use Rattle.script_say.specs.Says.{newline, answer_text, line_out, room, lined}

-- ---- how long a line is

line-length : (a : Said) → length (line_out a) ≡ length (answer_text a) + 1
unfolding line_out
line-length a = length-append (answer_text a) (newline ∷ [])

pub value_short : (x : ℕ) → x < 2 ^ 64 → length (line_out (said_value x)) ≤ room
unfolding answer_text
value_short x h = omega (arith, line-length (said_value x), length-decimal_64 x h)

pub count_short : (m : ℕ) → m < 2 ^ 64 → length (line_out (said_count m)) ≤ room
unfolding answer_text
count_short m h = omega (arith, line-length (said_count m), length-decimal_64 m h)

pub done_short : length (line_out said_done) ≤ room
unfolding answer_text
done_short = omega (arith, line-length said_done)

pub refused_short : (r : ℕ) → r < W → length (line_out (calls.refused r)) ≤ room
unfolding answer_text
refused_short r h = omega (arith, line-length (calls.refused r), length-append refused_text (decimal r), length-decimal_32 r h)

number_small : (r : Refusal) → number_of r < W
number_small Shape = omega arith
number_small Dead = omega arith
number_small Full = omega arith
number_small NotDetached = omega arith
number_small Damaged = omega arith
number_small Short = omega arith
number_small Beyond = omega arith
number_small IndexZero = omega arith
number_small Ends = omega arith
number_small Form = omega arith
number_small TooMany = omega arith
number_small First = omega arith
number_small Occupation = omega arith
number_small Trailing = omega arith
number_small Presence = omega arith
number_small Line = omega arith

pub key_short : (k : ℕ) → length (line_out (said_key k)) ≤ room
unfolding answer_text
key_short k =
    split (is_null (key_of k)) (λ e. omega (arith, line-length (said_key k), ap length (key-text-null (key_of k) e)))
    (λ e. omega (arith, line-length (said_key k), key-text-length (key_of k) e, length-decimal_32 (idx k) (omega arith), length-decimal_32 (version k) (version_word k)))

-- ---- an answer's text, by its kind, and how long its line is

module _ (at : ℕ) (b : List ℕ) {a : Result Answer Refusal} {o : Told ℕ × List ℕ} where
  pub text-key : {k : ℕ} {key : KeyData} → a ≡ Ok (Key k) → key ≡ key_of k → o ≡ written at (key_text key) b
      → (o ≡ written at (answer_text (answer_said a)) b) × (length (line_out (answer_said a)) ≤ room)
  unfolding answer_text
  text-key {k} e f g = rw e (rw f at g, key_short k)

  pub text-value : {y : ℕ} → a ≡ Ok (Value y) → y < 2 ^ 64 → o ≡ written at (decimal y) b
      → (o ≡ written at (answer_text (answer_said a)) b) × (length (line_out (answer_said a)) ≤ room)
  unfolding answer_text
  text-value {y} e h g = rw e (g, value_short y h)

  pub text-count : {m : ℕ} → a ≡ Ok (Count m) → m < 2 ^ 64 → o ≡ written at (decimal m) b
      → (o ≡ written at (answer_text (answer_said a)) b) × (length (line_out (answer_said a)) ≤ room)
  unfolding answer_text
  text-count {m} e h g = rw e (g, count_short m h)

  pub text-done : a ≡ Ok Done → o ≡ written at ok_text b
      → (o ≡ written at (answer_text (answer_said a)) b) × (length (line_out (answer_said a)) ≤ room)
  unfolding answer_text
  text-done e g = rw e (g, done_short)

  pub text-refused : {r : Refusal} → a ≡ Err r → o ≡ written at (refused_text ++ decimal (number_of r)) b
      → (o ≡ written at (answer_text (answer_said a)) b) × (length (line_out (answer_said a)) ≤ room)
  unfolding answer_text
  text-refused {r} e g = rw e (g, refused_short (number_of r) (number_small r))

-- the answer's text and the newline after it are the answer's line: b is the buffer before, d the buffer after the text, x the buffer after the newline
pub says : (at : ℕ) (b d : List ℕ) (w : Told ℕ) {q : Told ℕ} {x : List ℕ} → at + room ≤ length b → ◌≡◌ {A = Told ℕ × List ℕ} (q, x) (written_after w (newline ∷ []) d)
    → (s : Said) → ◌≡◌ {A = Told ℕ × List ℕ} (w, d) (written at (answer_text s) b) → length (line_out s) ≤ room
    → (◌≡◌ {A = Told ℕ × List ℕ} (q, x) (lined s at b)) × (length (line_out s) ≤ room)
unfolding line_out
says at b d w fits ends s e l = (ends ∙ written_then at (answer_text s) (newline ∷ []) b enough e ∙ written-fits at (line_out s) b enough, l)
  where
    enough : at + length (line_out s) ≤ length b
    enough = omega arith

-- ---- a refusal's text

module _ (at : ℕ) (b d : List ℕ) {w : Result ℕ Refusal} (fits : at + room ≤ length b) (first : outcome w d ≡ written at refused_text b) where
  pub refusal-text : (r : Refusal) {n m : ℕ} → w ≡ Ok n → m ≡ number_of r → written n (decimal m) d ≡ written at (refused_text ++ decimal (number_of r)) b
  refusal-text r {n} {m} e f =
      rw f (then_end (decimal (number_of r)) d e ∙ written_then at refused_text (decimal (number_of r)) b enough first)
    where
      enough : at + length (refused_text ++ decimal (number_of r)) ≤ length b
      enough = omega (arith, length-append refused_text (decimal (number_of r)), length-decimal_32 (number_of r) (number_small r))

  pub refusal-fits : {r : Refusal} → w ≡ Err r → ⊥
  refusal-fits {r} e =
      omega (arith, (written-refused at refused_text b d (number_of r) (ap (λ (x : Result ℕ Refusal). outcome x d) (sym e) ∙ first)).0)

-- ---- a line in a buffer that has the room

pub said-lined : (s : Said) (at : ℕ) (b d : List ℕ) (w : Told ℕ) → at + room ≤ length b → ◌≡◌ {A = Told ℕ × List ℕ} (w, d) (written at (line_out s) b) → length (line_out s) ≤ room
    → ◌≡◌ {A = Told ℕ × List ℕ} (w, d) (lined s at b)
said-lined s at b d w h e l = e ∙ written-fits at (line_out s) b (omega arith)

-- ---- a line made at the front of a buffer

module _ (s : Said) (b d : List ℕ) {w : Result ℕ Refusal} (e : outcome w d ≡ lined s 0 b) where
  pub front_end : {n : ℕ} → w ≡ Ok n → n ≡ length (line_out s)
  front_end {n} f =
      let q : tells n ≡ tells (0 + length (line_out s)) = sym (ap told_of f) ∙ ap (λ (p : Told ℕ × List ℕ). p.0) e in
      let m : n ≡ 0 + length (line_out s) = cc in
      omega arith

  -- so what is written of it is the line
  pub front_written : {n : ℕ} → w ≡ Ok n → (at : ℕ) (out : List ℕ) → written at (take n d) out ≡ written at (line_out s) out
  front_written f at out =
      ap (λ (t : List ℕ). written at t out)
      (ap₂ (λ (m : ℕ) (x : List ℕ). take m x) (front_end f) (ap (λ (p : Told ℕ × List ℕ). p.1) e)
      ∙ take_at (line_out s) (drop (0 + length (line_out s)) b) (length (line_out s)) refl)

  pub front_in : {n : ℕ} → w ≡ Ok n → n ≤ length d
  front_in f = omega (arith, front_end f, ap (λ (p : Told ℕ × List ℕ). length p.1) e, length-append (line_out s) (drop (0 + length (line_out s)) b))

  pub front_fits : {r : Refusal} → w ≡ Err r → ⊥
  front_fits {r} f =
      let q : refused (number_of r) ≡ tells (0 + length (line_out s)) = sym (ap told_of f) ∙ ap (λ (p : Told ℕ × List ℕ). p.0) e in
      let z : ◌≡◌ {A = ℕ} 0 1 = cc in
      omega arith
