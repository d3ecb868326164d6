-- An answer, or the number of a refusal; and what follows an answer. Assumes nothing.
use Rattle.std.specs.Prelude.{ℕ}

pub data Told (A : Type 0) : Type 0 where
  tells : A → Told A
  refused : ℕ → Told A

-- what is read after an answer; a refusal is met first, and stays
abbrev pub onward : {A B : Type 0} → Told A → (A → Told B) → Told B
onward (tells a) f = f a
onward (refused k) f = refused k
