-- Answers and refusals told apart, and what follows an answer taken apart. Assumes nothing.
use Prim.Native.Nat.{ℕ}
use mathlib.Core.Path.{◌≡◌, refl, ap}
use native.Mathlib.Omega.{arith}
use Rattle.writing.specs.Told.{Told, tells, refused, onward}

pub never : {A B : Type 0} {k : ℕ} {a : A} → refused k ≡ tells a → B
never e = let z : ◌≡◌ {A = ℕ} 0 1 = cc in absurd (omega arith)

pub told : {A : Type 0} {a b : A} → tells a ≡ tells b → a ≡ b
told e = cc

pub refused-same : {A : Type 0} {j k : ℕ} → ◌≡◌ {A = Told A} (refused j) (refused k) → j ≡ k
refused-same e = cc

pub both : {A B : Type 0} {a c : A} {b d : B} → ◌≡◌ {A = A × B} (a, b) (c, d) → (a ≡ c) × (b ≡ d)
both {A} {B} e = (ap (λ (y : A × B). y.0) e, ap (λ (y : A × B). y.1) e)

-- an answer at the end comes of an answer before it
pub by_answer : {A B C : Type 0} (x : Told A) (f : A → Told B) (b : B) → onward x f ≡ tells b → ((a : A) → x ≡ tells a → f a ≡ tells b → C) → C
by_answer (tells a) f b e k = k a refl e
by_answer (refused j) f b e k = never e

-- a refusal at the end is a refusal before it, or comes of an answer
pub by_refusal : {A B C : Type 0} (x : Told A) (f : A → Told B) (k : ℕ) → onward x f ≡ refused k → (x ≡ refused k → C) → ((a : A) → x ≡ tells a → f a ≡ refused k → C) → C
by_refusal (tells a) f k e first later = later a refl e
by_refusal (refused j) f k e first later = first (ap refused (refused-same e))

-- what follows is followed by the same
pub onward-same : {A B : Type 0} (x : Told A) (f g : A → Told B) → ((a : A) → x ≡ tells a → f a ≡ g a) → onward x f ≡ onward x g
onward-same (tells a) f g h = h a refl
onward-same (refused k) f g h = refl

pub onward_assoc : {A B C : Type 0} (x : Told A) (f : A → Told B) (g : B → Told C) → onward (onward x f) g ≡ onward x (λ a. onward (f a) g)
onward_assoc (tells a) f g = refl
onward_assoc (refused k) f g = refl
