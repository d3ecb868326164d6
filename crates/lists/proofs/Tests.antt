-- Tests as facts: a Bool and what it says. Assumes nothing.
use mathlib.Core.Path.{◌≡◌, refl, sym, ap, ◌∙◌}
use mathlib.Core.Bool.{Bool, true, false, cond, ◌&&◌}
use mathlib.Core.Logic.{◌⊎◌, inl, inr}
use mathlib.Core.List.{[], ◌∷◌, ◌++◌}
use mathlib.Core.Option.{Option, none, some}
use Prim.Native.Nat.{ℕ, ◌≤◌, ◌<◌}
use native.Mathlib.Omega.{arith}
use lib.Dec.{ltb}
use borrow.Author.Tests.{ltb-true, ltb-false, leb-true, eqb-true, lt-ltb, le-ltb, le-leb, lt-leb, eq-eqb, ne_eqb}
use Rattle.lists.specs.Tests.{Tests, first}

-- ---- rulesets: from facts to the tests of a definition, and from a computed `&&` to facts

pub ruleset tests = (lt-ltb, le-ltb, le-leb, lt-leb, eq-eqb, ne_eqb)

-- a test is true or false, and which is known in each case
pub split {ℓ} : {A : Type ℓ} (b : Bool) → (b ≡ true → A) → (b ≡ false → A) → A
split true f g = f refl
split false f g = g refl

-- what holds of both holds of the one that a test picks
pub either {ℓ κ} : {A : Type ℓ} (P : A → Type κ) (b : Bool) (x y : A) → P x → P y → P (cond b x y)
either P true x y p q = p
either P false x y p q = q

-- the same, where which case it is may be used
pub picked {ℓ κ} : {A : Type ℓ} (P : A → Type κ) (b : Bool) (x y : A) → (b ≡ true → P x) → (b ≡ false → P y) → P (cond b x y)
picked P true x y p q = p refl
picked P false x y p q = q refl

pub true_false {ℓ} : {A : Type ℓ} {b : Bool} → b ≡ true → b ≡ false → A
true_false p q = let z : ◌≡◌ {A = ℕ} 0 1 = cc in absurd (omega arith)

pub and_true : {a b : Bool} → a ≡ true → b ≡ true → (a && b) ≡ true
and_true {a} {b} p q = ap (λ (x : Bool). x && b) p ∙ q

pub and_left : (a b : Bool) → (a && b) ≡ true → a ≡ true
and_left true b e = refl
and_left false b e = e

pub and_right : (a b : Bool) → (a && b) ≡ true → b ≡ true
and_right true b e = e
and_right false b e = true_false e refl

pub ruleset parts = (and_left, and_right, leb-true, ltb-true, eqb-true)

-- two tests that follow from each other are equal
pub same_test : (a b : Bool) → (a ≡ true → b ≡ true) → (b ≡ true → a ≡ true) → a ≡ b
same_test true b f g = sym (f refl)
same_test false true f g = g refl
same_test false false f g = refl

pub false_if : (a : Bool) → (a ≡ true → ⊥) → a ≡ false
false_if true h = absurd (h refl)
false_if false h = refl

-- of two numbers the first is below the second, or not
pub lt_or_le : (a b : ℕ) → (a < b) ⊎ (b ≤ a)
lt_or_le a b = split (ltb a b) (λ e. inl (ltb-true a b e)) (λ e. inr (ltb-false a b e))

-- ---- what the code's `if !f(..)` tells of what f's contract says its answer is

pub refuted : {r b : Bool} → r ≡ b → r ≡ false → b ≡ false
refuted e h = sym e ∙ h

pub confirmed : {r b : Bool} → r ≡ b → r ≡ true → b ≡ true
confirmed e h = sym e ∙ h

-- ---- tests in order

-- of two lists of tests, the first that fails stands in the first list, or in the second
abbrev pub before : Option ℕ → Option ℕ → Option ℕ
before none g = g
before (some r) g = some r

pub first-append : (l m : Tests) → first (l ++ m) ≡ before (first l) (first m)
first-append [] m = refl
first-append (e ∷ l) m = split e.0 (λ b. rw b (first-append l m)) (λ b. rw b)
