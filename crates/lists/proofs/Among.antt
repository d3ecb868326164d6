-- Laws of standing in a list. Assumes nothing.
use mathlib.Core.Path.{◌≡◌, refl}
use mathlib.Core.Logic.{◌≢◌, ◌⊎◌, inl, inr}
use mathlib.Core.Bool.{true, false}
use mathlib.Core.List.{List, [], ◌∷◌}
use Prim.Native.Nat.{ℕ}
use lib.Dec.{eqb}
use borrow.Author.Tests.{eqb-true, eq-eqb, ne_eqb}
use Rattle.lists.specs.Among.{among}
use Rattle.lists.proofs.Tests.{split, true_false}

pub among_none : (x : ℕ) → among x [] ≡ false
unfolding among
among_none x = refl

pub among_same : (x j : ℕ) (l : List ℕ) → x ≡ j → among x (j ∷ l) ≡ true
unfolding among
among_same x j l e = rw (eq-eqb x j e)

pub among-other : (x j : ℕ) (l : List ℕ) → x ≢ j → among x (j ∷ l) ≡ among x l
unfolding among
among-other x j l ne = rw (ne_eqb x j ne)

pub among_rest : (x j : ℕ) (l : List ℕ) → among x (j ∷ l) ≡ false → among x l ≡ false
unfolding among
among_rest x j l e = split (eqb x j) (λ q. true_false refl (rw q at e)) (λ q. rw q at e)

pub among_there : (x j : ℕ) (l : List ℕ) → among x l ≡ true → among x (j ∷ l) ≡ true
unfolding among
among_there x j l e = split (eqb x j) (λ h. rw h) (λ h. rw h e)

pub among_cases : (x j : ℕ) (l : List ℕ) → among x (j ∷ l) ≡ true → (x ≡ j) ⊎ (among x l ≡ true)
unfolding among
among_cases x j l e = split (eqb x j) (λ h. inl (eqb-true x j h)) (λ h. inr (rw h at e))
