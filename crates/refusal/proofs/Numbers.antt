-- The refusals' numbers are one-to-one: the refusal of a number is found again. Assumes nothing.
use mathlib.Core.Path.{◌≡◌, refl, sym, ap, ◌∙◌}
use mathlib.Core.Bool.{cond}
use Prim.Native.Nat.{ℕ}
use lib.Dec.{eqb}
use Rattle.refusal.specs.declared.Refusal.{Refusal}
use Rattle.refusal.specs.declared.Refusal.TheVariants.{Shape, Dead, Full, NotDetached, Damaged, Short, Beyond, IndexZero, Ends, Form, TooMany, First, Occupation, Trailing, Presence, Line}
use Rattle.refusal.specs.Refusals.{number_of}

-- the refusal of a number; a number without one gives the last
abbrev with_number : ℕ → Refusal
with_number k =
    cond (eqb k 1) Shape (cond (eqb k 2) Dead (cond (eqb k 3) Full (cond (eqb k 4) NotDetached (cond (eqb k 5) Damaged (cond (eqb k 6) Short
    (cond (eqb k 8) Beyond (cond (eqb k 9) IndexZero (cond (eqb k 10) Ends (cond (eqb k 11) Form (cond (eqb k 12) TooMany (cond (eqb k 13) First
    (cond (eqb k 14) Occupation (cond (eqb k 15) Trailing (cond (eqb k 16) Presence Line))))))))))))))

found_again : (r : Refusal) → with_number (number_of r) ≡ r
found_again Shape = refl
found_again Dead = refl
found_again Full = refl
found_again NotDetached = refl
found_again Damaged = refl
found_again Short = refl
found_again Beyond = refl
found_again IndexZero = refl
found_again Ends = refl
found_again Form = refl
found_again TooMany = refl
found_again First = refl
found_again Occupation = refl
found_again Trailing = refl
found_again Presence = refl
found_again Line = refl

-- two refusals of one number are one refusal
pub number_one_to_one : (r q : Refusal) → number_of r ≡ number_of q → r ≡ q
number_one_to_one r q e = sym (found_again r) ∙ ap with_number e ∙ found_again q
