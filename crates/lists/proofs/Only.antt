-- No second outcome: a contract that is one equation is met by one outcome only. Assumes nothing.
use mathlib.Core.Path.{◌≡◌, sym, ap, ◌∙◌}

-- the contract gives the outcome itself
pub only {ℓ} : {A : Type ℓ} {x r q : A} → r ≡ x → q ≡ x → r ≡ q
only e f = e ∙ sym f

-- the contract gives the outcome through a reading that is one-to-one
pub only_read {ℓ ℓ'} : {A : Type ℓ} {B : Type ℓ'} (read : A → B) → ((r q : A) → read r ≡ read q → r ≡ q) → {x : B} {r q : A} → read r ≡ x → read q ≡ x → r ≡ q
only_read read one-to-one {x} {r} {q} e f = one-to-one r q (e ∙ sym f)

-- the contract gives an outcome of two parts
pub only_both {ℓ ℓ'} : {A : Type ℓ} {B : Type ℓ'} {x : A × B} {a b : A} {u w : B} → (a, u) ≡ x → (b, w) ≡ x → (a ≡ b) × (u ≡ w)
only_both {A = A} {B = B} e f = (ap (λ (z : A × B). z.0) (only e f), ap (λ (z : A × B). z.1) (only e f))
