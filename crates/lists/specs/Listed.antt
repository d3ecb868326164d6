-- Lists made number by number. Assumes nothing.
use Rattle.std.specs.Prelude.{Bool, cond, List, [], ◌∷◌, ◌++◌, ℕ, zero, suc}

-- g of the numbers below n
unfoldable pub listed : {A : Type 0} → (ℕ → A) → ℕ → List A
listed g zero = []
listed g (suc n) = listed g n ++ (g n ∷ [])

-- g of those of them that pass
unfoldable pub picked : {A : Type 0} → (ℕ → Bool) → (ℕ → A) → ℕ → List A
picked P g zero = []
picked P g (suc n) = cond (P n) (picked P g n ++ (g n ∷ [])) (picked P g n)
