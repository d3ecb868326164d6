-- The lines of an input, from the other side: three laws that no other cutting meets. Assumes nothing.
use mathlib.Core.Path.{◌≡◌, refl, sym, ap, ◌∙◌}
use mathlib.Core.Bool.{true, false, cond}
use mathlib.Core.List.{List, [], ◌∷◌, ◌++◌, append_assoc, append-nil}
use Prim.Native.Nat.{ℕ}
use lib.Dec.{eqb}
use borrow.Author.Tests.{eq-eqb, ne_eqb}
use Rattle.lists.specs.Among.{among}
use Rattle.lists.proofs.Tests.{split, true_false}
use Rattle.script_say.specs.Says.{newline}
use Rattle.script_input.specs.Input.{lines_from, lines}

-- bytes without a newline are held
pass : (l p s : List ℕ) → among newline l ≡ false → lines_from p (l ++ s) ≡ lines_from (p ++ l) s
unfolding lines_from among
pass [] p s h = ap (λ (q : List ℕ). lines_from q s) (sym (append-nil p))
pass (b ∷ l) p s h =
    split (eqb newline b) (λ e. true_false (ap (λ (t : _). cond t true (among newline l)) e) h)
    (λ e. rw (ne_eqb b newline (λ z. true_false (eq-eqb newline b (sym z)) e))
    (pass l (p ++ (b ∷ [])) s (rw e at h) ∙ ap (λ (q : List ℕ). lines_from q s) (append_assoc p (b ∷ []) l)))

-- nothing is no line
pub lines_none : lines [] ≡ []
unfolding lines_from
lines_none = refl

-- what stands before the first newline is a line, and the others are those of the rest
pub lines-first : (l s : List ℕ) → among newline l ≡ false → lines (l ++ (newline ∷ s)) ≡ l ∷ lines s
unfolding lines_from
lines-first l s h = pass l [] (newline ∷ s) h

-- the last line may lack its newline
pub lines-last : (b : ℕ) (l : List ℕ) → among newline (b ∷ l) ≡ false → lines (b ∷ l) ≡ (b ∷ l) ∷ []
unfolding lines_from
lines-last b l h = ap (lines_from []) (sym (append-nil (b ∷ l))) ∙ pass (b ∷ l) [] [] h
