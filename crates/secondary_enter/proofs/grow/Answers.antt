-- `secondary_enter::grow` meets its contract: the slots that are made vacant give the grown map.
use mathlib.Core.Path.{◌≡◌, sym, ap, ap₂, ◌∙◌}
use mathlib.Core.List.{List, ◌++◌}
use Prim.Native.Nat.{ℕ, ◌+◌}
use native.Mathlib.Omega.{arith}
use lib.ListN.{take, drop, replicate, length-replicate, length-take, length-drop}
use lib.Seq.{drop-drop}
use borrow.Rule.Slice.PartMut.{put_mid}
use Rattle.lists.specs.Put.{put}
use Rattle.map.proofs.Grown.{grown-below, grown_is}
use Rattle.secondary_enter.proofs.grow.Goals as goal

-- a part of the versions filled with 0 is so many zeros put in its place
filled : (vs ys : List ℕ) (at n : ℕ) → ys ≡ replicate n 0 → put_mid at n vs ys ≡ put vs at (replicate n 0)
filled vs ys at n e =
    ap₂ (λ (zs ws : List ℕ). take at vs ++ (zs ++ ws)) e
    (drop-drop n at vs ∙ ap (λ (k : ℕ). drop (at + k) vs) (sym (length-replicate {A = ℕ} n 0)))

pub returns-then-index-h : goal.returns-then-index-h
returns-then-index-h c = sym (grown-below _ _ c.if-index-h.true)

pub returns : goal.returns
returns c =
    grown_is _ _ _ c.if-index-h.false
    (filled _ _ _ _ (c.fill.ensures.after (λ y e. e) ∙ ap (λ (n : ℕ). replicate n 0) (simp (length-take, length-drop) (omega arith))))
