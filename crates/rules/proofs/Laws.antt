-- What the rules of retain keep and what none of them keeps. Assumes nothing.
use mathlib.Core.Path.{◌≡◌}
use mathlib.Core.Bool.{false, ◌&&◌}
use Prim.Native.Nat.{ℕ, ◌≤◌, ◌<◌}
use native.Mathlib.Omega.{arith}
use lib.Dec.{leb}
use borrow.Author.Tests.{leb-true}
use Rattle.lists.proofs.Tests.{and_left, and_right, false_if}
use Rattle.rules.specs.declared.Rule.TheVariants.{Values, Indexes}
use Rattle.rules.specs.Rules.{keeps_of}

-- no number is from lo to hi where hi is below lo
none_between : (lo hi x : ℕ) → hi < lo → (leb lo x && leb x hi) ≡ false
none_between lo hi x h =
    false_if _ (λ e.
    let a : lo ≤ x = leb-true _ _ (and_left (leb lo x) _ e) in
    let b : x ≤ hi = leb-true _ _ (and_right (leb lo x) _ e) in
    omega arith)

-- "if lo > hi, none is kept"
pub values-none : (lo hi index value : ℕ) → hi < lo → keeps_of (Values lo hi) index value ≡ false
unfolding keeps_of
values-none lo hi index value h = none_between lo hi value h

pub indexes-none : (lo hi index value : ℕ) → hi < lo → keeps_of (Indexes lo hi) index value ≡ false
unfolding keeps_of
indexes-none lo hi index value h = none_between lo hi index h
