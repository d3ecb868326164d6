-- Laws of a number after a space: the definition's cases, one by one. Assumes nothing.
use mathlib.Core.Path.{◌≡◌}
use mathlib.Core.List.{List}
use Prim.Native.Nat.{ℕ, ◌+◌, ◌≤◌}
use lib.ListN.{length, get_or, get_or-eq_default}
use borrow.Author.Tests.{eq-eqb, ne_eqb}
use Rattle.std.specs.Prelude.{None}
use Rattle.fields.specs.Fields.{number_at, field_at}

module _ (limit : ℕ) (line : List ℕ) (at : ℕ) where
  pub field_past : length line ≤ at → None ≡ field_at limit line at
  unfolding field_at
  field_past h = rw (get_or-eq_default line 0 h)

  pub field-space : get_or line at 0 ≡ 32 → number_at limit line (at + 1) ≡ field_at limit line at
  unfolding field_at
  field-space e = rw (eq-eqb (get_or line at 0) 32 e)

  pub field-other : (get_or line at 0 ≡ 32 → ⊥) → None ≡ field_at limit line at
  unfolding field_at
  field-other f = rw (ne_eqb (get_or line at 0) 32 f)
