-- A table on the way of a sweep: it is sound at every turn, and one element is dropped from it. Assumes nothing.
use mathlib.Core.Path.{◌≡◌, refl, sym, ap, subst, ◌∙◌}
use Prim.Native.Nat.{ℕ, suc, ◌<◌}
use Rattle.table.specs.Table.{Table}
use Rattle.table.specs.Sound.{Sound}
use Rattle.table.specs.Frames.{SameLengths}
use Rattle.table.proofs.Sieve.{dropped, dropped_leaves, dropped_sound}

-- the table t has become the table u, which is sound
pub record Swept (t u : Table) : Type 0 where
  pub sound : Sound u
  pub lengths : SameLengths t u

pub swept_none : (t : Table) → Sound t → Swept t t
swept_none t a = record { sound = a; lengths = (refl, refl, refl, refl) }

module _ (t u w : Table) (a : Swept t u) (p : ℕ) (h : p < u.head.n) (e : w ≡ dropped u p) where
  pub swept-count : suc w.head.n ≡ u.head.n
  swept-count = ap (λ (z : Table). suc z.head.n) e ∙ (dropped_leaves u a.sound p h).count

  pub swept-more : Swept t w
  swept-more =
      let l = (dropped_leaves u a.sound p h).lengths in
      let b = a.lengths in
      subst (Swept t) (sym e) (record {
        sound = dropped_sound u a.sound p h;
        lengths = (l.0 ∙ b.0, l.1 ∙ b.1, l.2 ∙ b.2, l.3 ∙ b.3);
      })
