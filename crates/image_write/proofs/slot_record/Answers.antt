-- `slot_record` meets its contract: a sound table's odd slots link to places.
use borrow.Author.Rules.{rules}
use mathlib.Core.Path.{◌≡◌, sym, ◌∙◌}
use mathlib.Core.Bool.{true, false}
use Prim.Native.Nat.{ℕ, ◌<◌, ◌%◌}
use native.Mathlib.Omega.{arith}
use lib.ListN.{length}
use borrow.Author.Tests.{eqb-true}
use Rattle.table.specs.Table.{Table, ver, link, val}
use Rattle.table.specs.Sound.{is_odd, is_sound}
use Rattle.table.proofs.Shape.{shape}
use Rattle.table.proofs.Decides.{passes_shape, passes_odds}
use Rattle.records.specs.declared.Record.TheVariants.{Vacant, Occupied}
use Rattle.image.specs.Image.{slot_of}
use Rattle.image_write.proofs.slot_record.Goals as goal

module _ (t : Table) (i : ℕ) where
  module _ (sound : is_sound t ≡ true) (here : i < t.head.s) where
    in_versions : i < length t.versions
    in_versions =
        let s = shape t (passes_shape t sound) in
        omega (arith, s.vlen, s.s_high, here)

    in_links : i < length t.links
    in_links =
        let s = shape t (passes_shape t sound) in
        omega (arith, s.llen, s.s_high, here)

    in_values : ver t i % 2 ≡ 1 → link t i < length t.values
    in_values odd =
        let s = shape t (passes_shape t sound) in
        omega (arith, s.xlen, s.s_high, s.n_high, passes_odds t sound i here odd)

  occupied : is_odd t i ≡ true → Occupied (ver t i) (val t (link t i)) ≡ slot_of t i
  unfolding slot_of
  occupied e = rw e

  vacant : is_odd t i ≡ false → Vacant (ver t i) ≡ slot_of t i
  unfolding slot_of
  vacant e = rw e

pub bounds-versions-i : goal.bounds-versions-i
bounds-versions-i c = in_versions _ _ c.args.table.sound c.requires

pub bounds-links-i : goal.bounds-links-i
bounds-links-i c = in_links _ _ c.args.table.sound c.requires

pub bounds-values-p : goal.bounds-values-p
bounds-values-p c = in_values _ _ c.args.table.sound c.requires (eqb-true _ _ (cc))

pub returns-then-is_odd : goal.returns-then-is_odd
returns-then-is_odd c = (occupied _ _ (sym c.is_odd.ensures ∙ c.if-is_odd.true), search rules)

pub returns : goal.returns
returns c = (vacant _ _ (sym c.is_odd.ensures ∙ c.if-is_odd.false), search rules)
