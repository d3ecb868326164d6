-- `secondary_look::slot` meets its contract.
use Rattle.std.proofs.lemmas.Result.{err_from_is_err_and}
use Rattle.lists.proofs.Tests.{refuted, confirmed}
use mathlib.Core.Path.{refl, ap}
use Rattle.map.specs.Calls.{slot, slot_in, fails}
use Rattle.secondary.proofs.Seen.{shape_of_view}
use Rattle.secondary_look.proofs.slot.Goals as goal

pub returns-in_err-map : goal.returns-in_err-map
unfolding slot
returns-in_err-map c =
    let p = err_from_is_err_and c.from_residual.result c.from_residual.ensures.1 in
    rw (p.1, p.2) (simp (c.in_err-map.ensures.0, c.in_err-map.ensures.1))

pub returns-then-not-is_there : goal.returns-then-not-is_there
unfolding slot slot_in
returns-then-not-is_there c =
    let e = refuted (rw c.from_ffi-key.ensures at c.is_there.ensures) c.if-not-is_there.true in
    let a = rw c.from_ffi-key.ensures at c.absent.ensures in
    rw (shape_of_view c.in_ok-map.map c.in_ok-map.ensures, ← c.in_ok-map.ensures, e) (ap fails a)

pub returns : goal.returns
unfolding slot slot_in
returns c =
    let e = confirmed (rw c.from_ffi-key.ensures at c.is_there.ensures) c.if-not-is_there.false in
    rw (shape_of_view c.in_ok-map.map c.in_ok-map.ensures, ← c.in_ok-map.ensures, c.from_ffi-key.ensures, e) refl
