-- `write_bytes` answers what `has_room` says, and then puts the text in.
use mathlib.Core.Path.{◌≡◌, refl, ap}
use mathlib.Core.List.{List, ◌++◌}
use Prim.Native.Nat.{ℕ}
use native.Mathlib.Omega.{arith}
use lib.ListN.{length, take}
use lib.Seq.{drop-drop}
use borrow.Rule.Slice.PartMut.{put_mid}
use Rattle.lists.specs.Put.{put}
use Rattle.lists.proofs.Tests.{refuted, confirmed}
use Rattle.writing.proofs.Writing.{room-written, no_room-written}
use Rattle.writing.proofs.write_bytes.Goals as goal

-- a part of a buffer that holds a text now is that text put in
part_put : (b t x : List ℕ) (at k : ℕ) → x ≡ t → k ≡ length t → put_mid at k b x ≡ put b at t
part_put b t x at k e l = rw (e, l) (ap (λ (y : List ℕ). take at b ++ (t ++ y)) (drop-drop (length t) at b))

pub returns-then-not-has_room : goal.returns-then-not-has_room
returns-then-not-has_room c =
    let s = c.args in
    no_room-written s.at _ s.text.now s.out.now refl (refuted c.has_room.ensures c.if-not-has_room.true)

pub returns : goal.returns
returns c =
    let s = c.args in
    room-written s.at _ s.text.now s.out.now refl _ (confirmed c.has_room.ensures c.if-not-has_room.false)
    (part_put s.out.now s.text.now _ s.at _ c.copy_from_slice.ensures.after (omega arith))
