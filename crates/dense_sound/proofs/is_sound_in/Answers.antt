-- `dense_sound::is_sound_in` meets its contract: each part of the check has passed, and the list's part is the answer.
use Rattle.std.proofs.Common.{refl, sym, ◌∙◌, arith}
use Rattle.lists.proofs.Tests.{confirmed}
use Rattle.table.proofs.Checking.{check_list}
use Rattle.dense_free.proofs.Holds.{holds_list}
use Rattle.dense_sound.proofs.is_sound_in.Goals as goal

pub returns : goal.returns
returns c =
    let sh = c.args.table.shape in
    c.free_list_holds.ensures ∙ sym (holds_list _ sh refl)
    ∙ check_list _ sh (omega arith) (omega arith) (confirmed c.are_home.ensures c.if-not-are_home.false) c.odd_slots.ensures (omega arith) refl
