-- `state` mixes the arrays in order.
use Rattle.replay_state.specs.State.{digest}
use Rattle.replay_state.proofs.state.Goals as goal

pub returns : goal.returns
unfolding digest
returns c = rw (c.mix_all-3.ensures, c.mix_all-2.ensures, c.mix_all-slots.ensures, c.mix_all.ensures, c.head.ensures, c.is_sound-sound.ensures)
