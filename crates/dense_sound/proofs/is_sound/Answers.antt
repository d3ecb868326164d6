-- `dense_sound::is_sound` meets its contract.
use mathlib.Core.Path.{◌∙◌, ap}
use Rattle.table.specs.Sound.{is_sound}
use Rattle.table.proofs.Checking.{check_shape}
use Rattle.dense.specs.Lent.{seen}
use Rattle.dense_sound.proofs.is_sound.Goals as goal

pub returns-in-Ok : goal.returns-in-Ok
returns-in-Ok c = c.is_sound_in.ensures ∙ ap (λ v. is_sound (seen v)) c.in-Ok.ensures

pub returns-in-Err : goal.returns-in-Err
returns-in-Err c = check_shape _ c.in-Err.ensures.1
