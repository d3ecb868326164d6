-- `image_len` meets its contract: of a sound table it is the length of its image.
use mathlib.Core.Path.{ap, ◌∙◌}
use Rattle.dense.specs.Lent.{seen}
use Rattle.image.specs.Image.{image_len}
use Rattle.image_write.proofs.Measured.{measured}
use Rattle.image_write.proofs.image_len.Goals as goal

pub returns : goal.returns
returns c = measured _ c.in_ok-table.table.sound c.bytes_in.ensures ∙ ap (λ v. image_len (seen v)) c.in_ok-table.ensures
