-- A sound table's image: its length is told, and its bytes are written where they fit. Assumes nothing.
use mathlib.Core.Path.{◌≡◌, ap}
use mathlib.Core.Bool.{true}
use mathlib.Core.List.{List}
use Prim.Native.Nat.{ℕ}
use lib.ListN.{length}
use Rattle.writing.specs.Told.{tells}
use Rattle.writing.specs.Writing.{written}
use Rattle.table.specs.Table.{Table}
use Rattle.table.specs.Sound.{is_sound}
use Rattle.table.proofs.Decides.{passes_shape}
use Rattle.image.specs.Image.{image_bytes, image_len, write_image}

module _ (t : Table) (sound : is_sound t ≡ true) where
  pub measured : {n : ℕ} → n ≡ length (image_bytes t) → tells n ≡ image_len t
  unfolding image_len
  measured e = rw (passes_shape t sound, sound) (ap tells e)

  pub stored : (out : List ℕ) → written 0 (image_bytes t) out ≡ write_image t out
  unfolding write_image
  stored out = rw (passes_shape t sound, sound)
