-- The slot image of a table, and writing it (the rules, section "The slot image"). Assumes nothing.
--
-- The image of the table that insert 7, insert 300, remove 1v1 leaves is `03 00 00 02 00 01 01 AC 02`: three slots, of which the last one
-- is occupied by 300.
use Rattle.std.specs.Prelude.{cond, List, ℕ, length}
use Rattle.lists.specs.Listed.{listed}
use Rattle.writing.specs.Told.{Told, tells, refused}
use Rattle.writing.specs.Writing.{written}
use Rattle.records.specs.declared.Record.{Record}
use Rattle.records.specs.declared.Record.TheVariants.{Vacant, Occupied}
use Rattle.records.specs.Records.{bytes_of}
use Rattle.table.specs.Table.{Table, ver, link, val, has_shape}
use Rattle.table.specs.Sound.{is_odd, is_sound}

-- "for each slot its version, presence 0 or 1, and the value if 1": the value stands at the place that the slot links to
unfoldable pub slot_of : Table → ℕ → Record
slot_of t i = cond (is_odd t i) (Occupied (ver t i) (val t (link t i))) (Vacant (ver t i))

-- the slots, and their bytes
unfoldable pub image_of : Table → List Record
image_of t = listed (slot_of t) t.head.s

unfoldable pub image_bytes : Table → List ℕ
image_bytes t = bytes_of (image_of t)

-- "image writing asks for a sound table, else 5"; 1 comes first
unfoldable pub image_len : Table → Told ℕ
image_len t = cond (has_shape t) (cond (is_sound t) (tells (length (image_bytes t))) (refused 5)) (refused 1)

-- the bytes go into the buffer from its front on, and their number is answered; 6 comes last
unfoldable pub write_image : Table → List ℕ → Told ℕ × List ℕ
write_image t out = cond (has_shape t) (cond (is_sound t) (written 0 (image_bytes t) out) (refused 5, out)) (refused 1, out)
