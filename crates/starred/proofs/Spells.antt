-- Every starred spell shows what the rules say, by computation. Assumes nothing.
use mathlib.Core.Path.{◌≡◌, refl}
use Rattle.lists.specs.Count.{count, every}
use Rattle.lists.specs.Listed.{listed, picked}
use Rattle.keys.specs.Keys.{version}
use Rattle.table.specs.Calls.{fresh, place_in, place, next_in, next, inserted, insert, next_key, leaving, remove, detach, berth_in, berth, reattach}
use Rattle.table.specs.Table.{lengths_fit, has_shape, is_live, dead, is_detached, is_held, last_in_range, last_is_held, head_is_free, with_value, entered, freed, filled, left}
use Rattle.table.specs.Sound.{is_home, is_waiting, leads, steps, is_sound}
use Rattle.table.specs.Thread.{next_free, joined}
use Rattle.numbers.specs.Numbers.{take_of, read_from, number_at, groups_of, encoded}
use Rattle.writing.specs.Writing.{written}
use Rattle.records.specs.Records.{record_at, records_from, count_of, list_of, records_of, record_bytes, list_bytes, bytes_of}
use Rattle.summaries.specs.Summaries.{lives, wrongs}
use Rattle.image.specs.Image.{slot_of, image_of, image_bytes, write_image}
use Rattle.image.specs.Rebuild.{first_wrong, fitting, judged_image, is_full, is_bare, ver_in, link_in, rebuilt_to, rebuilt, rebuilt_from, rebuild}
use Rattle.starred.specs.Spells.{spells, moved, shown, room, shown_by, expected_by}

replayed : shown_by spells ≡ expected_by spells
unfolding moved shown room shown_by expected_by count every listed picked version fresh place_in place next_in next inserted insert next_key leaving remove detach berth_in berth reattach lengths_fit has_shape is_live dead is_detached is_held last_in_range last_is_held head_is_free with_value entered freed filled left is_home is_waiting leads steps is_sound next_free joined take_of read_from number_at groups_of encoded written record_at records_from count_of list_of records_of record_bytes list_bytes bytes_of lives wrongs slot_of image_of image_bytes write_image first_wrong fitting judged_image is_full is_bare ver_in link_in rebuilt_to rebuilt rebuilt_from rebuild
replayed = refl
