-- The laws of the check, part by part, for `is_sound_in`.
use Rattle.table.proofs.Checking.{check_version, check_link, check_homes, check_odd, check_list}
use Rattle.dense_free.proofs.Holds.{holds_list}

pub ruleset checks = (check_version, check_link, check_homes, check_odd, check_list, holds_list)
