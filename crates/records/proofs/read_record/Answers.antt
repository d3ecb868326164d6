-- `read_record` meets its contract: a version was read as a number of 32 bits.
use mathlib.Core.Path.{sym}
use Rattle.numbers.proofs.Bounds.{number_fits}
use Rattle.records.proofs.read_record.Goals as goal

pub overflow_cast-version : goal.overflow_cast-version
overflow_cast-version c = record { fits = number_fits 32 c.args.bytes.now c.args.at _ _ (sym c.in_ok-first.ensures) }
