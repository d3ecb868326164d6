-- Each of the two numbers that `key_of` packs is within its limit, so it fits its 32 bits.
use native.Mathlib.Omega.{arith}
use Rattle.fields.proofs.Numbers.{field-small}
use Rattle.commands.proofs.key_of.Goals as goal

pub overflow_cast-key : goal.overflow_cast-key
overflow_cast-key c = omega (arith, field-small _ c.args.line.now 1 _ _ c.in_ok-index.ensures)

pub overflow_cast-key-2 : goal.overflow_cast-key-2
overflow_cast-key-2 c = omega (arith, field-small _ c.args.line.now c.in_ok-index.index.next _ _ c.in_ok-version.ensures)
