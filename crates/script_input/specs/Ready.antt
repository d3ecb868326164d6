-- What taking a byte asks for: the line's buffer holds the bytes that are counted, and the output has room for one answer. For private functions. Assumes nothing.
use Rattle.std.specs.Prelude.{ℕ, ◌+◌, ◌≤◌, List, length}
use Rattle.script_say.specs.Says.{room}
use Rattle.script_input.specs.Machine.{held}

pub record Ready (count : ℕ) (line : List ℕ) (at : ℕ) (out : List ℕ) : Type 0 where
  pub long : held ≤ length line
  pub within : count ≤ held
  pub roomy : at + room ≤ length out
