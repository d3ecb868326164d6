-- What a line of the input says, and the bytes that hexadecimal digits spell. Assumes nothing.
use Rattle.std.specs.Prelude.{ℕ, ◌+◌, ◌*◌, ◌%◌, cond, List, [], ◌∷◌, ltb}
use Rattle.replay.specs.Runs.{run}
use Rattle.replay.specs.Lines.{blank, taken}
use Rattle.replay.specs.declared.Line.{Line}

abbrev pub said : List ℕ → Line
said t = run taken blank t

-- the value of a digit, `0` to `9` or `a` to `f`
unfoldable pub nibble_of : ℕ → ℕ
nibble_of d = cond (ltb d 58) (d % 16) ((d % 16 + 9) % 16)

abbrev pub byte_of : ℕ → ℕ → ℕ
byte_of x y = nibble_of x * 16 + nibble_of y

-- the bytes of a text of digits, each a piece of its own; a last digit alone spells none
abbrev pub spelled : List ℕ → List (List ℕ)
spelled [] = []
spelled (x ∷ []) = []
spelled (x ∷ y ∷ t) = (byte_of x y ∷ []) ∷ spelled t
