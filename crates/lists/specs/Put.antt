-- A text put into a buffer. Assumes nothing.
use Rattle.std.specs.Prelude.{ℕ, ◌+◌, List, ◌++◌, length, take, drop}

-- the buffer b with the text t put in from a place on; what stands before and after it stays
abbrev pub put : List ℕ → ℕ → List ℕ → List ℕ
put b at t = take at b ++ (t ++ drop (at + length t) b)
