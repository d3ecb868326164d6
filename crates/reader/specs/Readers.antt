-- The image reader that holds lent bytes, at a place (the rules, section "The slot image": "then as a struct that holds the slice").
-- Assumes nothing.
use Rattle.std.specs.Prelude.{ℕ, List}
use Rattle.std.specs.Borrow.{Bor}
use Rattle.reader.specs.declared.ImageReader.{ImageReader}

-- the reader of these very bytes at this place
abbrev pub reader_at : Bor (List ℕ) → ℕ → ImageReader
reader_at bytes at = record { bytes = bytes; at = at }
