-- The rules of retain (the rules, section "The dense table", Retain). Assumes nothing.
use Rattle.std.specs.Prelude.{ℕ, Bool, ◌&&◌, leb, eqb}
use Rattle.std.specs.Int.Bits.{bit_and}
use Rattle.rules.specs.declared.Rule.{Rule}
use Rattle.rules.specs.declared.Rule.TheVariants.{Values, Masked, Indexes}

-- "value from lo to hi inclusive; value masked by m equals w; index from lo to hi inclusive"
unfoldable pub keeps_of : Rule → ℕ → ℕ → Bool
keeps_of (Values lo hi) index value = leb lo value && leb value hi
keeps_of (Masked mask wanted) index value = eqb (bit_and value mask) wanted
keeps_of (Indexes lo hi) index value = leb lo index && leb index hi
