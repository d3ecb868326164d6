-- The rules' reading of what fresh answers. Assumes nothing.
use Rattle.std.specs.Prelude.{Result}
use Rattle.refusal.specs.declared.Refusal.{Refusal}
use Rattle.map.specs.declared.MapHeader.{MapHeader}
use Rattle.map.specs.Calls.{Begun, begins, cannot}
use Rattle.secondary.specs.Answers.{reading}

abbrev pub begun_of : Result MapHeader Refusal → Begun
begun_of r = reading begins cannot r
