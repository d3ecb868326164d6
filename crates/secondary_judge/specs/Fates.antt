-- The rules' reading of what an insert comes to. Assumes nothing.
use Rattle.std.specs.Prelude.{Result}
use Rattle.refusal.specs.declared.Refusal.{Refusal}
use Rattle.map.specs.Calls.{Fate as Fated, ignores, replaces, keeps, stores, bars}
use Rattle.secondary.specs.Answers.{reading}
use Rattle.secondary_judge.specs.declared.Fate.{Fate}
use Rattle.secondary_judge.specs.declared.Fate.TheVariants as Fate·

-- what an insert that is not refused comes to
abbrev pub comes_to : Fate → Fated
comes_to Fate·.Ignores = ignores
comes_to Fate·.Replaces = replaces
comes_to Fate·.Keeps = keeps
comes_to (Fate·.Stores n) = stores n

abbrev pub fate_of : Result Fate Refusal → Fated
fate_of r = reading comes_to bars r
