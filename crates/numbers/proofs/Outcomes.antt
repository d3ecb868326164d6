-- No second outcome of `take_byte`: what its answer says is one-to-one. Assumes nothing.
use mathlib.Core.Path.{◌≡◌, sym, ap}
use Rattle.lists.proofs.Only.{only_read}
use Rattle.std.specs.Prelude.{Result, Ok, Err}
use Rattle.refusal.specs.declared.Refusal.{Refusal}
use Rattle.refusal.proofs.Numbers.{number_one_to_one}
use Rattle.writing.specs.Told.{Told}
use Rattle.writing.proofs.Told.{never, refused-same}
use Rattle.numbers.specs.Numbers.{Step, step_of}
use Rattle.numbers.specs.declared.Taken.{Taken}
use Rattle.numbers.specs.declared.Taken.TheVariants.{More, Whole}

pub step_one_to_one : (r q : Result Taken Refusal) → step_of r ≡ step_of q → r ≡ q
step_one_to_one (Ok (More p)) (Ok (More q)) e = cc
step_one_to_one (Ok (More p)) (Ok (Whole v)) e = cc
step_one_to_one (Ok (More p)) (Err k) e = never (sym e)
step_one_to_one (Ok (Whole v)) (Ok (More q)) e = cc
step_one_to_one (Ok (Whole v)) (Ok (Whole w)) e = cc
step_one_to_one (Ok (Whole v)) (Err k) e = never (sym e)
step_one_to_one (Err k) (Ok (More q)) e = never e
step_one_to_one (Err k) (Ok (Whole w)) e = never e
step_one_to_one (Err k) (Err j) e = ap Err (number_one_to_one k j (refused-same e))

pub only_step : {x : Told Step} {r q : Result Taken Refusal} → step_of r ≡ x → step_of q ≡ x → r ≡ q
only_step = only_read step_of step_one_to_one
