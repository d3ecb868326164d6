-- No second outcome: a judgement's reading is one-to-one, so a contract that gives the reading is met by one outcome only. Assumes nothing.
use Rattle.std.proofs.Common.{◌≡◌, sym, ap, ap₂}
use Rattle.std.specs.Prelude.{ℕ, Result, Ok, Err}
use Rattle.refusal.specs.declared.Refusal.{Refusal}
use Rattle.refusal.proofs.Numbers.{number_one_to_one}
use Rattle.writing.proofs.Told.{never, told, refused-same, both}
use Rattle.summaries.specs.Summaries.{judgement_of}
use Rattle.summaries.specs.declared.Summary.{Summary}
use Rattle.summaries.specs.declared.Judged.{Judged}

pub judgement_one_to_one : (r q : Result Judged Refusal) → judgement_of r ≡ judgement_of q → r ≡ q
judgement_one_to_one (Ok x) (Ok y) e = let p = both (told e) in ap₂ (λ (n : ℕ) (s : Summary). Ok (record { from = n; summary = s })) p.0 p.1
judgement_one_to_one (Ok x) (Err k) e = never (sym e)
judgement_one_to_one (Err k) (Ok x) e = never e
judgement_one_to_one (Err k) (Err j) e = ap Err (number_one_to_one k j (refused-same e))
