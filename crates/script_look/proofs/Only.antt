-- The reading of a command's answer is one-to-one. Assumes nothing.
use Rattle.std.proofs.Common.{◌≡◌, refl, sym, ap, ◌∙◌, Result, Ok, Err}
use Rattle.refusal.specs.declared.Refusal.{Refusal}
use Rattle.table.specs.Calls.{Said, said_key, said_value, said_count}
use Rattle.dense.proofs.Only.{said-refusal}
use Rattle.script_look.specs.declared.Answer.{Answer}
use Rattle.script_look.specs.declared.Answer.TheVariants.{Key, Value, Done, Count}
use Rattle.script_look.specs.Answers.{answer_told, answer_said}

-- the answer that says this; what no answer says gives the one without a number
abbrev answer_of : Said → Answer
answer_of (said_key k) = Key k
answer_of (said_value x) = Value x
answer_of (said_count m) = Count m
answer_of _ = Done

found_again : (a : Answer) → answer_of (answer_told a) ≡ a
found_again (Key k) = refl
found_again (Value x) = refl
found_again Done = refl
found_again (Count m) = refl

-- no answer tells a refusal
told_refuses : (a : Answer) (q : Refusal) → answer_said (Ok a) ≡ answer_said (Err q) → Ok a ≡ Err q
told_refuses (Key k) q e = cc
told_refuses (Value x) q e = cc
told_refuses Done q e = cc
told_refuses (Count m) q e = cc

pub answer_one_to_one : (a b : Result Answer Refusal) → answer_said a ≡ answer_said b → a ≡ b
answer_one_to_one (Ok a) (Ok b) e = ap Ok (sym (found_again a) ∙ ap answer_of e ∙ found_again b)
answer_one_to_one (Ok a) (Err q) e = told_refuses a q e
answer_one_to_one (Err r) (Ok b) e = sym (told_refuses b r (sym e))
answer_one_to_one (Err r) (Err q) e = ap Err (said-refusal r q e)
