-- No second outcome: each reading of an answer is one-to-one, so a contract leaves one answer, one table and one header. Assumes nothing.
use Rattle.std.proofs.Common.{ℕ, Bool, false, ◌≡◌, refl, sym, ap, ◌∙◌, Result, Ok, Err, MatchResult}
use Rattle.lists.proofs.Only.{only_both}
use Rattle.refusal.specs.declared.Refusal.{Refusal}
use Rattle.refusal.specs.Refusals.{number_of}
use Rattle.refusal.proofs.Numbers.{number_one_to_one}
use Rattle.table.specs.declared.Header.{Header}
use Rattle.table.specs.Table.{Table, has_shape}
use Rattle.table.specs.Calls.{Said, refused, Out, fails, cannot}
use Rattle.dense.specs.declared.View.{View}
use Rattle.dense.specs.declared.judged.Shaped.{Shaped}
use Rattle.dense.specs.Lent.{seen}
use Rattle.dense.proofs.Shape.{shape_of_view}
use Rattle.dense.specs.Answers.{outcome, judged_of, value_said, issued_said, count_said, truth_said, begun_of, done_said}

-- a refusal, from its number on paper
pub said-refusal : (r q : Refusal) → refused (number_of r) ≡ refused (number_of q) → r ≡ q
said-refusal r q e = number_one_to_one r q (cc)

fails-refusal : (r q : Refusal) → fails (number_of r) ≡ fails (number_of q) → r ≡ q
fails-refusal r q e = number_one_to_one r q (cc)

cannot-refusal : (r q : Refusal) → cannot (number_of r) ≡ cannot (number_of q) → r ≡ q
cannot-refusal r q e = number_one_to_one r q (cc)

pub place_one_to_one : (a b : Result ℕ Refusal) → judged_of a ≡ judged_of b → a ≡ b
place_one_to_one (Ok p) (Ok q) e = ap Ok (cc)
place_one_to_one (Ok p) (Err q) e = cc
place_one_to_one (Err r) (Ok q) e = cc
place_one_to_one (Err r) (Err q) e = ap Err (fails-refusal r q e)

pub value_one_to_one : (a b : Result ℕ Refusal) → value_said a ≡ value_said b → a ≡ b
value_one_to_one (Ok x) (Ok y) e = ap Ok (cc)
value_one_to_one (Ok x) (Err q) e = cc
value_one_to_one (Err r) (Ok y) e = cc
value_one_to_one (Err r) (Err q) e = ap Err (said-refusal r q e)

pub key_one_to_one : (a b : Result ℕ Refusal) → issued_said a ≡ issued_said b → a ≡ b
key_one_to_one (Ok x) (Ok y) e = ap Ok (cc)
key_one_to_one (Ok x) (Err q) e = cc
key_one_to_one (Err r) (Ok y) e = cc
key_one_to_one (Err r) (Err q) e = ap Err (said-refusal r q e)

pub count_one_to_one : (a b : Result ℕ Refusal) → count_said a ≡ count_said b → a ≡ b
count_one_to_one (Ok x) (Ok y) e = ap Ok (cc)
count_one_to_one (Ok x) (Err q) e = cc
count_one_to_one (Err r) (Ok y) e = cc
count_one_to_one (Err r) (Err q) e = ap Err (said-refusal r q e)

pub truth_one_to_one : (a b : Result Bool Refusal) → truth_said a ≡ truth_said b → a ≡ b
truth_one_to_one (Ok x) (Ok y) e = ap Ok (cc)
truth_one_to_one (Ok x) (Err q) e = cc
truth_one_to_one (Err r) (Ok y) e = cc
truth_one_to_one (Err r) (Err q) e = ap Err (said-refusal r q e)

pub done_one_to_one : (a b : Result Unit Refusal) → done_said a ≡ done_said b → a ≡ b
done_one_to_one (Ok x) (Ok y) e = refl
done_one_to_one (Ok x) (Err q) e = cc
done_one_to_one (Err r) (Ok y) e = cc
done_one_to_one (Err r) (Err q) e = ap Err (said-refusal r q e)

pub begun_one_to_one : (a b : Result Header Refusal) → begun_of a ≡ begun_of b → a ≡ b
begun_one_to_one (Ok h) (Ok g) e = ap Ok (cc)
begun_one_to_one (Ok h) (Err q) e = cc
begun_one_to_one (Err r) (Ok g) e = cc
begun_one_to_one (Err r) (Err q) e = ap Err (cannot-refusal r q e)

-- the form of every changing call's contract: the answer is one, and so are the arrays and the header
pub only_outcome : {A : Type 0} (said : A → Said) → ((a b : A) → said a ≡ said b → a ≡ b) → {o : Out} {a b : A} {t u : Table}
    → outcome (said a) t ≡ o → outcome (said b) u ≡ o → (a ≡ b) × (t ≡ u)
only_outcome said one-to-one {o} {a} {b} e f = let p = only_both e f in (one-to-one a b p.0, p.1)

-- what `with_shape` hands back: the view, or the refusal
abbrev pub viewed : Result Shaped Refusal → Result View Refusal
viewed (Ok table) = Ok table.view
viewed (Err r) = Err r

abbrev pub Shapes : View → Result Shaped Refusal → Type 0
Shapes v a = MatchResult a (λ table. table.view ≡ v) (λ why. (number_of why ≡ 1) × (has_shape (seen v) ≡ false))

pub shaped_only : (v : View) (a b : Result Shaped Refusal) → Shapes v a → Shapes v b → viewed a ≡ viewed b
shaped_only v (Ok t) (Ok u) p q = ap Ok (p ∙ sym q)
shaped_only v (Ok t) (Err q) p e = let z = sym (shape_of_view t p) ∙ e.1 in cc
shaped_only v (Err r) (Ok u) e p = let z = sym (shape_of_view u p) ∙ e.1 in cc
shaped_only v (Err r) (Err q) e f = ap Err (number_one_to_one r q (e.0 ∙ sym f.0))
