-- `read_number` meets its contract: each turn takes a byte of the rest.
use Prim.Native.Nat.{ℕ, ◌+◌, ◌≤◌, ◌<◌}
use mathlib.Core.Path.{◌≡◌, sym, ap, ◌∙◌}
use mathlib.Core.List.{List, ◌∷◌}
use native.Mathlib.Numerals.{add-one}
use lib.ListN.{length, drop, get_or, drop_of_length-le}
use lib.Seq.{drop-cons}
use Rattle.std.specs.Prelude.{Result, Ok}
use Rattle.std.proofs.lemmas.Result.{err_from_is_err_and}
use Rattle.refusal.specs.declared.Refusal.{Refusal}
use Rattle.writing.specs.Told.{Told, refused}
use Rattle.numbers.specs.Numbers.{Step, step_of, take_of, stepped, read_from}
use Rattle.numbers.specs.declared.Partial.{Partial}
use Rattle.numbers.specs.declared.Taken.{Taken}
use Rattle.numbers.specs.declared.Taken.TheVariants.{More, Whole}
use Rattle.numbers_read.proofs.read_number.Goals as goal

module _ (limit : ℕ) (s : List ℕ) (at : ℕ) (p : Partial) where
  -- what one turn makes of what is still to be read
  turn : at < length s → (r t : Result Taken Refusal) → step_of r ≡ take_of limit p (get_or s at 0) → r ≡ t
      → read_from limit (drop at s) at p ≡ stepped (at + 1) (step_of t) (λ q. read_from limit (drop (at + 1) s) (at + 1) q)
  unfolding read_from
  turn h r t e f =
      ap (λ (l : List ℕ). read_from limit l at p) opens
      ∙ ap (λ (x : Told Step). stepped (at + 1) x (λ q. read_from limit (drop (at + 1) s) (at + 1) q)) (sym e ∙ ap step_of f)
    where
      opens : drop at s ≡ get_or s at 0 ∷ drop (at + 1) s
      opens = rw add-one (drop-cons s at 0 h)

  over : length s ≤ at → read_from limit (drop at s) at p ≡ refused 10
  unfolding read_from
  over h = rw (drop_of_length-le s h)

pub returns-in_err-value : goal.returns-in_err-value
returns-in_err-value c =
    let l = c.loop-place in
    let a = c.args in
    let p = err_from_is_err_and c.from_residual.result c.from_residual.ensures.1 in
    rw (p.1, p.2) (sym (l.invariant ∙ turn a.limit a.bytes.now l.place l.state c.loop-place-test.true c.take_byte.result _ c.take_byte.ensures c.in_err-value.was))

pub returns-in-Whole : goal.returns-in-Whole
returns-in-Whole c =
    let l = c.loop-place in
    let a = c.args in
    sym (l.invariant ∙ turn a.limit a.bytes.now l.place l.state c.loop-place-test.true c.take_byte.result (Ok (Whole c.in-Whole.value)) c.take_byte.ensures (c.in_ok-value.was ∙ ap Ok c.in-Whole.is))

pub loop-place-preserved : goal.loop-place-preserved
loop-place-preserved c =
    let l = c.loop-place in
    let a = c.args in
    l.invariant ∙ turn a.limit a.bytes.now l.place l.state c.loop-place-test.true c.take_byte.result (Ok (More c.in-More.more)) c.take_byte.ensures (c.in_ok-value.was ∙ ap Ok c.in-More.is)

pub returns : goal.returns
returns c =
    let l = c.loop-place in
    sym (l.invariant ∙ over c.args.limit c.args.bytes.now l.place l.state c.loop-place-test.false)
