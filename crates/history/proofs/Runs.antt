-- Theorem B2's form: a chain of outcomes, each meeting the equation of its call, is the list of calls itself, so what is proved of
-- `after` and `history` holds of every such chain. By induction on the chain. Assumes nothing.
use mathlib.Core.Path.{◌≡◌, refl, sym, ap, ap₂, ◌∙◌}
use mathlib.Core.List.{List, [], ◌∷◌}
use Rattle.table.specs.Table.{Table}
use Rattle.table.specs.Calls.{Out}
use Rattle.table.specs.Steps.{Call, History, step, after, history, Run, calls_of}

pub run-after : (t : Table) (h : History) (u : Table) → Run t h u → (u ≡ after t (calls_of h)) × (h ≡ history t (calls_of h))
unfolding after history
run-after t [] u r = (r, refl)
run-after t (e ∷ h) u r =
    let before = run-after t h r.0 r.1 in
    let meets : (e.1, u) ≡ step (after t (calls_of h)) e.0 = r.2 ∙ ap (λ (w : Table). step w e.0) before.0 in (
      ap (λ (o : Out). o.1) meets,
      ap₂ ◌∷◌ (ap (λ (o : Out). (e.0, o.0)) meets) before.1,
    )

-- every list of calls is such a chain
pub after_run : (t : Table) (cs : List Call) → Run t (history t cs) (after t cs)
unfolding after history
after_run t [] = refl
after_run t (c ∷ cs) = (after t cs, after_run t cs, refl)

-- two chains of the same calls have the same answers and end in the same table
pub run_only : (t : Table) (g h : History) (u w : Table) → Run t g u → Run t h w → calls_of g ≡ calls_of h → (g ≡ h) × (u ≡ w)
run_only t g h u w r q e =
    let a = run-after t g u r in
    let b = run-after t h w q in
    (a.1 ∙ ap (history t) e ∙ sym b.1, a.0 ∙ ap (after t) e ∙ sym b.0)
