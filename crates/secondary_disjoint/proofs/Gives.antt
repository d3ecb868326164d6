-- Disjoint's outcomes: what marking found is the definition's finding, and the versions are those before. Assumes nothing.
use mathlib.Core.Path.{◌≡◌, sym, ap, ap₂, ◌∙◌}
use mathlib.Core.Bool.{true}
use mathlib.Core.List.{List}
use Prim.Native.Nat.{ℕ, ◌≤◌, ◌<◌}
use lib.ListN.{length}
use borrow.Author.Tests.{le-leb, lt-leb}
use Rattle.std.specs.Prelude.{Result, Ok, Err}
use Rattle.lists.specs.Put.{put}
use Rattle.refusal.specs.declared.Refusal.{Refusal}
use Rattle.refusal.specs.Refusals.{number_of}
use Rattle.map.specs.Map.{Map, has_shape}
use Rattle.map.specs.Calls.{said_done, refused}
use Rattle.map.specs.Sweeps.{Slots, slots, given, disjoint}
use Rattle.secondary_disjoint.specs.declared.Marked.{Marked}
use Rattle.map.specs.Refused.{indexes}
use Rattle.secondary_disjoint.specs.Marks.{unmarked, marked_of, Marking}
use Rattle.secondary_disjoint.proofs.Runs.{marked}

-- the versions vs that marking left, and us after unmarking
module _ (m : Map) (ks out : List ℕ) (sh : has_shape m ≡ true) (vs us : List ℕ) (r : Marked) (h : Marking m ks r vs) (u : us ≡ unmarked vs ks r.count) where
  same : marked m us ≡ m
  same = ap (marked m) (u ∙ h.back)

  gives : disjoint m ks out ≡ given m (marked_of r.answer ks) ks out
  unfolding disjoint
  gives = rw sh (ap (λ (z : Slots). given m z ks out) (sym h.found))

  pub gives_stopped : (x : Refusal) → r.answer ≡ Err x → ((refused (number_of x), marked m us), out) ≡ disjoint m ks out
  gives_stopped x e =
      ap (λ (p : Map). ((refused (number_of x), p), out)) same ∙ sym (gives ∙ ap (λ (a : Result (Unit {0}) Refusal). given m (marked_of a ks) ks out) e)

  module _ (e : r.answer ≡ Ok (tt {0})) where
    all : disjoint m ks out ≡ given m (slots (indexes ks)) ks out
    all = gives ∙ ap (λ (a : Result (Unit {0}) Refusal). given m (marked_of a ks) ks out) e

    pub gives_short : length out < length ks → ((refused 6, marked m us), out) ≡ disjoint m ks out
    gives_short l = ap (λ (n : Map). ((refused 6, n), out)) same ∙ sym (all ∙ rw (lt-leb (length ks) (length out) l))

    pub gives_done : (outs : List ℕ) → length ks ≤ length out → outs ≡ put out 0 (indexes ks) → ((said_done, marked m us), outs) ≡ disjoint m ks out
    gives_done outs l w =
        ap₂ (λ (n : Map) (o : List ℕ). ((said_done, n), o)) same w ∙ sym (all ∙ rw (le-leb (length ks) (length out) l))
