-- No second outcome of disjoint: two outcomes that meet its contract are the same answer, arrays and output. Assumes nothing.
use mathlib.Core.Path.{◌≡◌, refl, sym, ap, ◌∙◌}
use mathlib.Core.List.{List}
use Prim.Native.Nat.{ℕ}
use Rattle.map.specs.declared.MapHeader.{MapHeader}
use Rattle.map.specs.Map.{Map}
use Rattle.map.specs.Calls.{Out}
use Rattle.secondary.proofs.Only.{out_only, map_of}
use Rattle.std.specs.Prelude.{Result}
use Rattle.refusal.specs.declared.Refusal.{Refusal}
use Rattle.secondary_sweep.specs.Outcomes.{swept_of}
use Rattle.secondary_sweep.proofs.Only.{swept_one_to_one}

module _ (vs us xs ys : List ℕ) where
  pub disjoint_only : (r q : Result (Unit {0}) Refusal) (h : MapHeader) (out outs : List ℕ) (o : Out × List ℕ) → ◌≡◌ {A = Out × List ℕ} ((swept_of r, map_of vs xs h), out) o
      → ◌≡◌ {A = Out × List ℕ} ((swept_of q, map_of us ys h), outs) o → (r ≡ q) × (vs ≡ us) × (xs ≡ ys) × (out ≡ outs)
  disjoint_only r q h out outs o e f =
      let s : ◌≡◌ {A = Out × List ℕ} ((swept_of r, map_of vs xs h), out) ((swept_of q, map_of us ys h), outs) = e ∙ sym f in
      let p = out_only swept_of swept_one_to_one r q _ _ (swept_of q, map_of us ys h) (ap (λ (z : Out × List ℕ). z.0) s) refl in
      (p.0, ap (λ (m : Map). m.versions) p.1, ap (λ (m : Map). m.values) p.1, ap (λ (z : Out × List ℕ). z.1) s)
