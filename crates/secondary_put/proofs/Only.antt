-- No second outcome of fresh and put: two outcomes that meet one contract are the same answer and arrays. Assumes nothing.
use mathlib.Core.Path.{◌≡◌, sym, ap, ◌∙◌}
use mathlib.Core.List.{List}
use Prim.Native.Nat.{ℕ}
use Rattle.std.specs.Prelude.{Result}
use Rattle.refusal.specs.declared.Refusal.{Refusal}
use Rattle.map.specs.declared.MapHeader.{MapHeader}
use Rattle.map.specs.Map.{Map}
use Rattle.map.specs.Calls.{Out, Begun, begins, cannot}
use Rattle.secondary.specs.Answers.{got_of}
use Rattle.secondary.proofs.Only.{reading_one_to_one, got_one_to_one, out_only, map_of}
use Rattle.secondary_put.specs.Outcomes.{begun_of}

pub begun_one_to_one : (a b : Result MapHeader Refusal) → begun_of a ≡ begun_of b → a ≡ b
begun_one_to_one = reading_one_to_one begins cannot (λ h g e. cc) (λ n m e. cc) (λ h n e. cc)

pub fresh_only : (r q : Result MapHeader Refusal) (vs us : List ℕ) (o : Begun × List ℕ) → ◌≡◌ {A = Begun × List ℕ} (begun_of r, vs) o → ◌≡◌ {A = Begun × List ℕ} (begun_of q, us) o
    → (r ≡ q) × (vs ≡ us)
fresh_only r q vs us o e f =
    let p : ◌≡◌ {A = Begun × List ℕ} (begun_of r, vs) (begun_of q, us) = e ∙ sym f in
    (begun_one_to_one r q (ap (λ (z : Begun × List ℕ). z.0) p), ap (λ (z : Begun × List ℕ). z.1) p)

pub put_only : (vs us xs ys : List ℕ) (o : Out) (r q : Result ℕ Refusal) (h : MapHeader) → ◌≡◌ {A = Out} (got_of r, map_of vs xs h) o → ◌≡◌ {A = Out} (got_of q, map_of us ys h) o → (r ≡ q) × (vs ≡ us) × (xs ≡ ys)
put_only vs us xs ys o r q h e f =
    let p = out_only got_of got_one_to_one r q _ _ o e f in
    (p.0, ap (λ (m : Map). m.versions) p.1, ap (λ (m : Map). m.values) p.1)
