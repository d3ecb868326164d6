-- Laws of text written piece by piece: where it fits the pieces stand joined. Assumes nothing.
use mathlib.Core.Path.{◌≡◌, refl, sym, ap, ap₂, ◌∙◌}
use mathlib.Core.List.{List, [], ◌∷◌, ◌++◌}
use Prim.Native.Nat.{ℕ, ◌+◌, ◌≤◌}
use native.Mathlib.Nat.{add-zero}
use native.Mathlib.Omega.{arith}
use lib.ListN.{length, length-append}
use borrow.Author.Tests.{le-leb}
use Rattle.std.specs.Prelude.{Result, Ok, Err}
use Rattle.std.specs.Result.{result_unwrap_or}
use Rattle.refusal.specs.declared.Refusal.{Refusal}
use Rattle.lists.specs.Put.{put}
use Rattle.lists.proofs.Put.{put_nil, put-put, length-put}
use Rattle.writing.specs.Told.{Told}
use Rattle.writing.specs.Writing.{outcome, written}
use Rattle.writing.proofs.Writing.{room-written}
use Rattle.pieces.specs.Pieces.{page, place_of, wrote, wrote_all, joined}

-- what a writer's outcome leaves: the place that it hands back, and the buffer
pub wrote_by : (at : ℕ) (t b d : List ℕ) (n : ℕ) (w : Result ℕ Refusal) → n ≡ result_unwrap_or w at → outcome w d ≡ written at t b → page n d ≡ wrote (page at b) t
unfolding wrote
wrote_by at t b d n (Ok m) p e = ap (λ (k : ℕ). page k d) p ∙ ap (λ (o : Told ℕ × List ℕ). page (place_of at o.0) o.1) e
wrote_by at t b d n (Err r) p e = ap (λ (k : ℕ). page k d) p ∙ ap (λ (o : Told ℕ × List ℕ). page (place_of at o.0) o.1) e

wrote-fits : (at : ℕ) (b t : List ℕ) → at + length t ≤ length b → page (at + length t) (put b at t) ≡ wrote (page at b) t
wrote-fits at b t h = wrote_by at t b _ _ (Ok (at + length t)) refl (room-written at _ t b refl _ (le-leb _ _ h) refl)

-- where the whole text fits, the pieces stand there joined, and the place is behind them
pub wrote_all-fits : (at : ℕ) (b : List ℕ) (ts : List (List ℕ)) → at + length (joined ts) ≤ length b
    → wrote_all (page at b) ts ≡ page (at + length (joined ts)) (put b at (joined ts))
wrote_all-fits at b [] h = ap₂ page (sym (add-zero at)) (sym (put_nil b at))
wrote_all-fits at b (t ∷ ts) h =
    ap (λ (p : ℕ × List ℕ). wrote_all p ts) (sym (wrote-fits at b t first))
    ∙ wrote_all-fits (at + length t) (put b at t) ts (omega (arith, long, length-put b at t first))
    ∙ ap₂ page end (put-put b at t (joined ts) first)
  where
    long : length (t ++ joined ts) ≡ length t + length (joined ts)
    long = length-append t (joined ts)

    first : at + length t ≤ length b
    first = omega (arith, long)

    end : at + length t + length (joined ts) ≡ at + length (t ++ joined ts)
    end = omega (arith, long)

wrote_all-append : (p : ℕ × List ℕ) (ts us : List (List ℕ)) → wrote_all (wrote_all p ts) us ≡ wrote_all p (ts ++ us)
wrote_all-append p [] us = refl
wrote_all-append p (t ∷ ts) us = wrote_all-append (wrote p t) ts us

-- pieces after pieces
pub wrote_all_then : (p q r : ℕ × List ℕ) (ts us : List (List ℕ)) → q ≡ wrote_all p ts → r ≡ wrote_all q us → r ≡ wrote_all p (ts ++ us)
wrote_all_then p q r ts us e f = f ∙ ap (λ (z : ℕ × List ℕ). wrote_all z us) e ∙ wrote_all-append p ts us

-- a piece, or two, after what stands there already
module _ (p q r : ℕ × List ℕ) (a : List ℕ) (e : q ≡ p) where
  pub then_one : r ≡ wrote q a → r ≡ wrote p a
  then_one f = f ∙ ap (λ (z : ℕ × List ℕ). wrote z a) e

  pub then_two : (b : List ℕ) → r ≡ wrote (wrote q a) b → r ≡ wrote (wrote p a) b
  then_two b f = f ∙ ap (λ (z : ℕ × List ℕ). wrote (wrote z a) b) e
