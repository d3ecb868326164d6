-- What writing into a lent buffer answers and leaves, by whether the bytes fit, and after other bytes. Assumes nothing.
use mathlib.Core.Path.{◌≡◌, refl, sym, ap₂, ◌∙◌}
use mathlib.Core.Bool.{Bool, true, false, cond}
use mathlib.Core.List.{List, ◌++◌}
use Rattle.std.specs.Prelude.{Result, Ok, Err}
use Prim.Native.Nat.{ℕ, ◌+◌, ◌≤◌, ◌<◌}
use native.Mathlib.Omega.{arith}
use lib.Dec.{leb}
use lib.ListN.{length, length-append}
use borrow.Author.Tests.{leb-false, le-leb, lt-leb}
use Rattle.lists.specs.Put.{put}
use Rattle.lists.proofs.Put.{put-put, length-put}
use Rattle.refusal.specs.declared.Refusal.{Refusal}
use Rattle.refusal.specs.Refusals.{number_of}
use Rattle.writing.specs.Told.{Told, tells, refused}
use Rattle.writing.specs.Writing.{told_of, written, written_after}
use Rattle.writing.proofs.Told.{never, refused-same, both}

-- ---- from whether they fit to what is answered

module _ (at : ℕ) (t b : List ℕ) where
  pub written-fits : at + length t ≤ length b → written at t b ≡ (tells (at + length t), put b at t)
  unfolding written
  written-fits h = rw (le-leb (at + length t) (length b) h)

  pub written_short : length b < at + length t → written at t b ≡ (refused 6, b)
  unfolding written
  written_short h = rw (lt-leb (at + length t) (length b) h)

-- the same by what `has_room` answers, of bytes that were counted
module _ (at count : ℕ) (t b : List ℕ) (long : count ≡ length t) where
  pub room-written : (d : List ℕ) → leb (at + count) (length b) ≡ true → d ≡ put b at t → ◌≡◌ {A = Told ℕ × List ℕ} (tells (at + count), d) (written at t b)
  unfolding written
  room-written d h q = rw (q, ← long, h)

  pub no_room-written : leb (at + count) (length b) ≡ false → ◌≡◌ {A = Told ℕ × List ℕ} (refused 6, b) (written at t b)
  unfolding written
  no_room-written h = rw (← long, h)

-- ---- from what is answered to whether they fit

-- what a refusal says, of the bytes, the buffer before and the buffer after
module _ (at : ℕ) (t b d : List ℕ) (n : ℕ) where
  refused_cases : (fit : Bool) → leb (at + length t) (length b) ≡ fit → ◌≡◌ {A = Told ℕ × List ℕ} (refused n, d) (cond fit (tells (at + length t), put b at t) (refused 6, b))
      → (length b < at + length t) × ((n ≡ 6) × (d ≡ b))
  refused_cases true h e = never (both e).0
  refused_cases false h e = let p = both e in (leb-false _ _ h, (refused-same p.0, p.1))

  pub written-refused : ◌≡◌ {A = Told ℕ × List ℕ} (refused n, d) (written at t b) → (length b < at + length t) × ((n ≡ 6) × (d ≡ b))
  unfolding written
  written-refused e = refused_cases (leb (at + length t) (length b)) refl e

-- ---- after other bytes

pub then_end : (t b : List ℕ) {w : Result ℕ Refusal} {n : ℕ} → w ≡ Ok n → written n t b ≡ written_after (told_of w) t b
then_end t b e = rw e

pub then_refused : (t b : List ℕ) {w : Result ℕ Refusal} {r : Refusal} → w ≡ Err r → ◌≡◌ {A = Told ℕ × List ℕ} (refused (number_of r), b) (written_after (told_of w) t b)
then_refused t b e = rw e

-- what is written after what fits is written with it
pub written_then : (at : ℕ) (s t b : List ℕ) → at + length (s ++ t) ≤ length b → {o : Told ℕ} {d : List ℕ} → (o, d) ≡ written at s b → written_after o t d ≡ written at (s ++ t) b
written_then at s t b h {o} {d} e =
    let long : length (s ++ t) ≡ length s + length t = length-append s t in
    let first = both (e ∙ written-fits at s b (omega arith)) in
    ap₂ (λ (x : Told ℕ) (y : List ℕ). written_after x t y) first.0 first.1
    ∙ written-fits (at + length s) t (put b at s) (rw (length-put b at s (omega arith)) (omega arith))
    ∙ ap₂ (λ (n : ℕ) (y : List ℕ). (tells n, y)) (omega arith) (put-put b at s t (omega arith))
    ∙ sym (written-fits at (s ++ t) b h)
