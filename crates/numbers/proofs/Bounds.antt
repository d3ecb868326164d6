-- What is read fits its width, and its place is within the bytes; only 10 and 11 are refused; and more bytes change nothing but a 10.
-- Assumes nothing.
use Prim.Native.Nat.{ℕ, suc, ◌+◌, ◌-◌, ◌*◌, ◌%◌, ◌^◌, ◌≤◌, ◌<◌}
use mathlib.Core.Path.{◌≡◌, refl, sym, ap, ◌∙◌}
use mathlib.Core.List.{List, [], ◌∷◌, ◌++◌}
use mathlib.Core.Logic.{◌⊎◌, inl, inr, ⊎_elim}
use native.Mathlib.Omega.{arith}
use lib.ListN.{length, drop, length-drop, drop_of_length-le}
use lib.Seq.{drop-append-le}
use lib.Pow.{pow_pos}
use Rattle.lists.proofs.Tests.{lt_or_le}
use Rattle.writing.specs.Told.{Told, tells, refused}
use Rattle.numbers.specs.declared.Partial.{Partial}
use Rattle.numbers.specs.Numbers.{Step, whole, more, worth, take_of, stepped, read_from, number_at, unread}
use Rattle.numbers.proofs.Numbers.{part, by_byte}
use Rattle.writing.proofs.Told.{never, told, refused-same, both}

-- ---- an accepted number

accepted : (limit : ℕ) (s : List ℕ) (w g at v n : ℕ) → read_from limit s at (part w g) ≡ tells (v, n) → (v ≤ limit) × ((at < n) × (n ≤ at + length s))
unfolding read_from
accepted limit [] w g at v n = never
accepted limit (b ∷ s) w g at v n =
    by_byte limit w g b at s (λ r. r ≡ tells (v, n) → (v ≤ limit) × ((at < n) × (n ≤ at + suc (length s)))) (λ l e. never e) (λ l h e. never e)
    (λ l h i e. let t = both (told e) in (omega (arith, t.0), (omega (arith, t.1), omega (arith, t.1))))
    (λ l h i e. let t = accepted limit s (w + b % 128 * worth g) (g + 1) (at + 1) v n e in (t.0, (omega (arith, t.1.0), omega (arith, t.1.1))))

module _ (bits : ℕ) (s : List ℕ) (at v n : ℕ) (e : number_at bits s at ≡ tells (v, n)) where
  found : (v ≤ 2 ^ bits - 1) × ((at < n) × (n ≤ at + length (drop at s)))
  unfolding number_at
  found = accepted (2 ^ bits - 1) (drop at s) 0 0 at v n e

  -- an accepted number fits its width
  pub number_fits : v < 2 ^ bits
  number_fits = omega (arith, found.0, pow_pos bits)

  -- the place after it is further on, and within the bytes
  pub number-moves : at < n
  number-moves = found.1.0

  pub number-within : n ≤ length s
  number-within = omega (arith, found.1.0, found.1.1, length-drop at s)

-- ---- the refusals

refusals : (limit : ℕ) (s : List ℕ) (w g at k : ℕ) → read_from limit s at (part w g) ≡ refused k → (k ≡ 10) ⊎ (k ≡ 11)
unfolding read_from
refusals limit [] w g at k = λ e. inl (sym (refused-same e))
refusals limit (b ∷ s) w g at k =
    by_byte limit w g b at s (λ r. r ≡ refused k → (k ≡ 10) ⊎ (k ≡ 11)) (λ l e. inr (sym (refused-same e))) (λ l h e. inr (sym (refused-same e)))
    (λ l h i e. never (sym e)) (λ l h i e. refusals limit s (w + b % 128 * worth g) (g + 1) (at + 1) k e)

-- a number is refused with 10 or 11 only
pub number_refusals : (bits : ℕ) (s : List ℕ) (at k : ℕ) → number_at bits s at ≡ refused k → (k ≡ 10) ⊎ (k ≡ 11)
unfolding number_at
number_refusals bits s at k e = refusals (2 ^ bits - 1) (drop at s) 0 0 at k e

-- ---- more bytes

by_step : (n : ℕ) (r : Told Step) (f h : Partial → Told (ℕ × ℕ)) → ((p : Partial) → (f p ≡ refused 10) ⊎ (h p ≡ f p)) → (stepped n r f ≡ refused 10) ⊎ (stepped n r h ≡ stepped n r f)
by_step n (tells (whole v)) f h rest = inr refl
by_step n (tells (more p)) f h rest = rest p
by_step n (refused k) f h rest = inr refl

longer : (limit : ℕ) (s t : List ℕ) (at : ℕ) (p : Partial) → (read_from limit s at p ≡ refused 10) ⊎ (read_from limit (s ++ t) at p ≡ read_from limit s at p)
unfolding read_from
longer limit [] t at p = inl refl
longer limit (b ∷ s) t at p =
    by_step (at + 1) (take_of limit p b) (λ q. read_from limit s (at + 1) q) (λ q. read_from limit (s ++ t) (at + 1) q) (λ q. longer limit s t (at + 1) q)

-- bytes that are the beginning of others read as those do, unless they read as 10
pub number-longer : (bits : ℕ) (s t : List ℕ) (at : ℕ) → (number_at bits s at ≡ refused 10) ⊎ (number_at bits (s ++ t) at ≡ number_at bits s at)
unfolding number_at read_from
number-longer bits s t at =
    ⊎_elim (λ h. inl (ap (λ (l : List ℕ). read_from (2 ^ bits - 1) l at unread) (drop_of_length-le s {i = at} (omega arith)))) (λ h.
    ⊎_elim inl (λ e. inr (ap (λ (l : List ℕ). read_from (2 ^ bits - 1) l at unread) (drop-append-le at s t h) ∙ e)) (longer (2 ^ bits - 1) (drop at s) t at unread))
    (lt_or_le (length s) at)

-- so 11 stays 11, and a number stays that number, whatever follows
pub form_stays : (bits : ℕ) (s t : List ℕ) (at : ℕ) → number_at bits s at ≡ refused 11 → number_at bits (s ++ t) at ≡ refused 11
form_stays bits s t at e = ⊎_elim (λ h. let z : ◌≡◌ {A = ℕ} 10 11 = refused-same (sym h ∙ e) in absurd (omega arith)) (λ h. h ∙ e) (number-longer bits s t at)

pub number_stays : (bits : ℕ) (s t : List ℕ) (at v n : ℕ) → number_at bits s at ≡ tells (v, n) → number_at bits (s ++ t) at ≡ tells (v, n)
number_stays bits s t at v n e = ⊎_elim (λ h. never (sym h ∙ e)) (λ h. h ∙ e) (number-longer bits s t at)
