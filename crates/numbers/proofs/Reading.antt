-- What is written reads back, and what is read was written so: for any largest number, and so for every width. Assumes nothing.
use Prim.Native.Nat.{ℕ, zero, suc, ◌+◌, ◌-◌, ◌*◌, ◌/◌, ◌%◌, ◌^◌, ◌≤◌, ◌<◌}
use mathlib.Core.Path.{◌≡◌, sym, ap, ap₂, ◌∙◌}
use mathlib.Core.List.{List, [], ◌∷◌, ◌++◌}
use mathlib.Core.Logic.{⊎_elim}
use native.Mathlib.Nat.{mul-le-mul_right}
use native.Mathlib.Omega.{arith}
use lib.ListN.{length, take, drop}
use lib.Seq.{drop-append_seam, drop-drop, get_or-drop, length-take-le}
use Rattle.lists.specs.Put.{put}
use Rattle.lists.proofs.Tests.{lt_or_le}
use Rattle.writing.specs.Told.{Told, tells}
use Rattle.numbers.specs.Numbers.{worth, least, read_from, number_at, groups_of, encoded, Bytes}
use Rattle.writing.proofs.Told.{never, told, both}
use Rattle.numbers.proofs.Numbers.{part, worth-next, least-small, least-next, regroup, read-last, read_more, by_byte}
use Rattle.numbers.proofs.Encoded.{groups_last, groups_more, encoded-last, encoded-more}

-- ---- decode of encode

more-back : (limit x v g at : ℕ) (t s : List ℕ) → 128 ≤ x → v + x * worth g ≤ limit
    → read_from limit (t ++ s) (at + 1) (part (v + x % 128 * worth g) (g + 1)) ≡ tells (v + x % 128 * worth g + x / 128 * worth (g + 1), at + 1 + length t)
    → read_from limit ((x % 128 + 128) ∷ (t ++ s)) at (part v g) ≡ tells (v + x * worth g, at + suc (length t))
more-back limit x v g at t s h i e =
    read_more limit v g (x % 128 + 128) at (t ++ s) (omega (arith, least-small g)) (omega (arith, mul-le-mul_right (worth g) small)) (omega arith)
    ∙ ap (λ (y : ℕ). read_from limit (t ++ s) (at + 1) (part (v + y * worth g) (g + 1))) low_part
    ∙ e
    ∙ ap₂ (λ (y n : ℕ). tells (y, n)) (omega (arith, regroup x (worth g), ap (λ (k : ℕ). x / 128 * k) (worth-next g))) (omega arith)
  where
    small : x % 128 + 128 ≤ x
    small = omega arith

    low_part : (x % 128 + 128) % 128 ≡ x % 128
    low_part = omega arith

groups_back : (limit k x v g at : ℕ) (s : List ℕ) → x < k → least g ≤ x → v + x * worth g ≤ limit
    → read_from limit (groups_of k x ++ s) at (part v g) ≡ tells (v + x * worth g, at + length (groups_of k x))
groups_back limit zero x v g at s f l h = absurd (omega arith)
groups_back limit (suc k) x v g at s f l h =
    ⊎_elim (λ i. rw (groups_last k x i) (read-last limit v g x at s l h i))
    (λ i. rw (groups_more k x i) (more-back limit x v g at (groups_of k (x / 128)) s i h
    (groups_back limit k (x / 128) (v + x % 128 * worth g) (g + 1) (at + 1) s (omega arith) (rw (least-next g) (omega arith))
    (omega (arith, regroup x (worth g), ap (λ (y : ℕ). x / 128 * y) (worth-next g))))))
    (lt_or_le x 128)

-- at any width, where the bytes go on with the shortest form of n, n is read, and the place is the one after it
pub decode_at : (bits n : ℕ) (s rest : List ℕ) (at : ℕ) → n < 2 ^ bits → drop at s ≡ encoded n ++ rest
    → (number_at bits s at ≡ tells (n, at + length (encoded n))) × (drop (at + length (encoded n)) s ≡ rest)
unfolding number_at encoded
decode_at bits n s rest at h e = (
  ap (λ (t : List ℕ). read_from (2 ^ bits - 1) t at (part 0 0)) e
      ∙ groups_back (2 ^ bits - 1) (suc n) n 0 0 at rest (omega arith) (omega arith) (omega arith)
      ∙ ap (λ (v : ℕ). tells (v, at + length (groups_of (suc n) n))) (omega arith),
  sym (drop-drop (length (groups_of (suc n) n)) at s) ∙ ap (drop (length (groups_of (suc n) n))) e ∙ drop-append_seam (groups_of (suc n) n) rest,
)

-- so the shortest form of n reads as n, after any bytes and before any others
pub decode_encode : (bits n : ℕ) (front rest : List ℕ) → n < 2 ^ bits
    → number_at bits (front ++ (encoded n ++ rest)) (length front) ≡ tells (n, length front + length (encoded n))
decode_encode bits n front rest h =
    (decode_at bits n (front ++ (encoded n ++ rest)) rest (length front) h (drop-append_seam front (encoded n ++ rest))).0

-- and so it does where it was put into a buffer
pub reads-back : (bits n at : ℕ) (b : List ℕ) → n < 2 ^ bits → at + length (encoded n) ≤ length b
    → number_at bits (put b at (encoded n)) at ≡ tells (n, at + length (encoded n))
reads-back bits n at b f h =
    let long : length (take at b) ≡ at = length-take-le at b (omega arith) in
    rw long at (decode_encode bits n (take at b) (drop (at + length (encoded n)) b) f)

-- ---- encode of decode

-- s starts with the shortest form of some x, which the groups so far make v, and n is the place after it
record Shortest (s : List ℕ) (w g at v n : ℕ) : Type 0 where
  x : ℕ
  rest : List ℕ
  starts : s ≡ encoded x ++ rest
  stands : n ≡ at + length (encoded x)
  sums : v ≡ w + x * worth g
  low_end : least g ≤ x

last_is : (b w g at v n : ℕ) (s : List ℕ) → least g ≤ b → b < 128 → ◌≡◌ {A = Told (ℕ × ℕ)} (tells (w + b * worth g, at + 1)) (tells (v, n)) → Shortest (b ∷ s) w g at v n
last_is b w g at v n s l i e =
    let t = both (told e) in
    record { x = b; rest = s; starts = rw (encoded-last b i); stands = rw (encoded-last b i) (sym t.1); sums = sym t.0; low_end = l }

more_is : (b w g at v n : ℕ) (s : List ℕ) → b < 256 → 128 ≤ b → Shortest s (w + b % 128 * worth g) (g + 1) (at + 1) v n → Shortest (b ∷ s) w g at v n
more_is b w g at v n s f i r =
    let low_end : 1 ≤ r.x = rw (least-next g) at r.low_end in
    let y : ℕ = b % 128 + r.x * 128 in
    let digit : y % 128 + 128 ≡ b = omega arith in
    let others : y / 128 ≡ r.x = omega arith in
    let form : encoded y ≡ b ∷ encoded r.x = encoded-more y (omega arith) ∙ ap₂ (λ (d q : ℕ). d ∷ encoded q) digit others in
    let sum : b % 128 * worth g + r.x * (worth g * 128) ≡ y * worth g = ap₂ (λ (d q : ℕ). d * worth g + q * (worth g * 128)) (omega arith) (sym others) ∙ regroup y (worth g) in
    record {
      x = y;
      rest = r.rest;
      starts = rw form (ap (λ (t : List ℕ). b ∷ t) r.starts);
      stands = rw form (omega (arith, r.stands));
      sums = omega (arith, r.sums, sum, ap (λ (k : ℕ). r.x * k) (worth-next g));
      low_end = omega (arith, least-small g);
    }

shortest : (limit : ℕ) (s : List ℕ) (w g at v n : ℕ) → Bytes s → read_from limit s at (part w g) ≡ tells (v, n) → Shortest s w g at v n
unfolding read_from
shortest limit [] w g at v n f = never
shortest limit (b ∷ s) w g at v n f =
    by_byte limit w g b at s (λ r. r ≡ tells (v, n) → Shortest (b ∷ s) w g at v n) (λ l e. never e) (λ l h e. never e)
    (λ l h i e. last_is b w g at v n s l i e)
    (λ l h i e. more_is b w g at v n s (f 0) i (shortest limit s (w + b % 128 * worth g) (g + 1) (at + 1) v n (λ k. f (suc k)) e))

-- at any width, what reads as a number is that number's shortest form, and the place is the one after it
pub encode_decode : (bits : ℕ) (s : List ℕ) (at v n : ℕ) → Bytes s → number_at bits s at ≡ tells (v, n)
    → (drop at s ≡ encoded v ++ drop n s) × (n ≡ at + length (encoded v))
unfolding number_at
encode_decode bits s at v n f e =
    let r : Shortest (drop at s) 0 0 at v n = shortest (2 ^ bits - 1) (drop at s) 0 0 at v n (λ i. rw get_or-drop (f (at + i))) e in
    let xv : r.x ≡ v = omega (arith, r.sums) in
    let stands : n ≡ at + length (encoded v) = rw xv at r.stands in
    let starts : drop at s ≡ encoded v ++ r.rest = rw xv at r.starts in
    let behind : drop n s ≡ r.rest = ap (λ (k : ℕ). drop k s) stands ∙ sym (drop-drop (length (encoded v)) at s) ∙ ap (drop (length (encoded v))) starts ∙ drop-append_seam (encoded v) r.rest in
    (rw behind starts, stands)
