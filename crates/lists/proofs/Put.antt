-- Laws of a text put into a buffer. Assumes nothing.
use mathlib.Core.Path.{◌≡◌, sym, ap, ap₂, ◌∙◌}
use mathlib.Core.List.{List, [], ◌∷◌, ◌++◌, append_assoc}
use Prim.Native.Nat.{ℕ, suc, ◌+◌, ◌-◌, ◌≤◌, ◌<◌}
use native.Mathlib.Nat.{add-zero, add_assoc}
use native.Mathlib.Numerals.{add-one}
use native.Mathlib.Omega.{arith}
use lib.ListN.{length, take, drop, set, get_or, length-append, length-take, length-drop, length-set, take-append-drop, drop_of_length-le, get_or-append}
use lib.Seq.{take-suc-set, drop-set-lt, take-set-le, drop-cons, get_or-set_same, take_at, drop_at, drop-drop, length-take-le, get_or-take, get_or-drop, get_or-append-add}
use Rattle.lists.specs.Put.{put}

pub put_nil : (b : List ℕ) (at : ℕ) → put b at [] ≡ b
put_nil b at = rw add-zero (take-append-drop at b)

-- one byte, and the rest after it
pub put_cons : (b : List ℕ) (at x : ℕ) (xs : List ℕ) → at < length b → put (set b at x) (at + 1) xs ≡ put b at (x ∷ xs)
put_cons b at x xs h =
    ap₂ (λ (p q : List ℕ). p ++ (xs ++ q)) front back ∙ append_assoc (take at b) (x ∷ []) (xs ++ drop (at + suc (length xs)) b)
  where
    front : take (at + 1) (set b at x) ≡ take at b ++ (x ∷ [])
    front = rw add-one (take-suc-set b at x h)

    back : drop (at + 1 + length xs) (set b at x) ≡ drop (at + suc (length xs)) b
    back = drop-set-lt (at + 1 + length xs) b at x (omega arith) ∙ ap (λ (n : ℕ). drop n b) next
      where
        next : at + 1 + length xs ≡ at + suc (length xs)
        next = omega arith

-- the last byte, and the rest before it
pub put_snoc : (b : List ℕ) (at x : ℕ) (xs : List ℕ) → at + length xs < length b
    → put (set b (at + length xs) x) at xs ≡ put b at (xs ++ (x ∷ []))
put_snoc b at x xs h =
    ap₂ (λ (p q : List ℕ). p ++ (xs ++ q)) (take-set-le at b k x (omega arith)) back
    ∙ ap (λ (l : List ℕ). take at b ++ l) (sym (append_assoc xs (x ∷ []) (drop (at + length (xs ++ (x ∷ []))) b)))
  where
    k : ℕ
    k = at + length xs

    back : drop k (set b k x) ≡ x ∷ drop (at + length (xs ++ (x ∷ []))) b
    back =
        drop-cons (set b k x) k 0 (simp length-set h)
        ∙ ap₂ ◌∷◌ (get_or-set_same b k x 0 h) (drop-set-lt (suc k) b k x (omega arith) ∙ ap (λ (n : ℕ). drop n b) next)
      where
        next : suc k ≡ at + length (xs ++ (x ∷ []))
        next = omega (arith, length-append xs (x ∷ []))

pub length-put : (b : List ℕ) (at : ℕ) (t : List ℕ) → at + length t ≤ length b → length (put b at t) ≡ length b
length-put b at t h = simp (length-append, length-take, length-drop) (omega arith)

-- a text after a text
pub put-put : (b : List ℕ) (at : ℕ) (s t : List ℕ) → at + length s ≤ length b
    → put (put b at s) (at + length s) t ≡ put b at (s ++ t)
put-put b at s t h =
    ap₂ (λ (p q : List ℕ). p ++ (t ++ q)) front back
    ∙ append_assoc (take at b) s (t ++ drop (at + length (s ++ t)) b)
    ∙ ap (λ (l : List ℕ). take at b ++ l) (sym (append_assoc s t (drop (at + length (s ++ t)) b)))
  where
    long : length (take at b ++ s) ≡ at + length s
    long = simp (length-append, length-take) (omega arith)

    split : put b at s ≡ (take at b ++ s) ++ drop (at + length s) b
    split = sym (append_assoc (take at b) s (drop (at + length s) b))

    front : take (at + length s) (put b at s) ≡ take at b ++ s
    front = ap (take (at + length s)) split ∙ take_at (take at b ++ s) (drop (at + length s) b) (at + length s) long

    back : drop (at + length s + length t) (put b at s) ≡ drop (at + length (s ++ t)) b
    back =
        sym (drop-drop (length t) (at + length s) (put b at s))
        ∙ ap (drop (length t)) (ap (drop (at + length s)) split ∙ drop_at (take at b ++ s) (drop (at + length s) b) (at + length s) long)
        ∙ drop-drop (length t) (at + length s) b
        ∙ ap (λ (n : ℕ). drop n b) next
      where
        next : at + length s + length t ≡ at + length (s ++ t)
        next = omega (arith, length-append s t)

-- a turn of a loop that puts a text in from the front, and its end; whole is what comes out
pub put-turn : (out text whole : List ℕ) (at i : ℕ) → at + i < length out → i < length text → put out (at + i) (drop i text) ≡ whole
    → put (set out (at + i) (get_or text i 0)) (at + (i + 1)) (drop (i + 1) text) ≡ whole
put-turn out text whole at i h l e =
    rw (← add_assoc at i 1) (put_cons out (at + i) (get_or text i 0) (drop (i + 1) text) h ∙ ap (put out (at + i)) (sym next) ∙ e)
  where
    next : drop i text ≡ get_or text i 0 ∷ drop (i + 1) text
    next = rw (add-one, drop-cons text i 0)

pub put-end : (out text whole : List ℕ) (at i : ℕ) → length text ≤ i → put out (at + i) (drop i text) ≡ whole → out ≡ whole
put-end out text whole at i h e = sym (rw (drop_of_length-le text h) (put_nil out (at + i))) ∙ e

-- ---- a text that grows at its end

-- a byte after a text
pub set-put : (b : List ℕ) (at : ℕ) (t : List ℕ) (x n : ℕ) → n ≡ at + length t → n < length b → set (put b at t) n x ≡ put b at (t ++ (x ∷ []))
set-put b at t x n e h =
    rw e
    (sym (put_nil (set (put b at t) (at + length t) x) (at + length t + 1))
    ∙ put_cons (put b at t) (at + length t) x [] (omega (arith, length-put b at t (omega arith)))
    ∙ put-put b at t (x ∷ []) (omega arith))

-- ---- what stands in the buffer

pub get_or-put-before : (b : List ℕ) (at : ℕ) (t : List ℕ) (i : ℕ) → i < at → at ≤ length b → get_or (put b at t) i 0 ≡ get_or b i 0
get_or-put-before b at t i h l = get_or-append (take at b) _ 0 i (simp length-take (omega arith)) ∙ get_or-take at b i 0 h

pub get_or-put_in : (b : List ℕ) (at : ℕ) (t : List ℕ) (i : ℕ) → i < length t → at ≤ length b → get_or (put b at t) (at + i) 0 ≡ get_or t i 0
get_or-put_in b at t i h l =
    ap (λ (n : ℕ). get_or (put b at t) (n + i) 0) (sym (length-take-le at b l))
    ∙ get_or-append-add (take at b) (t ++ drop (at + length t) b) i 0
    ∙ get_or-append t _ 0 i h

pub get_or-put-after : (b : List ℕ) (at : ℕ) (t : List ℕ) (i : ℕ) → at + length t ≤ i → at ≤ length b → get_or (put b at t) i 0 ≡ get_or b i 0
get_or-put-after b at t i h l =
    ap (λ (n : ℕ). get_or (put b at t) n 0) split
    ∙ get_or-append-add (take at b) (t ++ drop (at + length t) b) (length t + (i - (at + length t))) 0
    ∙ get_or-append-add t (drop (at + length t) b) (i - (at + length t)) 0
    ∙ get_or-drop (at + length t) b (i - (at + length t)) 0
    ∙ ap (λ (n : ℕ). get_or b n 0) whole
  where
    split : i ≡ length (take at b) + (length t + (i - (at + length t)))
    split = omega (arith, length-take-le at b l)

    whole : at + length t + (i - (at + length t)) ≡ i
    whole = omega arith
