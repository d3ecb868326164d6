-- Lists with no element twice, and membership. Assumes nothing.
use mathlib.Core.Path.{◌≡◌, refl, sym, ap, ◌∙◌}
use mathlib.Core.Logic.{by_cases, ⊎_elim}
use mathlib.Core.Bool.{Bool, true, cond}
use mathlib.Core.List.Memᴰ
use mathlib.Core.List.{List, [], ◌∷◌, ◌++◌, Memᴰ, Sublistᴰ}
use Prim.Native.Nat.{ℕ, zero, suc, ◌≤◌, ◌<◌}
use native.Mathlib.Omega.{arith}
use native.Mathlib.Decide.{ℕ_discrete}
use lib.ListN.{length, get_or}
use lib.Dec.{eqb}
use borrow.Author.Tests.{eq-eqb, ne_eqb}
use Rattle.lists.specs.Count.{count}
use Rattle.lists.specs.Once.{Once}
use Rattle.lists.proofs.Count.{always, always_true, count_always, count_inj}

pub once-head : (x : ℕ) (xs : List ℕ) → Once (x ∷ xs) → Memᴰ x xs → ⊥
unfolding Once
once-head x xs h = h.0

pub once_tail : (x : ℕ) (xs : List ℕ) → Once (x ∷ xs) → Once xs
unfolding Once
once_tail x xs h = h.1

pub once_cons : (x : ℕ) (xs : List ℕ) → (Memᴰ x xs → ⊥) → Once xs → Once (x ∷ xs)
unfolding Once
once_cons x xs h o = (h, o)

pub once_nil : Once []
unfolding Once
once_nil = tt

pub once-append : (xs ys : List ℕ) → Once xs → Once ys → ((x : ℕ) → Memᴰ x xs → Memᴰ x ys → ⊥) → Once (xs ++ ys)
once-append [] ys o q h = q
once-append (x ∷ xs) ys o q h =
    once_cons x (xs ++ ys) (λ m. ⊎_elim (once-head x xs o) (h x (Memᴰ.head refl)) (Memᴰ.append_cases xs m))
    (once-append xs ys (once_tail x xs o) q (λ y m. h y (Memᴰ.tail m)))

pub get_or_mem : (l : List ℕ) (p : ℕ) → p < length l → Memᴰ (get_or l p 0) l
get_or_mem [] p h = absurd (omega arith)
get_or_mem (x ∷ l) zero h = Memᴰ.head refl
get_or_mem (x ∷ l) (suc p) h = Memᴰ.tail (get_or_mem l p (omega arith))

pub once_inj : (l : List ℕ) → Once l → (p q : ℕ) → p < length l → q < length l → get_or l p 0 ≡ get_or l q 0 → p ≡ q
once_inj [] o p q hp hq e = absurd (omega arith)
once_inj (x ∷ l) o zero zero hp hq e = refl
once_inj (x ∷ l) o zero (suc q) hp hq e = absurd (once-head x l o (Memᴰ.cast e (get_or_mem l q (omega arith))))
once_inj (x ∷ l) o (suc p) zero hp hq e = absurd (once-head x l o (Memᴰ.cast (sym e) (get_or_mem l p (omega arith))))
once_inj (x ∷ l) o (suc p) (suc q) hp hq e = ap suc (once_inj l (once_tail x l o) p q (omega arith) (omega arith) e)

-- where x stands
pub place : List ℕ → ℕ → ℕ
place [] x = 0
place (y ∷ l) x = cond (eqb x y) 0 (suc (place l x))

pub place_at : (l : List ℕ) (x : ℕ) → Memᴰ x l → (place l x < length l) × (get_or l (place l x) 0 ≡ x)
unfolding place
place_at [] x m = absurd (Memᴰ.not-nil m)
place_at (y ∷ l) x m =
    by_cases (ℕ_discrete x y)
    (λ e. rw (eq-eqb x y e) (omega arith, sym e))
    (λ ne.
    let r = place_at l x (⊎_elim (λ e. absurd (ne e)) (λ q. q) (Memᴰ.cases_cons m)) in
    rw (ne_eqb x y ne) (omega (arith, r.0), r.1))

pub inj_once : (l : List ℕ) → ((p q : ℕ) → p < length l → q < length l → get_or l p 0 ≡ get_or l q 0 → p ≡ q) → Once l
inj_once [] h = once_nil
inj_once (x ∷ l) h =
    once_cons x l (λ m. let r = place_at l x m in omega (arith, h 0 (suc (place l x)) (omega arith) (omega (arith, r.0)) (sym r.1)))
    (inj_once l (λ p q hp hq e. omega (arith, h (suc p) (suc q) (omega arith) (omega arith) e)))

pub mem_dec : (x : ℕ) (l : List ℕ) → Dec (Memᴰ x l)
mem_dec x [] = no (λ m. Memᴰ.not-nil m)
mem_dec x (y ∷ l) =
    by_cases (ℕ_discrete x y)
    (λ e. yes (Memᴰ.head e))
    (λ ne. by_cases (mem_dec x l) (λ m. yes (Memᴰ.tail m)) (λ nm. no (λ m. ⊎_elim ne nm (Memᴰ.cases_cons m))))

-- such a list is no longer than the count of what its elements pass
pub once-count : (l : List ℕ) → Once l → (s : ℕ) (P : ℕ → Bool) → ((x : ℕ) → Memᴰ x l → (x < s) × (P x ≡ true)) → length l ≤ count P s
once-count l o s P h =
    let c : count always (length l) ≤ count P s =
    count_inj (length l) always s P (λ (p : ℕ). get_or l p 0) (λ p b _. h _ (get_or_mem l p b)) (λ p q hp hq _ _ e. once_inj l o p q hp hq e) in
    omega (arith, c, count_always (length l))

-- and as long, if all that pass are in it
pub count-once : (l : List ℕ) (s : ℕ) (P : ℕ → Bool) → ((x : ℕ) → x < s → P x ≡ true → Memᴰ x l) → count P s ≤ length l
count-once l s P h =
    let c : count P s ≤ count always (length l) =
    count_inj s P (length l) always (place l) (λ k b p. ((place_at l k (h k b p)).0, always_true _))
    (λ j k hj hk pj pk e. sym (place_at l j (h j hj pj)).1 ∙ ap (λ (m : ℕ). get_or l m 0) e ∙ (place_at l k (h k hk pk)).1) in
    omega (arith, c, count_always (length l))

-- ---- parts of a list, in order

pub sublist_mem : {a b : List ℕ} → Sublistᴰ a b → (x : ℕ) → Memᴰ x a → Memᴰ x b
sublist_mem Sublistᴰ.slnil x m = m
sublist_mem (Sublistᴰ.cons s) x m = Memᴰ.tail (sublist_mem s x m)
sublist_mem (Sublistᴰ.cons-cons e s) x m = ⊎_elim (λ q. Memᴰ.head (q ∙ e)) (λ r. Memᴰ.tail (sublist_mem s x r)) (Memᴰ.cases_cons m)

pub once_sublist : {a b : List ℕ} → Sublistᴰ a b → Once b → Once a
once_sublist Sublistᴰ.slnil o = o
once_sublist (Sublistᴰ.cons {a = x} {l₂ = b} s) o = once_sublist s (once_tail x b o)
once_sublist (Sublistᴰ.cons-cons {a = x} {b = y} {l₁ = a} {l₂ = b} e s) o =
    once_cons x a (λ m. once-head y b o (Memᴰ.cast (sym e) (sublist_mem s x m))) (once_sublist s (once_tail y b o))

-- ---- lengths by members

-- a list with no element twice is no longer than one that has all its elements
pub length_inside : (a b : List ℕ) → Once a → ((x : ℕ) → Memᴰ x a → Memᴰ x b) → length a ≤ length b
length_inside a b o h =
    let c : count always (length a) ≤ count always (length b) =
    count_inj (length a) always (length b) always (λ (p : ℕ). place b (get_or a p 0)) (λ p l _. ((place_at b _ (h _ (get_or_mem a p l))).0, always_true _))
    (λ p q hp hq _ _ e.
    once_inj a o p q hp hq
    (sym (place_at b _ (h _ (get_or_mem a p hp))).1 ∙ ap (λ (m : ℕ). get_or b m 0) e ∙ (place_at b _ (h _ (get_or_mem a q hq))).1)) in
    omega (arith, c, count_always (length a), count_always (length b))

-- two such lists with the same elements are equally long
pub length-lists-same : (a b : List ℕ) → Once a → Once b → ((x : ℕ) → Memᴰ x a → Memᴰ x b) → ((x : ℕ) → Memᴰ x b → Memᴰ x a) → length a ≡ length b
length-lists-same a b oa ob f g = omega (arith, length_inside a b oa f, length_inside b a ob g)
