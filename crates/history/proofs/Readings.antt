-- The two lists of a reading follow what each change does to one key, and have no key twice: by induction on the list,
-- a test of two keys at a time. Assumes nothing.
use mathlib.Core.Path.{◌≡◌, refl, sym, ap, ◌∙◌}
use mathlib.Core.Logic.{◌≢◌, by_cases, ⊎_elim}
use mathlib.Core.Bool.{Bool, true, false, cond}
use mathlib.Core.List.Memᴰ
use mathlib.Core.List.{List, [], ◌∷◌, Memᴰ, Sublistᴰ}
use mathlib.Core.Option.{Option, none, some}
use Prim.Native.Nat.{ℕ, suc}
use native.Mathlib.Omega.{arith}
use native.Mathlib.Decide.{ℕ_discrete}
use lib.ListN.{length}
use lib.Dec.{eqb}
use borrow.Author.Tests.{eqb-true, eq-eqb, ne_eqb}
use Rattle.lists.specs.Among.{among}
use Rattle.lists.proofs.Tests.{split, true_false}
use Rattle.lists.specs.Once.{Once}
use Rattle.lists.proofs.Once.{once-head, once_tail, once_cons, once_sublist}
use Rattle.keys.specs.Keys.{idx}
use Rattle.history.specs.Reading.{Change, nothing, issued, returned, revalued, dies, parts, sieved, Reading, without, except, valued, sifted, changed, value_in, dropped_at, keys_of}
use Rattle.history.proofs.Changes.{on_some, sieve, lives_after, detached_after}

-- ---- one entry: at its own key, and at another

value_same : (e : ℕ × ℕ) (l : List (ℕ × ℕ)) (k : ℕ) → k ≡ e.0 → value_in (e ∷ l) k ≡ some e.1
unfolding value_in
value_same e l k q = rw (eq-eqb k e.0 q)

value-other : (e : ℕ × ℕ) (l : List (ℕ × ℕ)) (k : ℕ) → k ≢ e.0 → value_in (e ∷ l) k ≡ value_in l k
unfolding value_in
value-other e l k ne = rw (ne_eqb k e.0 ne)

in_same : (j : ℕ) (l : List ℕ) (k : ℕ) → k ≡ j → among k (j ∷ l) ≡ true
unfolding among
in_same j l k q = rw (eq-eqb k j q)

in_other : (j : ℕ) (l : List ℕ) (k : ℕ) → k ≢ j → among k (j ∷ l) ≡ among k l
unfolding among
in_other j l k ne = rw (ne_eqb k j ne)

-- ---- members

pub mem_value : (l : List (ℕ × ℕ)) (k : ℕ) → Memᴰ k (keys_of l) → (x : ℕ) × (value_in l k ≡ some x)
mem_value [] k m = absurd (Memᴰ.not-nil m)
mem_value (e ∷ l) k m =
    by_cases (ℕ_discrete k e.0)
    (λ q. (e.1, value_same e l k q))
    (λ ne.
    let r = mem_value l k (⊎_elim (λ q. absurd (ne q)) (λ w. w) (Memᴰ.cases_cons m)) in
    (r.0, value-other e l k ne ∙ r.1))

pub value_mem : (l : List (ℕ × ℕ)) (k x : ℕ) → value_in l k ≡ some x → Memᴰ k (keys_of l)
unfolding value_in
value_mem [] k x e = let z : ◌≡◌ {A = ℕ} 0 1 = cc in absurd (omega arith)
value_mem (e ∷ l) k x q =
    by_cases (ℕ_discrete k e.0)
    (λ p. Memᴰ.head p)
    (λ ne. Memᴰ.tail (value_mem l k x (sym (value-other e l k ne) ∙ q)))

pub value_none : (l : List (ℕ × ℕ)) (k : ℕ) → value_in l k ≡ none → Memᴰ k (keys_of l) → ⊥
value_none l k e m = let r = mem_value l k m in let q : some r.0 ≡ none = sym r.1 ∙ e in let z : ◌≡◌ {A = ℕ} 0 1 = cc in omega arith

pub none-value : (l : List (ℕ × ℕ)) (k : ℕ) → (Memᴰ k (keys_of l) → ⊥) → value_in l k ≡ none
unfolding value_in
none-value [] k h = refl
none-value (e ∷ l) k h = value-other e l k (λ q. h (Memᴰ.head q)) ∙ none-value l k (λ m. h (Memᴰ.tail m))

pub in_mem : (l : List ℕ) (k : ℕ) → among k l ≡ true → Memᴰ k l
unfolding among
in_mem [] k e = true_false e refl
in_mem (j ∷ l) k e =
    by_cases (ℕ_discrete k j)
    (λ q. Memᴰ.head q)
    (λ ne. Memᴰ.tail (in_mem l k (sym (in_other j l k ne) ∙ e)))

pub mem_in : (l : List ℕ) (k : ℕ) → Memᴰ k l → among k l ≡ true
mem_in [] k m = absurd (Memᴰ.not-nil m)
mem_in (j ∷ l) k m =
    by_cases (ℕ_discrete k j)
    (λ q. in_same j l k q)
    (λ ne. in_other j l k ne ∙ mem_in l k (⊎_elim (λ q. absurd (ne q)) (λ w. w) (Memᴰ.cases_cons m)))

-- ---- what each change of a list does to one key

-- one key differs from the rest
pick {ℓ} : {A : Type ℓ} (k j : ℕ) (a b x : A) → (k ≡ j → x ≡ a) → (k ≢ j → x ≡ b) → x ≡ cond (eqb k j) a b
pick k j a b x same other = by_cases (ℕ_discrete k j) (λ e. rw (eq-eqb k j e) (same e)) (λ ne. rw (ne_eqb k j ne) (other ne))

without-same : (j k : ℕ) (l : List (ℕ × ℕ)) → k ≡ j → value_in (without j l) k ≡ none
unfolding without value_in
without-same j k [] q = refl
without-same j k (e ∷ l) q =
    by_cases (ℕ_discrete j e.0)
    (λ p. rw (eq-eqb j e.0 p) (without-same j k l q))
    (λ ne. rw (ne_eqb j e.0 ne) (value-other e (without j l) k (λ p. ne (sym q ∙ p)) ∙ without-same j k l q))

without_other : (j k : ℕ) (l : List (ℕ × ℕ)) → k ≢ j → value_in (without j l) k ≡ value_in l k
unfolding without value_in
without_other j k [] ne = refl
without_other j k (e ∷ l) ne =
    by_cases (ℕ_discrete j e.0)
    (λ p. rw (eq-eqb j e.0 p) (without_other j k l ne ∙ sym (value-other e l k (λ q. ne (q ∙ sym p)))))
    (λ np. rw (ne_eqb j e.0 np) (ap (cond (eqb k e.0) (some e.1)) (without_other j k l ne)))

pub value-without : (j k : ℕ) (l : List (ℕ × ℕ)) → value_in (without j l) k ≡ cond (eqb k j) none (value_in l k)
value-without j k l = pick k j none (value_in l k) (value_in (without j l) k) (without-same j k l) (without_other j k l)

valued_same : (j x k : ℕ) (l : List (ℕ × ℕ)) → k ≡ j → value_in (valued j x l) k ≡ on_some x (value_in l k)
unfolding valued value_in
valued_same j x k [] q = refl
valued_same j x k (e ∷ l) q =
    by_cases (ℕ_discrete j e.0)
    (λ p. rw (eq-eqb j e.0 p, eq-eqb k j q, eq-eqb k e.0 (q ∙ p)))
    (λ np. rw (ne_eqb j e.0 np, ne_eqb k e.0 (λ p. np (sym q ∙ p))) (valued_same j x k l q))

valued-other : (j x k : ℕ) (l : List (ℕ × ℕ)) → k ≢ j → value_in (valued j x l) k ≡ value_in l k
unfolding valued value_in
valued-other j x k [] ne = refl
valued-other j x k (e ∷ l) ne =
    by_cases (ℕ_discrete j e.0)
    (λ p. rw (eq-eqb j e.0 p, ne_eqb k j ne, ne_eqb k e.0 (λ q. ne (q ∙ sym p))) (valued-other j x k l ne))
    (λ np. rw (ne_eqb j e.0 np) (ap (cond (eqb k e.0) (some e.1)) (valued-other j x k l ne)))

pub value-valued : (j x k : ℕ) (l : List (ℕ × ℕ)) → value_in (valued j x l) k ≡ cond (eqb k j) (on_some x (value_in l k)) (value_in l k)
value-valued j x k l = pick k j (on_some x (value_in l k)) (value_in l k) (value_in (valued j x l) k) (valued_same j x k l) (valued-other j x k l)

-- a dropped entry uncovers no second one of its key
pub value-sifted : (keeps : ℕ → ℕ → Bool) (k : ℕ) (l : List (ℕ × ℕ)) → Once (keys_of l) → value_in (sifted keeps l) k ≡ sieve keeps (idx k) (value_in l k)
unfolding sifted value_in
value-sifted keeps k [] o = refl
value-sifted keeps k (e ∷ l) o =
    let ih = value-sifted keeps k l (once_tail e.0 (keys_of l) o) in
    by_cases (ℕ_discrete k e.0)
    (λ q.
    let gone : value_in l k ≡ none = none-value l k (λ m. once-head e.0 (keys_of l) o (Memᴰ.cast (sym q) m)) in
    split (keeps (idx e.0) e.1)
    (λ y. rw (y, eq-eqb k e.0 q, ap idx q, y))
    (λ y. rw (y, eq-eqb k e.0 q, ap idx q, y) (ih ∙ ap (sieve keeps (idx k)) gone)))
    (λ ne. rw (ne_eqb k e.0 ne) (split (keeps (idx e.0) e.1)
    (λ y. rw y (value-other e (sifted keeps l) k ne ∙ ih))
    (λ y. rw y ih)))

except-same : (j k : ℕ) (l : List ℕ) → k ≡ j → among k (except j l) ≡ false
unfolding except among
except-same j k [] q = refl
except-same j k (i ∷ l) q =
    by_cases (ℕ_discrete j i)
    (λ p. rw (eq-eqb j i p) (except-same j k l q))
    (λ np. rw (ne_eqb j i np) (in_other i (except j l) k (λ p. np (sym q ∙ p)) ∙ except-same j k l q))

except-other : (j k : ℕ) (l : List ℕ) → k ≢ j → among k (except j l) ≡ among k l
unfolding except among
except-other j k [] ne = refl
except-other j k (i ∷ l) ne =
    by_cases (ℕ_discrete j i)
    (λ p. rw (eq-eqb j i p) (except-other j k l ne ∙ sym (in_other i l k (λ q. ne (q ∙ sym p)))))
    (λ np. rw (ne_eqb j i np) (ap (cond (eqb k i) true) (except-other j k l ne)))

pub in_except : (j k : ℕ) (l : List ℕ) → among k (except j l) ≡ cond (eqb k j) false (among k l)
in_except j k l = pick k j false (among k l) (among k (except j l)) (except-same j k l) (except-other j k l)

-- ---- a reading follows each change

pub value-changed : (c : Change) (r : Reading) (k : ℕ) → Once (keys_of r.live) → value_in (changed c r).live k ≡ lives_after c k (value_in r.live k)
unfolding changed value_in
value-changed nothing r k o = refl
value-changed (issued j x) r k o = refl
value-changed (returned j x) r k o = refl
value-changed (revalued j x) r k o = value-valued j x k r.live
value-changed (dies j) r k o = value-without j k r.live
value-changed (parts j) r k o = value-without j k r.live
value-changed (sieved keeps) r k o = value-sifted keeps k r.live o

pub detached-changed : (c : Change) (r : Reading) (k : ℕ) → among k (changed c r).detached ≡ detached_after c k (among k r.detached)
unfolding changed among
detached-changed nothing r k = refl
detached-changed (issued j x) r k = refl
detached-changed (returned j x) r k = in_except j k r.detached
detached-changed (revalued j x) r k = refl
detached-changed (dies j) r k = refl
detached-changed (parts j) r k = refl
detached-changed (sieved keeps) r k = refl

-- ---- no key twice

-- a key begins to live, or to be detached, where it did not
abbrev pub NewKey : Change → Reading → Type 0
NewKey nothing r = Unit {0}
NewKey (issued k x) r = value_in r.live k ≡ none
NewKey (returned k x) r = value_in r.live k ≡ none
NewKey (revalued k x) r = Unit {0}
NewKey (dies k) r = Unit {0}
NewKey (parts k) r = among k r.detached ≡ false
NewKey (sieved keeps) r = Unit {0}

pub without_sublist : (j : ℕ) (l : List (ℕ × ℕ)) → Sublistᴰ (keys_of (without j l)) (keys_of l)
unfolding without
without_sublist j [] = Sublistᴰ.slnil
without_sublist j (e ∷ l) =
    split (eqb j e.0)
    (λ q. rw q (Sublistᴰ.cons (without_sublist j l)))
    (λ q. rw q (Sublistᴰ.cons-cons refl (without_sublist j l)))

pub sifted_sublist : (keeps : ℕ → ℕ → Bool) (l : List (ℕ × ℕ)) → Sublistᴰ (keys_of (sifted keeps l)) (keys_of l)
unfolding sifted
sifted_sublist keeps [] = Sublistᴰ.slnil
sifted_sublist keeps (e ∷ l) =
    split (keeps (idx e.0) e.1)
    (λ q. rw q (Sublistᴰ.cons-cons refl (sifted_sublist keeps l)))
    (λ q. rw q (Sublistᴰ.cons (sifted_sublist keeps l)))

pub valued_sublist : (j x : ℕ) (l : List (ℕ × ℕ)) → Sublistᴰ (keys_of (valued j x l)) (keys_of l)
unfolding valued
valued_sublist j x [] = Sublistᴰ.slnil
valued_sublist j x (e ∷ l) =
    split (eqb j e.0)
    (λ q. rw q (Sublistᴰ.cons-cons (eqb-true j e.0 q) (valued_sublist j x l)))
    (λ q. rw q (Sublistᴰ.cons-cons refl (valued_sublist j x l)))

pub except_sublist : (j : ℕ) (l : List ℕ) → Sublistᴰ (except j l) l
unfolding except
except_sublist j [] = Sublistᴰ.slnil
except_sublist j (i ∷ l) =
    split (eqb j i)
    (λ q. rw q (Sublistᴰ.cons (except_sublist j l)))
    (λ q. rw q (Sublistᴰ.cons-cons refl (except_sublist j l)))

pub once-changed : (c : Change) (r : Reading) → NewKey c r → Once (keys_of r.live) → Once (keys_of (changed c r).live)
unfolding changed
once-changed nothing r b o = o
once-changed (issued k x) r b o = once_cons k (keys_of r.live) (value_none r.live k b) o
once-changed (returned k x) r b o = once_cons k (keys_of r.live) (value_none r.live k b) o
once-changed (revalued k x) r b o = once_sublist (valued_sublist k x r.live) o
once-changed (dies k) r b o = once_sublist (without_sublist k r.live) o
once-changed (parts k) r b o = once_sublist (without_sublist k r.live) o
once-changed (sieved keeps) r b o = once_sublist (sifted_sublist keeps r.live) o

pub once-detached : (c : Change) (r : Reading) → NewKey c r → Once r.detached → Once (changed c r).detached
unfolding changed
once-detached nothing r b o = o
once-detached (issued k x) r b o = o
once-detached (returned k x) r b o = once_sublist (except_sublist k r.detached) o
once-detached (revalued k x) r b o = o
once-detached (dies k) r b o = o
once-detached (parts k) r b o = once_cons k r.detached (λ m. true_false (mem_in r.detached k m) b) o
once-detached (sieved keeps) r b o = o

-- ---- lengths

pub length-keys : (l : List (ℕ × ℕ)) → length (keys_of l) ≡ length l
length-keys [] = refl
length-keys (e ∷ l) = ap suc (length-keys l)

-- ---- what a sieve drops at an index

-- how many elements of index i a rule drops, where g is the value of the one key there that can live
abbrev pub drops : (ℕ → ℕ → Bool) → ℕ → Option ℕ → ℕ
drops keeps i none = 0
drops keeps i (some x) = cond (keeps i x) 0 1

pub dropped_none : (keeps : ℕ → ℕ → Bool) (i : ℕ) (l : List (ℕ × ℕ)) → ((j : ℕ) → Memᴰ j (keys_of l) → idx j ≢ i) → dropped_at keeps i l ≡ 0
unfolding dropped_at
dropped_none keeps i [] h = refl
dropped_none keeps i (e ∷ l) h = rw (ne_eqb (idx e.0) i (h e.0 (Memᴰ.head refl))) (dropped_none keeps i l (λ j m. h j (Memᴰ.tail m)))

-- where k is the only key of its index in the list
pub dropped_one : (keeps : ℕ → ℕ → Bool) (k : ℕ) (l : List (ℕ × ℕ)) → Once (keys_of l) → ((j : ℕ) → Memᴰ j (keys_of l) → idx j ≡ idx k → j ≡ k)
    → dropped_at keeps (idx k) l ≡ drops keeps (idx k) (value_in l k)
unfolding dropped_at value_in
dropped_one keeps k [] o only = refl
dropped_one keeps k (e ∷ l) o only =
    by_cases (ℕ_discrete k e.0)
    (λ q.
    let rest : dropped_at keeps (idx k) l ≡ 0 =
    dropped_none keeps (idx k) l (λ j m p. once-head e.0 (keys_of l) o (Memᴰ.cast (sym q ∙ sym (only j (Memᴰ.tail m) p)) m)) in
    rw (eq-eqb k e.0 q, eq-eqb (idx e.0) (idx k) (ap idx (sym q)), rest) (ap (λ (j : ℕ). cond (keeps (idx j) e.1) 0 1) (sym q)))
    (λ ne.
    rw (ne_eqb k e.0 ne, ne_eqb (idx e.0) (idx k) (λ p. ne (sym (only e.0 (Memᴰ.head refl) p))))
    (dropped_one keeps k l (once_tail e.0 (keys_of l) o) (λ j m. only j (Memᴰ.tail m))))
