-- Theorem G, for any table: a call is refused with the number of the first of its tests that fails, and then leaves everything as it
-- was; where all its tests hold it does what the rules say. Each call is one equation over its list of tests. Assumes nothing.
use mathlib.Core.Path.{◌≡◌, refl, sym, ap, ◌∙◌, subst}
use mathlib.Core.Bool.{Bool, true, false}
use mathlib.Core.List.{List, [], ◌∷◌, Memᴰ}
use mathlib.Core.Option.{Option, none, some}
use Prim.Native.Nat.{ℕ}
use native.Mathlib.Omega.{arith}
use lib.Dec.{leb, ltb, eqb}
use Rattle.lists.proofs.Tests.{split, either, true_false}
use Rattle.keys.specs.Keys.{far, idx, version, as_read, down}
use Rattle.rules.specs.declared.Rule.{Rule}
use Rattle.rules.specs.Rules.{keeps_of}
use Rattle.table.specs.declared.Header.{Header}
use Rattle.table.specs.Table.{Table, ver, link, val, cap, lengths_fit, has_shape, is_live, is_detached, is_held, last_in_range, last_is_held, has_place, head_is_free, freed_head, parted_head, rejoined_head, with_value, entered, left}
use Rattle.table.specs.Calls.{Said, said_key, said_value, said_pair, said_done, said_count, said_truth, refused, Out, Judged, found, fails, on, begins, cannot, fresh_head, fresh, place_in, place, lookup, put, next_in, next, inserted, insert, key_said, next_key, last_of, leaving, remove, detach, berth_in, berth, reattach, drain}
use Rattle.table.specs.Sound.{is_sound}
use Rattle.table.specs.Sweeps.{asked, retaining, retain, clearing, clear}
use Rattle.table.specs.Steps.{Call, c_lookup, c_put, c_insert, c_remove, c_detach, c_reattach, c_drain, c_retain, c_clear, step}
use Rattle.lists.specs.Tests.{Tests, first}
use Rattle.table.specs.Refused.{numbers, ruled, judged, place_tests, leave_tests, insert_tests, reattach_tests, drain_tests, sweep_tests, issues, drains}

-- ---- tests in order, each with the number of its refusal

on-judged : (t : Table) (f : Option ℕ) (p : ℕ) (accept : ℕ → Out) → on t (judged f p) accept ≡ ruled t f (accept p)
on-judged t none p accept = refl
on-judged t (some r) p accept = refl

ruled-on : (t : Table) (j : Judged) (f : Option ℕ) (p : ℕ) (accept : ℕ → Out) → j ≡ judged f p → on t j accept ≡ ruled t f (accept p)
ruled-on t j f p accept e = ap (λ (z : Judged). on t z accept) e ∙ on-judged t f p accept

-- no other number is given
pub first-number : (l : Tests) (r : ℕ) → first l ≡ some r → Memᴰ r (numbers l)
first-number [] r e = let z : ◌≡◌ {A = ℕ} 0 1 = cc in absurd (omega arith)
first-number (e ∷ l) r q =
    split e.0
    (λ b. Memᴰ.tail (first-number l r (rw b at q)))
    (λ b. let w : some e.1 ≡ some r = rw b at q in Memᴰ.head (cc))

pub first_holds : (b : Bool) (r : ℕ) (l : Tests) → first ((b, r) ∷ l) ≡ none → b ≡ true
first_holds true r l e = refl
first_holds false r l e = let z : ◌≡◌ {A = ℕ} 0 1 = cc in absurd (omega arith)

-- what holds of a table itself, and of what a call leaves whose tests all hold, holds after the call
pub ruled_either : (P : Table → Type 0) (t : Table) (c : Out) (f : Option ℕ) (o : Out) → c ≡ ruled t f o → P t → (f ≡ none → P o.1) → P c.1
ruled_either P t c none o e same accepted = subst (λ (z : Out). P z.1) (sym e) (accepted refl)
ruled_either P t c (some r) o e same accepted = subst (λ (z : Out). P z.1) (sym e) same

-- ---- each call over its tests

module _ (t : Table) where
  pub place-ruled : (k : ℕ) → place t k ≡ judged (first (place_tests t k)) (link t (idx k))
  unfolding place place_in
  place-ruled k =
      split (has_shape t)
      (λ a. rw a (split (is_live t (idx k) (version k)) (λ b. rw b (split (is_held t (idx k) (version k)) (λ c. rw c) (λ c. rw c))) (λ b. rw b)))
      (λ a. rw a)

  pub lookup-ruled : (k : ℕ) → lookup t k ≡ ruled t (first (place_tests t k)) (said_value (val t (link t (idx k))), t)
  unfolding lookup
  lookup-ruled k = ruled-on t (place t k) (first (place_tests t k)) (link t (idx k)) _ (place-ruled k)

  pub put-ruled : (k x : ℕ) → put t k x ≡ ruled t (first (place_tests t k)) (said_value (val t (link t (idx k))), with_value t (link t (idx k)) x)
  unfolding put
  put-ruled k x = ruled-on t (place t k) (first (place_tests t k)) (link t (idx k)) _ (place-ruled k)

  leaving-judged : (k : ℕ) → leaving t k ≡ judged (first (leave_tests t k)) (link t (idx k))
  unfolding leaving
  leaving-judged k =
      ap (last_of t) (place-ruled k)
      ∙ split (has_shape t)
      (λ a. rw a (split (is_live t (idx k) (version k)) (λ b. rw b (split (is_held t (idx k) (version k))
      (λ c. rw c (split (last_in_range t) (λ d. rw d) (λ d. rw d)))
      (λ c. rw c))) (λ b. rw b)))
      (λ a. rw a)

  pub remove-ruled : (k : ℕ) → remove t k ≡ ruled t (first (leave_tests t k)) (said_value (val t (link t (idx k))), left t (idx k) t.head.f (freed_head t.head (idx k)))
  unfolding remove
  remove-ruled k = ruled-on t (leaving t k) (first (leave_tests t k)) (link t (idx k)) _ (leaving-judged k)

  pub detach-ruled : (k : ℕ) → detach t k ≡ ruled t (first (leave_tests t k)) (said_value (val t (link t (idx k))), left t (idx k) far (parted_head t.head))
  unfolding detach
  detach-ruled k = ruled-on t (leaving t k) (first (leave_tests t k)) (link t (idx k)) _ (leaving-judged k)

  next-judged : next t ≡ judged (first (insert_tests t)) (issues t)
  unfolding next next_in
  next-judged =
      split (has_shape t)
      (λ a. rw a (split (ltb t.head.f t.head.s)
      (λ b. rw b (split (head_is_free t) (λ c. rw c) (λ c. rw c)))
      (λ b. rw b (split (leb t.head.s (cap t)) (λ c. rw c) (λ c. rw c)))))
      (λ a. rw a)

  pub insert-ruled : (x : ℕ) → insert t x ≡ ruled t (first (insert_tests t)) (said_key (issues t), inserted t (issues t) x)
  unfolding insert
  insert-ruled x = ruled-on t (next t) (first (insert_tests t)) (issues t) _ next-judged

  -- the next key is the very key, or the very refusal, that insert answers
  pub insert-next-key : (x : ℕ) → (insert t x).0 ≡ next_key t
  unfolding insert next_key
  insert-next-key x = answers (next t)
    where
      answers : (j : Judged) → (on t j (λ k. (said_key k, inserted t k x))).0 ≡ key_said j
      answers (found k) = refl
      answers (fails r) = refl

  pub next-key-ruled : next_key t ≡ key_said (judged (first (insert_tests t)) (issues t))
  unfolding next_key
  next-key-ruled = ap key_said next-judged

  berth-judged : (k : ℕ) → berth t k ≡ judged (first (reattach_tests t k)) (idx k)
  unfolding berth berth_in
  berth-judged k =
      split (has_shape t)
      (λ a. rw a (split (is_detached t (idx k) (version k)) (λ b. rw b (split (has_place t) (λ c. rw c) (λ c. rw c))) (λ b. rw b)))
      (λ a. rw a)

  pub reattach-ruled : (k x : ℕ) → reattach t k x ≡ ruled t (first (reattach_tests t k)) (said_done, entered t (idx k) (down (ver t (idx k))) (as_read k) x (rejoined_head t.head))
  unfolding reattach
  reattach-ruled k x = ruled-on t (berth t k) (first (reattach_tests t k)) (idx k) _ (berth-judged k)

  pub drain-ruled : drain t ≡ ruled t (first (drain_tests t)) (drains t)
  unfolding drain
  drain-ruled =
      split (has_shape t)
      (λ a. rw a (split (eqb t.head.n 0) (λ b. rw b) (λ b. rw b (split (last_is_held t) (λ c. rw c) (λ c. rw c)))))
      (λ a. rw a)

  asked-ruled : (u : Table) → asked t u ≡ ruled t (first (sweep_tests t)) (said_done, u)
  asked-ruled u = split (has_shape t) (λ a. rw a (split (is_sound t) (λ b. rw b) (λ b. rw b))) (λ a. rw a)

  pub retain-ruled : (rule : Rule) → retain t rule ≡ ruled t (first (sweep_tests t)) (said_done, retaining (keeps_of rule) t.head.n 0 t)
  unfolding retain
  retain-ruled rule = asked-ruled _

  pub clear-ruled : clear t ≡ ruled t (first (sweep_tests t)) (said_done, clearing t.head.n t)
  unfolding clear
  clear-ruled = asked-ruled _

-- ---- a refused call leaves everything as it was

-- whether an answer is a refusal
abbrev pub is_refused : Said → Bool
is_refused (said_key k) = false
is_refused (said_value v) = false
is_refused (said_pair k v) = false
is_refused said_done = false
is_refused (said_count m) = false
is_refused (said_truth b) = false
is_refused (refused r) = true

ruled_as_was : {A : Type 0} (u : A) (f : Option ℕ) (o : Said × A) → is_refused o.0 ≡ false → (r : ℕ) → (ruled u f o).0 ≡ refused r → (ruled u f o).1 ≡ u
ruled_as_was u none o h r e = true_false (ap is_refused e) h
ruled_as_was u (some q) o h r e = refl

pub ruled-keeps : {A : Type 0} (u : A) (c : Said × A) (f : Option ℕ) (o : Said × A) → c ≡ ruled u f o → is_refused o.0 ≡ false → (r : ℕ) → c.0 ≡ refused r → c.1 ≡ u
ruled-keeps {A} u c f o e h r q = ap (λ (z : Said × A). z.1) e ∙ ruled_as_was u f o h r (sym (ap (λ (z : Said × A). z.0) e) ∙ q)

pub refused-keeps : (t : Table) (c : Call) (r : ℕ) → (step t c).0 ≡ refused r → (step t c).1 ≡ t
unfolding step
refused-keeps t (c_lookup k) = ruled-keeps t _ (first (place_tests t k)) _ (lookup-ruled t k) refl
refused-keeps t (c_put k x) = ruled-keeps t _ (first (place_tests t k)) _ (put-ruled t k x) refl
refused-keeps t (c_insert x) = ruled-keeps t _ (first (insert_tests t)) _ (insert-ruled t x) refl
refused-keeps t (c_remove k) = ruled-keeps t _ (first (leave_tests t k)) _ (remove-ruled t k) refl
refused-keeps t (c_detach k) = ruled-keeps t _ (first (leave_tests t k)) _ (detach-ruled t k) refl
refused-keeps t (c_reattach k x) = ruled-keeps t _ (first (reattach_tests t k)) _ (reattach-ruled t k x) refl
refused-keeps t c_drain = ruled-keeps t _ (first (drain_tests t)) _ (drain-ruled t) (either (λ (o : Out). is_refused o.0 ≡ false) (eqb t.head.n 0) _ _ refl refl)
refused-keeps t (c_retain rule) = ruled-keeps t _ (first (sweep_tests t)) _ (retain-ruled t rule) refl
refused-keeps t c_clear = ruled-keeps t _ (first (sweep_tests t)) _ (clear-ruled t) refl

-- ---- fresh, by the lengths alone

pub fresh-begun : (vs ls ks xs : List ℕ) (h : Header) → (fresh vs ls ks xs).0 ≡ begins h → (lengths_fit vs ls ks xs ≡ true) × (h ≡ fresh_head)
unfolding fresh
fresh-begun vs ls ks xs h = split (lengths_fit vs ls ks xs) (λ a. rw a (λ e. (refl, (cc)))) (λ a. rw a (λ e. let z : ◌≡◌ {A = ℕ} 0 1 = cc in absurd (omega arith)))

-- it writes nothing where the lengths do not fit
pub fresh-refused-keeps : (vs ls ks xs : List ℕ) (r : ℕ) → (fresh vs ls ks xs).0 ≡ cannot r → (fresh vs ls ks xs).1 ≡ (vs, ls)
unfolding fresh
fresh-refused-keeps vs ls ks xs r =
    split (lengths_fit vs ls ks xs)
    (λ a. rw a (λ e. let z : ◌≡◌ {A = ℕ} 0 1 = cc in absurd (omega arith)))
    (λ a. rw a (λ e. refl))

pub fresh-refused : (vs ls ks xs : List ℕ) (r : ℕ) → (fresh vs ls ks xs).0 ≡ cannot r → (r ≡ 1) × (lengths_fit vs ls ks xs ≡ false)
unfolding fresh
fresh-refused vs ls ks xs r = split (lengths_fit vs ls ks xs) (λ a. rw a (λ e. let z : ◌≡◌ {A = ℕ} 0 1 = cc in absurd (omega arith))) (λ a. rw a (λ e. ((cc), refl)))
