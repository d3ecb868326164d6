-- What each branch of the code leaves, as laws of the machine; and the invariant of the loop over a part's bytes. Assumes nothing.
use mathlib.Core.Path.{◌≡◌, refl, sym, ap, ◌∙◌, subst}
use mathlib.Core.Bool.{true, false}
use mathlib.Core.List.{List, ◌∷◌}
use Prim.Native.Nat.{ℕ, ◌+◌, ◌*◌, ◌-◌, ◌/◌, ◌≤◌, ◌<◌}
use native.Mathlib.Numerals.{add-one}
use native.Mathlib.Omega.{arith}
use lib.ListN.{length, get_or, drop, set, drop_of_length-le}
use lib.Seq.{drop-cons}
use lib.Dec.{leb, ltb, eqb}
use borrow.Author.Tests.{leb-true, ltb-true, ltb-false, eqb-true, eqb-false, le-leb, lt-leb, lt-ltb, le-ltb, eq-eqb, ne_eqb}
use Rattle.lists.proofs.Tests.{split, and_left, and_right, same_test}
use Rattle.writing.specs.Told.{Told, tells, refused}
use Rattle.table.specs.Table.{Table}
use Rattle.script_say.specs.Says.{newline, room}
use Rattle.script_input.specs.Script.{end_of, Run, ran}
use Rattle.script_input.proofs.Runs.{ran-fits}
use Rattle.script_input.specs.Machine.{held, Machine, machine, begun, Step, step_of, closed, took, took_all, is_ready_for, is_ready, Fed, ending, fed, finished}
use Rattle.script_input.specs.Ready.{Ready}

-- ---- what is judged first

module _ (count line answers out : ℕ) where
  pub ready-line : line < held → false ≡ is_ready_for count line answers out
  unfolding is_ready_for
  ready-line h = rw (lt-leb held line h)

  module _ (long : held ≤ line) where
    pub ready-count : held < count → false ≡ is_ready_for count line answers out
    unfolding is_ready_for
    ready-count h = rw (le-leb held line long, lt-leb count held h)

    pub ready-room : count ≤ held → leb answers (out / room) ≡ is_ready_for count line answers out
    unfolding is_ready_for
    ready-room h =
        rw (le-leb held line long, le-leb count held h)
        (same_test _ _ (λ e. le-leb (answers * room) out (omega (arith, leb-true answers (out / room) e)))
        (λ e. le-leb answers (out / room) (omega (arith, leb-true (answers * room) out e))))

  pub ready_facts : is_ready_for count line answers out ≡ true → (held ≤ line) × ((count ≤ held) × (answers * room ≤ out))
  unfolding is_ready_for
  ready_facts e =
      let rest = and_right (leb held line) _ e in
      (leb-true held line (and_left (leb held line) _ e), (leb-true count held (and_left (leb count held) _ rest), leb-true (answers * room) out (and_right (leb count held) _ rest)))

  pub ready_from : held ≤ line → count ≤ held → answers * room ≤ out → is_ready_for count line answers out ≡ true
  unfolding is_ready_for
  ready_from a b c = rw (le-leb held line a, le-leb count held b, le-leb (answers * room) out c)

-- ---- one byte

module _ (m : Machine) (at : ℕ) where
  -- a line's outcome as a step of the machine
  abbrev as_step : Run → Step
  as_step p = (end_of p.0, machine p.1.0 0 m.line p.1.1)

  module _ (t : Table) (d : List ℕ) {w : Told ℕ} (fits : at + room ≤ length m.out) (runs : ◌≡◌ {A = Run} (w, (t, d)) (ran m.table (begun m) at m.out)) where
    pub closes : {n : ℕ} → n ≡ end_of w → step_of n (machine t 0 m.line d) ≡ closed m at
    unfolding closed
    closes e = rw e (ap as_step (runs ∙ ran-fits m.table (begun m) at m.out (le-leb _ _ fits)))

  pub took-newline : (b : ℕ) → b ≡ newline → closed m at ≡ took m at b
  unfolding took
  took-newline b e = rw (eq-eqb b newline e)

  module _ (b : ℕ) (other : b ≡ newline → ⊥) where
    pub took-held : m.count < held → step_of at (machine m.table (m.count + 1) (set m.line m.count b) m.out) ≡ took m at b
    unfolding took
    took-held h = rw (ne_eqb b newline other, lt-ltb m.count held h)

    pub took_past : held ≤ m.count → step_of at m ≡ took m at b
    unfolding took
    took_past h = rw (ne_eqb b newline other, le-ltb m.count held h)

  closed-count : (closed m at).1.count ≡ 0
  unfolding closed
  closed-count = refl

  pub took-count : (b : ℕ) → m.count ≤ held → (took m at b).1.count ≤ held
  took-count b h =
      split (eqb b newline) (λ e. subst (λ (p : Step). p.1.count ≤ held) (took-newline b (eqb-true b newline e)) (omega (arith, closed-count)))
      (λ e. split (ltb m.count held)
      (λ l. subst (λ (p : Step). p.1.count ≤ held) (took-held b (eqb-false b newline e) (ltb-true m.count held l)) (omega (arith, ltb-true m.count held l)))
      (λ l. subst (λ (p : Step). p.1.count ≤ held) (took_past b (eqb-false b newline e) (ltb-false m.count held l)) h))

-- ---- a part, and the end

module _ (m : Machine) where
  module _ (s : List ℕ) where
    pub fed_short : is_ready m (length s) ≡ false → ◌≡◌ {A = Fed} (refused 6, m) (fed m s)
    unfolding fed
    fed_short e = rw e

    pub fed-ready : is_ready m (length s) ≡ true → ending (took_all m 0 s) ≡ fed m s
    unfolding fed
    fed-ready e = rw e

  pub finished_short : is_ready m 1 ≡ false → ◌≡◌ {A = Fed} (refused 6, m) (finished m)
  unfolding finished
  finished_short e = rw e

  module _ (e : is_ready m 1 ≡ true) where
    pub finished_empty : m.count ≡ 0 → ◌≡◌ {A = Fed} (tells 0, m) (finished m)
    unfolding finished
    finished_empty h = rw (e, eq-eqb m.count 0 h)

    pub finished-line : (m.count ≡ 0 → ⊥) → ending (closed m 0) ≡ finished m
    unfolding finished
    finished-line h = rw (e, ne_eqb m.count 0 h)

pub finished-ready : (count : ℕ) (line out : List ℕ) → is_ready_for count (length line) 1 (length out) ≡ true → Ready count line 0 out
finished-ready count line out e =
    let f = ready_facts count (length line) 1 (length out) e in
    record { long = f.0; within = f.1.0; roomy = omega (arith, f.1.1) }

-- ---- the loop over a part's bytes

took-next : (m : Machine) (at : ℕ) {s : List ℕ} {b : ℕ} {r : List ℕ} → s ≡ b ∷ r → took_all m at s ≡ took_all (took m at b).1 (took m at b).0 r
unfolding took_all
took-next m at e = rw e

-- before the byte i: the machine can take a byte, and what the rest of the part brings is what the whole part brings
pub record Feeding (m₀ m : Machine) (part : List ℕ) (end i : ℕ) : Type 0 where
  pub inside : i ≤ length part
  pub long : held ≤ length m.line
  pub within : m.count ≤ held
  pub roomy : end + (length part - i) * room ≤ length m.out
  pub rest : took_all m end (drop i part) ≡ took_all m₀ 0 part

pub feeding_start : (m : Machine) (part : List ℕ) → is_ready m (length part) ≡ true → Feeding m m part 0 0
feeding_start m part e =
    let f = ready_facts m.count (length m.line) (length part) (length m.out) e in
    record { inside = omega arith; long = f.0; within = f.1.0; roomy = omega (arith, f.1.1); rest = refl }

module _ {m₀ m : Machine} {part : List ℕ} {end i : ℕ} (f : Feeding m₀ m part end i) where
  pub feeding_ready : i < length part → Ready m.count m.line end m.out
  feeding_ready h = record { long = f.long; within = f.within; roomy = omega (arith, f.roomy) }

  pub feeding_turn : {m' : Machine} {end' : ℕ} → i < length part → step_of end' m' ≡ took m end (get_or part i 0) → end' ≤ end + room
      → length m'.line ≡ length m.line → length m'.out ≡ length m.out → Feeding m₀ m' part end' (i + 1)
  feeding_turn {m'} {end'} h e l a b =
      record {
        inside = omega arith;
        long = omega (arith, f.long);
        within = subst (λ (p : Step). p.1.count ≤ held) (sym e) (took-count m end (get_or part i 0) f.within);
        roomy = omega (arith, f.roomy);
        rest = ap (λ (p : Step). took_all p.1 p.0 (drop (i + 1) part)) e ∙ sym (took-next m end next) ∙ f.rest;
      }
    where
      next : drop i part ≡ get_or part i 0 ∷ drop (i + 1) part
      next = rw (add-one, drop-cons part i 0)

  pub feeding_end : length part ≤ i → step_of end m ≡ took_all m₀ 0 part
  unfolding took_all
  feeding_end h = ap (took_all m end) (sym (drop_of_length-le part h)) ∙ f.rest
