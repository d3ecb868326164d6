-- Theorem L: where the parts of an input are cut changes nothing. What is printed is the text of the definitions' answers to the input's lines, and
-- the table at the end is the one that those lines leave. By a machine that is always ahead by what it has printed. Assumes nothing.
use mathlib.Core.Path.{◌≡◌, refl, sym, ap, ◌∙◌, subst}
use mathlib.Core.Bool.{true, false, cond}
use mathlib.Core.List.{List, [], ◌∷◌, ◌++◌, append_assoc, append-nil, flatten}
use Prim.Native.Nat.{ℕ, ◌+◌, ◌-◌, ◌*◌, ◌≤◌, ◌<◌, min}
use native.Mathlib.Numerals.{add-one}
use native.Mathlib.Omega.{arith}
use lib.ListN.{length, take, drop, set, length-append, length-take, length-drop, length-set}
use lib.Seq.{take_all, take_at, take-append-le, take-suc-set, length-take-le}
use lib.Dec.{leb, eqb, ltb}
use borrow.Author.Tests.{leb-true, ltb-true, ltb-false, eqb-true, eqb-false, eq-eqb, ne_eqb}
use Rattle.lists.specs.Put.{put}
use Rattle.lists.proofs.Tests.{split, and_left, and_right}
use Rattle.table.specs.Table.{Table}
use Rattle.table.specs.Calls.{Out}
use Rattle.commands.specs.Lines.{longest, asked}
use Rattle.commands.proofs.Lines.{asked-long}
use Rattle.script_look.specs.Answers.{answered}
use Rattle.script_say.specs.Says.{newline, line_out, room}
use Rattle.script_input.specs.Input.{last_line, lines_from, ahead, printed_lines, printed}
use Rattle.script_input.specs.Machine.{held, Machine, machine, begun, Step, closed, took, took_all, is_ready, Fed, said_by, are_within, fed_all}
use Rattle.script_input.proofs.Steps.{took-newline, took-held, took_past, ready_from, fed-ready, finished_empty, finished-line}

-- ---- what is held of a line says as much as the line

pub asked-held : (p : List ℕ) → asked (take held p) ≡ asked p
asked-held p = split (ltb longest (length p)) long short
  where
    long : ltb longest (length p) ≡ true → asked (take held p) ≡ asked p
    long e =
        let h = ltb-true longest (length p) e in
        sym (asked-long (take held p) (rw (length-take-le held p (omega arith)) (omega arith))) ∙ asked-long p h

    short : ltb longest (length p) ≡ false → asked (take held p) ≡ asked p
    short e = ap asked (take_all held p (omega (arith, ltb-false longest (length p) e)))

-- ---- the output

-- the front of a buffer up to the end of a text that was put in
take_put : (b : List ℕ) (at : ℕ) (t : List ℕ) → at ≤ length b → take (at + length t) (put b at t) ≡ take at b ++ t
take_put b at t h =
    ap (take (at + length t)) (sym (append_assoc (take at b) t (drop (at + length t) b)))
    ∙ take_at (take at b ++ t) (drop (at + length t) b) (at + length t) (rw (length-append (take at b) t, length-take-le at b h))

long-put : (b : List ℕ) (at : ℕ) (t : List ℕ) → at ≤ length b → (at + length t ≤ length (put b at t)) × (length b ≤ length (put b at t))
long-put b at t h = (omega (arith, whole), omega (arith, whole))
  where
    whole : length (put b at t) ≡ at + (length t + (length b - (at + length t)))
    whole = rw (length-append (take at b) (t ++ drop (at + length t) b), length-take-le at b h, length-append t (drop (at + length t) b), length-drop (at + length t) b)

pub ahead-ahead : (x y : List ℕ) (q : List ℕ × Table) → ahead x (ahead y q) ≡ ahead (x ++ y) q
ahead-ahead x y q = ap (λ (z : List ℕ). pair z q.1) (sym (append_assoc x y q.0))
  where
    pair : List ℕ → Table → List ℕ × Table
    pair z t = (z, t)

-- ---- one byte

-- the bytes since the last newline, once b has come
unfoldable next : List ℕ → ℕ → List ℕ
next p b = cond (eqb b newline) [] (p ++ (b ∷ []))

lines_next : (p : List ℕ) (b : ℕ) (s : List ℕ) → (b ≡ newline → ⊥) → lines_from p (b ∷ s) ≡ lines_from (next p b) s
unfolding lines_from next
lines_next p b s h = rw (ne_eqb b newline h)

lines-newline : (p : List ℕ) (b : ℕ) (s : List ℕ) → b ≡ newline → lines_from p (b ∷ s) ≡ p ∷ lines_from (next p b) s
unfolding lines_from next
lines-newline p b s e = rw (eq-eqb b newline e)

next-newline : (p : List ℕ) (b : ℕ) → b ≡ newline → next p b ≡ []
unfolding next
next-newline p b e = rw (eq-eqb b newline e)

next-other : (p : List ℕ) (b : ℕ) → (b ≡ newline → ⊥) → next p b ≡ p ++ (b ∷ [])
unfolding next
next-other p b h = rw (ne_eqb b newline h)

-- the machine holds what it can of the line p that has begun, and has printed up to a place
record Holds (m : Machine) (at : ℕ) (p : List ℕ) : Type 0 where
  pub long : held ≤ length m.line
  pub within : m.count ≤ held
  pub begins : begun m ≡ take held p
  pub inside : at ≤ length m.out

-- what is printed and what the rest s of the input will print, with the table at the end
abbrev all : Machine → ℕ → List ℕ → List ℕ → List ℕ × Table
all m at p s = ahead (take at m.out) (printed_lines m.table (lines_from p s))

-- a step r by the byte b: it holds the next line, and all in all nothing is changed
record Goes (m : Machine) (at : ℕ) (p : List ℕ) (b : ℕ) (r : Step) : Type 0 where
  pub holds : Holds r.1 r.0 (next p b)
  pub same : (s : List ℕ) → all m at p (b ∷ s) ≡ all r.1 r.0 (next p b) s
  pub grows : length m.out ≤ length r.1.out

module _ (m : Machine) (at : ℕ) (p : List ℕ) (h : Holds m at p) where
  counted : m.count ≡ min held (length p)
  counted = sym (length-take-le m.count m.line (omega (arith, h.long, h.within))) ∙ ap length h.begins ∙ length-take held p

  module _ (b : ℕ) where
    closed_goes : b ≡ newline → Goes m at p b (closed m at)
    unfolding closed printed_lines
    closed_goes e =
        rw (h.begins, asked-held p)
        (record {
          holds =
              record { long = h.long; within = omega arith; begins = ap (take held) (sym (next-newline p b e)); inside = (long-put m.out at text h.inside).0 };
          same = λ s. ap (λ (l : List (List ℕ)). ahead (take at m.out) (printed_lines m.table l)) (lines-newline p b s e)
              ∙ ahead-ahead (take at m.out) text (printed_lines o.1 (lines_from (next p b) s))
              ∙ ap (λ (x : List ℕ). ahead x (printed_lines o.1 (lines_from (next p b) s))) (sym (take_put m.out at text h.inside));
          grows = (long-put m.out at text h.inside).1;
        })
      where
        o : Out
        o = answered m.table (asked p)

        text : List ℕ
        text = line_out o.0

    module _ (other : b ≡ newline → ⊥) where
      same_lines : (s : List ℕ) → all m at p (b ∷ s) ≡ all m at (next p b) s
      same_lines s = ap (λ (l : List (List ℕ)). ahead (take at m.out) (printed_lines m.table l)) (lines_next p b s other)

      held_goes : m.count < held → Goes m at p b (at, machine m.table (m.count + 1) (set m.line m.count b) m.out)
      held_goes l =
          record {
            holds =
                record { long = omega (arith, h.long, length-set m.line m.count b); within = omega arith; begins = begins'; inside = h.inside };
            same = same_lines;
            grows = omega arith;
          }
        where
          short : length p ≤ held
          short = omega (arith, counted)

          begins' : take (m.count + 1) (set m.line m.count b) ≡ take held (next p b)
          begins' =
              ap (λ (n : ℕ). take n (set m.line m.count b)) (add-one m.count)
              ∙ take-suc-set m.line m.count b (omega (arith, h.long))
              ∙ ap (λ (x : List ℕ). x ++ (b ∷ [])) (h.begins ∙ take_all held p short)
              ∙ sym (take_all held (p ++ (b ∷ [])) (omega (arith, length-append p (b ∷ []), counted)))
              ∙ ap (take held) (sym (next-other p b other))

      past_goes : held ≤ m.count → Goes m at p b (at, m)
      past_goes l =
          record {
            holds = record { long = h.long; within = h.within; begins = h.begins ∙ sym full ∙ ap (take held) (sym (next-other p b other)); inside = h.inside };
            same = same_lines;
            grows = omega arith;
          }
        where
          full : take held (p ++ (b ∷ [])) ≡ take held p
          full = take-append-le held p (b ∷ []) (omega (arith, counted))

    took_goes : Goes m at p b (took m at b)
    took_goes =
        split (eqb b newline) (λ e. subst (Goes m at p b) (took-newline m at b (eqb-true b newline e)) (closed_goes (eqb-true b newline e)))
        (λ e. split (ltb m.count held)
        (λ l. subst (Goes m at p b) (took-held m at b (eqb-false b newline e) (ltb-true m.count held l)) (held_goes (eqb-false b newline e) (ltb-true m.count held l)))
        (λ l. subst (Goes m at p b) (took_past m at b (eqb-false b newline e) (ltb-false m.count held l)) (past_goes (eqb-false b newline e) (ltb-false m.count held l))))

-- ---- a part

-- the bytes since the last newline, once a part has come
unfoldable since : List ℕ → List ℕ → List ℕ
since p [] = p
since p (b ∷ s) = since (next p b) s

record Gone (m : Machine) (at : ℕ) (p s : List ℕ) (r : Step) : Type 0 where
  pub holds : Holds r.1 r.0 (since p s)
  pub same : (rest : List ℕ) → all m at p (s ++ rest) ≡ all r.1 r.0 (since p s) rest
  pub grows : length m.out ≤ length r.1.out

took_all_lem : (s : List ℕ) (m : Machine) (at : ℕ) (p : List ℕ) → Holds m at p → Gone m at p s (took_all m at s)
unfolding since took_all
took_all_lem [] m at p h = record { holds = h; same = λ rest. refl; grows = omega arith }
took_all_lem (b ∷ s) m at p h =
    let g = took_goes m at p h b in
    let r = took_all_lem s (took m at b).1 (took m at b).0 (next p b) g.holds in
    record { holds = r.holds; same = λ rest. g.same (s ++ rest) ∙ r.same rest; grows = omega (arith, g.grows, r.grows) }

-- ---- the whole input

-- with nothing printed yet the place is the front of the output
starts_over : {m : Machine} {at : ℕ} {p : List ℕ} → Holds m at p → Holds m 0 p
starts_over h = record { long = h.long; within = h.within; begins = h.begins; inside = omega arith }

module _ (k : ℕ) (some : 1 ≤ k) where
  at_the_end : (m : Machine) (p : List ℕ) → Holds m 0 p → k * room ≤ length m.out → fed_all m [] ≡ printed_lines m.table (last_line p)
  unfolding fed_all printed_lines closed
  at_the_end m [] h fits =
      ap (λ (f : Fed). pair (said_by f) f.1.table) (sym (finished_empty m ready none))
    where
      pair : List ℕ → Table → List ℕ × Table
      pair z t = (z, t)

      none : m.count ≡ 0
      none = counted m 0 [] h

      ready : is_ready m 1 ≡ true
      ready = ready_from _ _ _ _ h.long h.within (omega arith)
  at_the_end m (b ∷ p) h fits =
      ap (λ (f : Fed). pair (said_by f) f.1.table) (sym (finished-line m ready some-held))
      ∙ rw (h.begins, asked-held (b ∷ p)) (ap (λ (x : List ℕ). pair x (answered m.table (asked (b ∷ p))).1) (take_put m.out 0 text (omega arith) ∙ sym (append-nil text)))
    where
      pair : List ℕ → Table → List ℕ × Table
      pair z t = (z, t)

      text : List ℕ
      text = line_out (answered m.table (asked (b ∷ p))).0

      some-held : m.count ≡ 0 → ⊥
      some-held e = omega (arith, counted m 0 (b ∷ p) h)

      ready : is_ready m 1 ≡ true
      ready = ready_from _ _ _ _ h.long h.within (omega arith)

  -- the parts that are still to come, from any machine that holds what it can of the line that has begun
  from_here : (parts : List (List ℕ)) (m : Machine) (p : List ℕ) → Holds m 0 p → k * room ≤ length m.out → are_within k parts ≡ true
      → fed_all m parts ≡ printed_lines m.table (lines_from p (flatten parts))
  unfolding fed_all flatten lines_from are_within
  from_here [] m p h fits w = at_the_end m p h fits
  from_here (s ∷ parts) m p h fits w =
      ap (λ (f : Fed). ahead (said_by f) (fed_all f.1 parts)) (sym (fed-ready m s ready))
      ∙ ap (ahead (take r.0 r.1.out)) (from_here parts r.1 (since p s) (starts_over g.holds) (omega (arith, g.grows)) (and_right (leb (length s) k) _ w))
      ∙ sym (g.same (flatten parts))
    where
      r : Step
      r = took_all m 0 s

      g : Gone m 0 p s r
      g = took_all_lem s m 0 p h

      short : length s * room ≤ k * room
      short = omega (arith, leb-true (length s) k (and_left (leb (length s) k) _ w))

      ready : is_ready m (length s) ≡ true
      ready = ready_from _ _ _ _ h.long h.within (omega (arith, short))

-- the theorem: k is the most bytes that a part may have by the output's room
pub parts-printed : (t : Table) (line out : List ℕ) (k : ℕ) (parts : List (List ℕ)) → held ≤ length line → 1 ≤ k → k * room ≤ length out
    → are_within k parts ≡ true → fed_all (machine t 0 line out) parts ≡ printed t (flatten parts)
parts-printed t line out k parts long some fits w =
    from_here k some parts (machine t 0 line out) [] (record { long = long; within = omega arith; begins = refl; inside = omega arith }) fits w

-- so two cuttings of one input print the same and leave the same table
pub parts_cut : (t : Table) (line out : List ℕ) (k : ℕ) (parts others : List (List ℕ)) → held ≤ length line → 1 ≤ k → k * room ≤ length out
    → are_within k parts ≡ true → are_within k others ≡ true → flatten parts ≡ flatten others
    → fed_all (machine t 0 line out) parts ≡ fed_all (machine t 0 line out) others
parts_cut t line out k parts others long some fits v w e =
    parts-printed t line out k parts long some fits v ∙ ap (printed t) e ∙ sym (parts-printed t line out k others long some fits w)
