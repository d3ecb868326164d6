-- The theorems of the dense table, of what a script prints: its lines make one list of calls, each line is answered by the table after the calls
-- before it, and so every answer is what the reading of those calls says. From any table that reads as a base, and so from a fresh one.
-- Assumes nothing.
use mathlib.Core.Path.{◌≡◌, refl, sym, ap, ◌∙◌, subst}
use mathlib.Core.Logic.{◌↔◌}
use mathlib.Core.Bool.{true, false, cond}
use mathlib.Core.List.{List, [], ◌∷◌, flatten}
use mathlib.Core.Option.{none}
use Prim.Native.Nat.{ℕ, ◌+◌, ◌*◌, ◌≤◌}
use lib.ListN.{length}
use Rattle.lists.specs.Among.{among}
use Rattle.keys.specs.Keys.{as_read}
use Rattle.table.specs.declared.Header.{Header}
use Rattle.table.specs.Table.{Table, cap, lengths_fit}
use Rattle.table.specs.Calls.{said_key, said_done, said_count, refused, begins, fresh_head, fresh, fresh_table}
use Rattle.table.specs.Sound.{Sound}
use Rattle.table.specs.Steps.{Call, c_lookup, c_insert, c_remove, c_detach, c_reattach, step, after, history}
use Rattle.history.specs.Reading.{Reading, reading, value_in}
use Rattle.history.specs.Begins.{Begins, value_or}
use Rattle.history.proofs.Begins.{begins-after}
use Rattle.table.proofs.Keeps.{sound-fresh, sound-after}
use Rattle.history.proofs.Promises.{lookup-reads, remove-reads, detach-reads, reattach-reads, insert-new}
use Rattle.history.proofs.Counted.{insert-reads}
use Rattle.history.proofs.Listed.{len-reads}
use Rattle.table.proofs.Undamaged.{no_damage}
use Rattle.commands.specs.Lines.{Asked, asks, asks_len, rejects, asked}
use Rattle.script_look.specs.Answers.{answered}
use Rattle.script_say.specs.Says.{line_out, room}
use Rattle.script_input.specs.Script.{capacity}
use Rattle.script_input.specs.Input.{lines, ahead, printed_lines, called_by, called}
use Rattle.script_input.specs.Machine.{held, machine, are_within, fed_all}
use Rattle.script_input.proofs.Cuts.{parts-printed}

-- ---- the lines make one list of calls

module _ (t : Table) where
  answered-after : (cs : List Call) (a : Asked) → (answered (after t cs) a).1 ≡ after t (called_by cs a)
  unfolding answered after
  answered-after cs (asks c) = refl
  answered-after cs asks_len = refl
  answered-after cs (rejects r) = refl

  -- a line is answered by the table after the calls before it, and the next lines by the table after its own call
  pub printed-line : (cs : List Call) (l : List ℕ) (ls : List (List ℕ))
      → printed_lines (after t cs) (l ∷ ls) ≡ ahead (line_out (answered (after t cs) (asked l)).0) (printed_lines (after t (called_by cs (asked l))) ls)
  unfolding printed_lines
  printed-line cs l ls = ap (λ (u : Table). ahead (line_out (answered (after t cs) (asked l)).0) (printed_lines u ls)) (answered-after cs (asked l))

  pub printed-table : (ls : List (List ℕ)) (cs : List Call) → (printed_lines (after t cs) ls).1 ≡ after t (called cs ls)
  unfolding printed_lines called
  printed-table [] cs = refl
  printed-table (l ∷ ls) cs = ap (λ (u : Table). (printed_lines u ls).1) (answered-after cs (asked l)) ∙ printed-table ls (called_by cs (asked l))

-- ---- what a line is answered, after any calls

module _ (t : Table) (base : Reading) (b : Begins t base) (cs : List Call) (l : List ℕ) where
  called-said : {c : Call} → asked l ≡ asks c → (answered (after t cs) (asked l)).0 ≡ (step (after t cs) c).0
  unfolding answered
  called-said e = ap (λ (a : Asked). (answered (after t cs) a).0) e

  -- `g`, `r` and `d`: the key's value exactly where it lives, for every number given as a key
  pub get_answers : {k : ℕ} → asked l ≡ asks (c_lookup k) → (answered (after t cs) (asked l)).0 ≡ value_or (after t cs) k (value_in (reading base (history t cs)).live (as_read k))
  unfolding step
  get_answers {k} e = called-said e ∙ lookup-reads t base b cs k

  pub remove-answers : {k : ℕ} → asked l ≡ asks (c_remove k) → (answered (after t cs) (asked l)).0 ≡ value_or (after t cs) k (value_in (reading base (history t cs)).live (as_read k))
  unfolding step
  remove-answers {k} e = called-said e ∙ remove-reads t base b cs k

  pub detach-answers : {k : ℕ} → asked l ≡ asks (c_detach k) → (answered (after t cs) (asked l)).0 ≡ value_or (after t cs) k (value_in (reading base (history t cs)).live (as_read k))
  unfolding step
  detach-answers {k} e = called-said e ∙ detach-reads t base b cs k

  -- `a`: `ok` exactly for a detached key
  pub reattach-answers : {k x : ℕ} → asked l ≡ asks (c_reattach k x)
      → (answered (after t cs) (asked l)).0 ≡ cond (among (as_read k) (reading base (history t cs)).detached) said_done (refused 4)
  unfolding step
  reattach-answers {k} {x} e = called-said e ∙ reattach-reads t base b cs k x

  -- `i`: a key, as it is read, that neither lives nor is detached; 3 exactly where the live and the detached together are C
  pub insert-answers : {x : ℕ} (k : ℕ) → asked l ≡ asks (c_insert x) → (answered (after t cs) (asked l)).0 ≡ said_key k
      → (as_read k ≡ k) × (value_in (reading base (history t cs)).live k ≡ none) × (among k (reading base (history t cs)).detached ≡ false)
  unfolding step
  insert-answers {x} k e f = insert-new t base b cs x k (sym (called-said e) ∙ f)

  pub insert-full : {x : ℕ} → asked l ≡ asks (c_insert x)
      → ((answered (after t cs) (asked l)).0 ≡ refused 3) ↔ (length (reading base (history t cs)).live + length (reading base (history t cs)).detached ≡ cap t)
  unfolding step
  insert-full {x} e = let f = insert-reads t base b cs x in ((λ g. f.0 (sym (called-said e) ∙ g)), λ g. called-said e ∙ f.1 g)

  -- `l`: how many keys live
  pub len-answers : asked l ≡ asks_len → (answered (after t cs) (asked l)).0 ≡ said_count (length (reading base (history t cs)).live)
  unfolding answered
  len-answers e = rw e (len-reads t base b cs)

  -- no call of a script finds the table damaged
  pub never_damaged : {c : Call} → asked l ≡ asks c → (answered (after t cs) (asked l)).0 ≡ refused 5 → ⊥
  never_damaged {c} e f = no_damage (after t cs) (begins-after t base b cs).sound c (sym (called-said e) ∙ f)

-- ---- the whole input, from a fresh table, in any parts

-- a table of the script's capacity can begin
pub capacity-fits : (vs ls ks xs : List ℕ) → length vs ≡ capacity + 1 → length ls ≡ capacity + 1 → length ks ≡ capacity → length xs ≡ capacity → (fresh vs ls ks xs).0 ≡ begins fresh_head
unfolding fresh lengths_fit
capacity-fits vs ls ks xs v l k x = rw (k, v, l, x)

module _ (vs ls ks xs : List ℕ) (h : Header) (line out : List ℕ) (k : ℕ) (parts : List (List ℕ)) (long : held ≤ length line) (some : 1 ≤ k) (room_for : k * room ≤ length out)
    (short : are_within k parts ≡ true) where
  pub parts-table : (fed_all (machine (fresh_table vs ls ks xs h) 0 line out) parts).1 ≡ after (fresh_table vs ls ks xs h) (called [] (lines (flatten parts)))
  unfolding after
  parts-table =
      ap (λ (p : List ℕ × Table). p.1) (parts-printed (fresh_table vs ls ks xs h) line out k parts long some room_for short)
      ∙ printed-table (fresh_table vs ls ks xs h) (lines (flatten parts)) []

  pub parts-sound : (fresh vs ls ks xs).0 ≡ begins h → Sound (fed_all (machine (fresh_table vs ls ks xs h) 0 line out) parts).1
  parts-sound e = subst Sound (sym parts-table) (sound-after _ (sound-fresh vs ls ks xs h e) (called [] (lines (flatten parts))))
