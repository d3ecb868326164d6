-- A line run on a table, by what was done and what was said. Assumes nothing.
use mathlib.Core.Path.{◌≡◌, sym, ap, ◌∙◌, subst}
use mathlib.Core.Bool.{true, false}
use mathlib.Core.List.{List}
use Prim.Native.Nat.{ℕ, ◌+◌, ◌≤◌}
use native.Mathlib.Omega.{arith}
use lib.ListN.{length}
use lib.Dec.{leb}
use borrow.Author.Tests.{leb-true}
use Rattle.writing.specs.Told.{Told, refused}
use Rattle.writing.specs.Writing.{written}
use Rattle.table.specs.Table.{Table}
use Rattle.table.specs.Calls.{Said, Out}
use Rattle.commands.specs.Lines.{Asked, asked}
use Rattle.script_look.specs.Answers.{answered}
use Rattle.script_say.specs.Says.{line_out, room, lined}
use Rattle.script_say.proofs.Says.{said-lined}
use Rattle.script_input.specs.Script.{end_of, Run, shown, ran}

-- where the room was judged, an answer's line stands whole, and ends within it
module _ (at : ℕ) (b d : List ℕ) (s : Said) {w : Told ℕ} (h : leb (at + room) (length b) ≡ true) (g : ◌≡◌ {A = Told ℕ × List ℕ} (w, d) (written at (line_out s) b)) (l : length (line_out s) ≤ room) where
  whole : ◌≡◌ {A = Told ℕ × List ℕ} (w, d) (lined s at b)
  whole = said-lined s at b d w (leb-true (at + room) (length b) h) g l

  pub ends_in_room : end_of w ≤ at + room
  ends_in_room = subst (λ (p : Told ℕ × List ℕ). end_of p.0 ≤ at + room) (sym whole) (omega arith)

module _ (t : Table) (line : List ℕ) (at : ℕ) (b : List ℕ) where
  pub ran_short : leb (at + room) (length b) ≡ false → ◌≡◌ {A = Run} (refused 6, (t, b)) (ran t line at b)
  unfolding ran
  ran_short h = rw h

  pub ran-fits : leb (at + room) (length b) ≡ true → ran t line at b ≡ shown (answered t (asked line)) at b
  unfolding ran
  ran-fits h = rw h

  -- the parts of a line's outcome, from what was done and what was said
  pub runs : (u : Table) (d : List ℕ) (s : Said) {a : Asked} {w : Told ℕ} → leb (at + room) (length b) ≡ true → a ≡ asked line → ◌≡◌ {A = Out} (s, u) (answered t a)
      → ◌≡◌ {A = Told ℕ × List ℕ} (w, d) (written at (line_out s) b) → length (line_out s) ≤ room → ◌≡◌ {A = Run} (w, (u, d)) (ran t line at b)
  runs u d s h e f g l =
      ap (joined u) (whole at b d s h g l) ∙ ap (λ (o : Out). shown o at b) (f ∙ ap (answered t) e) ∙ sym (ran-fits h)
    where
      joined : Table → Told ℕ × List ℕ → Run
      joined v p = (p.0, (v, p.1))
