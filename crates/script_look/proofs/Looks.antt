-- What a line that only looks is answered, by its kind. Assumes nothing.
use Rattle.std.proofs.Common.{ℕ, ◌≡◌, ◌⊎◌, inl, inr, sym, ap, Result, Ok, Err}
use Rattle.refusal.specs.declared.Refusal.{Refusal}
use Rattle.table.specs.Table.{Table}
use Rattle.table.specs.Calls.{Said, lookup}
use Rattle.table.specs.Steps.{step}
use Rattle.table.proofs.Frames.{frame_lookup}
use Rattle.commands.specs.declared.Command.{Command}
use Rattle.commands.specs.declared.Command.TheVariants.{Insert, Get, Remove, Detach, Reattach, Len}
use Rattle.commands.specs.Lines.{asked_of}
use Rattle.dense.specs.Answers.{outcome}
use Rattle.script_look.specs.Answers.{answered, looked}

-- a line that only looks leaves the table as it was
pub acts_looked : (t : Table) (a : Result Command Refusal) {s : Said} → s ≡ looked t a
    → ((k : ℕ) × (a ≡ Ok (Get k))) ⊎ ((a ≡ Ok Len) ⊎ ((r : Refusal) × (a ≡ Err r))) → outcome s t ≡ answered t (asked_of a)
unfolding answered step looked
acts_looked t (Ok (Get k)) e h = rw e (ap (outcome (lookup t k).0) (sym (frame_lookup t k)))
acts_looked t (Ok Len) e h = rw e
acts_looked t (Err r) e h = rw e
acts_looked t (Ok (Insert x)) e h = elim h [ inl w ↦ (let p = w.1 in cc) | inr v ↦ elim v [ inl p ↦ (cc) | inr w ↦ (let p = w.1 in cc) ] ]
acts_looked t (Ok (Remove k)) e h = elim h [ inl w ↦ (let p = w.1 in cc) | inr v ↦ elim v [ inl p ↦ (cc) | inr w ↦ (let p = w.1 in cc) ] ]
acts_looked t (Ok (Detach k)) e h = elim h [ inl w ↦ (let p = w.1 in cc) | inr v ↦ elim v [ inl p ↦ (cc) | inr w ↦ (let p = w.1 in cc) ] ]
acts_looked t (Ok (Reattach k x)) e h = elim h [ inl w ↦ (let p = w.1 in cc) | inr v ↦ elim v [ inl p ↦ (cc) | inr w ↦ (let p = w.1 in cc) ] ]
