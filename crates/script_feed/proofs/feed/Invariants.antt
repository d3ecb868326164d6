-- `feed` takes byte after byte: what the rest of the part brings is always what the whole part brings.
use Rattle.std.proofs.Common.{◌≡◌, length}
use Rattle.dense.specs.Lent.{table}
use Rattle.script_input.specs.Machine.{machine}
use Rattle.script_input.proofs.Steps.{Feeding}
use Rattle.script_feed.proofs.feed.Given as goal

abbrev pub invariant-loop-i : goal.invariant-loop-i
invariant-loop-i l =
    (length l.versions ≡ length l.initial.versions) × (length l.links ≡ length l.initial.links) × (length l.keys ≡ length l.initial.keys) × (length l.values ≡ length l.initial.values)
    × (length l.line ≡ length l.initial.line) × (length l.out ≡ length l.initial.out)
    × Feeding (machine (table l.initial.versions l.initial.links l.initial.keys l.initial.values l.initial.step.header) l.initial.step.count l.initial.line l.initial.out) (machine (table l.versions l.links l.keys l.values l.step.header) l.step.count l.line l.out) l.part l.step.end l.i
