-- `dense_drain::last_slot` meets its contract: the index first, then version and link.
use mathlib.Core.Path.{◌∙◌, sym}
use Rattle.table.proofs.Judging.{held_low, held_high, held-version, held_link, held_yes}
use Rattle.dense_drain.proofs.last_slot.Goals as goal

pub returns-then-j-lt1 : goal.returns-then-j-lt1
returns-then-j-lt1 c = held_low _ _ (rw c.from_ffi-j.ensures at c.if-j-lt1.true)

pub returns-then-h-j : goal.returns-then-h-j
returns-then-h-j c = held_high _ _ (rw c.from_ffi-j.ensures at c.if-j-lt1.false) (rw c.from_ffi-j.ensures at c.if-h-j.true)

pub returns-then-versions-i : goal.returns-then-versions-i
returns-then-versions-i c = held-version _ _ (rw c.from_ffi-j.ensures at c.if-j-lt1.false) (rw c.from_ffi-j.ensures at c.if-h-j.false) (λ e. (rw c.from_ffi-j.ensures at c.if-versions-i.true) (e ∙ sym c.raw_version.ensures))

pub returns-then-links-i : goal.returns-then-links-i
returns-then-links-i c = held_link _ _ (rw c.from_ffi-j.ensures at c.if-j-lt1.false) (rw c.from_ffi-j.ensures at c.if-h-j.false) ((rw c.from_ffi-j.ensures at c.if-versions-i.false) ∙ c.raw_version.ensures) (rw c.from_ffi-j.ensures at c.if-links-i.true)

pub returns : goal.returns
returns c = rw c.from_ffi-j.ensures (held_yes _ _ (rw c.from_ffi-j.ensures at c.if-j-lt1.false) (rw c.from_ffi-j.ensures at c.if-h-j.false) ((rw c.from_ffi-j.ensures at c.if-versions-i.false) ∙ c.raw_version.ensures) (rw c.from_ffi-j.ensures at c.if-links-i.false))
