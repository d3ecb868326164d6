-- `dense_next::next_in` meets its contract: the free head first, then a new slot.
use mathlib.Core.Path.{ap, ◌∙◌}
use Rattle.keys.proofs.Versions.{told-odd, told-even}
use Rattle.keys.specs.Keys.{number_of}
use Rattle.table.specs.Calls.{said_key, key_said}
use Rattle.table.proofs.Judging.{next-odd, next_low, next-high, next_crowded, next_free_lem, next-full, next-new}
use Rattle.dense_next.proofs.next_in.Goals as goal

pub returns-then-is_odd : goal.returns-then-is_odd
returns-then-is_odd c = ap key_said (next-odd _ c.if-h.true (told-odd _ c.is_odd.ensures c.if-is_odd.true))

pub returns-then-link-lt1 : goal.returns-then-link-lt1
returns-then-link-lt1 c = ap key_said (next_low _ c.if-h.true (told-even _ c.is_odd.ensures c.if-is_odd.false) c.if-link-lt1.true)

pub returns-then-h-link : goal.returns-then-h-link
returns-then-h-link c = ap key_said (next-high _ c.if-h.true (told-even _ c.is_odd.ensures c.if-is_odd.false) c.if-link-lt1.false c.if-h-link.true)

pub returns-then-h-2 : goal.returns-then-h-2
returns-then-h-2 c = ap key_said (next_crowded _ c.if-h.true (told-even _ c.is_odd.ensures c.if-is_odd.false) c.if-link-lt1.false c.if-h-link.false c.if-h-2.true)

pub returns-then-h : goal.returns-then-h
returns-then-h c = ap said_key (c.as_ffi.ensures ∙ ap number_of c.new.ensures) ∙ ap key_said (next_free_lem _ c.if-h.true (told-even _ c.is_odd.ensures c.if-is_odd.false) c.if-link-lt1.false c.if-h-link.false c.if-h-2.false)

pub returns-then-keys-h : goal.returns-then-keys-h
returns-then-keys-h c = ap key_said (next-full _ c.if-h.false c.if-keys-h.true)

pub returns : goal.returns
returns c = ap said_key (c.as_ffi-2.ensures ∙ ap number_of c.new-2.ensures) ∙ ap key_said (next-new _ c.if-h.false c.if-keys-h.false)
