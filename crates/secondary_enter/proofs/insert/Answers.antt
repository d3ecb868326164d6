-- `secondary_enter::insert` meets its contract: what the insert comes to is judged, and then stored.
use mathlib.Core.Path.{refl, sym, ap, ◌∙◌}
use native.Mathlib.Omega.{arith}
use Rattle.map.specs.Map.{Map, with_value}
use Rattle.map.specs.Calls.{said_stored}
use Rattle.map.proofs.Ways.{insert_by, insert_key_lem}
use Rattle.secondary_enter.proofs.Told.{told-fits, told-out, told-old}
use Rattle.secondary_enter.proofs.insert.Goals as goal

pub bounds-values-i : goal.bounds-values-i
bounds-values-i c = omega (arith, told-fits _ _ _ _ c.from_ffi-key.ensures c.in-Ok.ensures _ c.in-Replaces.is refl)

pub bounds-values-i-in-Replaces : goal.bounds-values-i-in-Replaces
bounds-values-i-in-Replaces c = omega (arith, told-fits _ _ _ _ c.from_ffi-key.ensures c.in-Ok.ensures _ c.in-Replaces.is refl)

pub store-requires : goal.store-requires
store-requires c = omega (arith, told-fits _ _ _ _ c.from_ffi-key.ensures c.in-Ok.ensures _ c.in-Stores.is refl)

pub returns-in-Err : goal.returns-in-Err
returns-in-Err c = sym (insert_by _ _ _ _ (sym c.in-Err.ensures)) ∙ insert_key_lem _ _ _ c.from_ffi-key.ensures

pub returns-in-Ignores : goal.returns-in-Ignores
returns-in-Ignores c = told-out _ _ _ _ c.from_ffi-key.ensures c.in-Ok.ensures _ c.in-Ignores.is _

pub returns-in-Replaces : goal.returns-in-Replaces
unfolding with_value
returns-in-Replaces c = told-old _ _ _ _ c.from_ffi-key.ensures c.in-Ok.ensures _ c.in-Replaces.is _ refl

pub returns-in-Keeps : goal.returns-in-Keeps
returns-in-Keeps c = told-old _ _ _ _ c.from_ffi-key.ensures c.in-Ok.ensures _ c.in-Keeps.is _ refl

pub returns-in-Stores : goal.returns-in-Stores
returns-in-Stores c = ap (λ (u : Map). (said_stored, u)) c.store.ensures ∙ told-out _ _ _ _ c.from_ffi-key.ensures c.in-Ok.ensures _ c.in-Stores.is _
