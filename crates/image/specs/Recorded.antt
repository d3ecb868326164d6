-- What the theorems say of a rebuilt table: the lists and records that it is rebuilt from, the record of a key, and the base from which lists of
-- calls are read (the rules, section "The slot image"). Assumes nothing.
use Rattle.std.specs.Prelude.{◌≡◌, Bool, true, cond, ◌&&◌, List, [], ℕ, ◌+◌, ◌≤◌, ◌<◌, leb, ltb, eqb, length}
use Rattle.std.proofs.Math.Option.{Option, none, some}
use Rattle.lists.specs.Listed.{picked}
use Rattle.writing.specs.Told.{tells}
use Rattle.keys.specs.Keys.{idx, version}
use Rattle.records.specs.declared.Record.{Record}
use Rattle.records.specs.Records.{version_of, FitAll}
use Rattle.table.specs.Table.{lengths_fit}
use Rattle.history.specs.Reading.{Reading}
use Rattle.image.specs.Rebuild.{fitting, slot_in, value_of, is_full, key_in, val_in}

-- lists whose lengths fit, and an accepted list of records for them: at most C+1, of machine numbers, with no fault 13 or 14
pub record Given (vs ls ks xs : List ℕ) (l : List Record) : Type 0 where
  pub fit : lengths_fit vs ls ks xs ≡ true
  pub fits : fitting l ≡ tells l
  pub few : length l ≤ length ks + 1
  pub words : FitAll l

-- "live when 1 ≤ index < s and the slot's version equals the key's", said of the records: the one at a key's index, if that has its version
unfoldable pub is_recorded : List Record → ℕ → Bool
is_recorded l k = leb 1 (idx k) && (ltb (idx k) (length l) && eqb (version_of (slot_in l (idx k))) (version k))

unfoldable pub recorded : List Record → ℕ → Option ℕ
recorded l k = cond (is_recorded l k) (some (value_of (slot_in l (idx k)))) none

-- the same as facts
pub record Recorded (l : List Record) (k : ℕ) : Type 0 where
  pub low : 1 ≤ idx k
  pub high : idx k < length l
  pub same : version_of (slot_in l (idx k)) ≡ version k

-- the keys of the occupied slots with their values, in slot order
abbrev pub live_in : List Record → List (ℕ × ℕ)
live_in l = picked (is_full l) (λ i. (key_in l i, val_in l i)) (length l)

-- what a rebuilt table's calls are read from: these keys live, and none is detached
abbrev pub base_of : List Record → Reading
base_of l = record { live = live_in l; detached = [] }
