-- The calls on one key or slot (the rules, sections "Secondary map" and "Refusal numbers and their order"):
-- each is a function from a map to an answer and the map after it. Assumes nothing.
use Rattle.std.specs.Prelude.{Bool, cond, List, ℕ, zero, suc, ◌+◌, ◌-◌, max, leb, ltb, eqb, length, get_or, set}
use Rattle.keys.specs.Keys.{idx, version, odd, pack, key_of, is_null}
use Rattle.keys.specs.declared.KeyData.{KeyData}
use Rattle.map.specs.declared.MapHeader.{MapHeader}
use Rattle.map.specs.Map.{Map, ver, val, lengths_fit, has_shape, is_there, absent, older, grown, with_value, stored, emptied}

-- ---- answers

-- what a call answers: a value; a number of elements; a yes or no; one of insert's four answers; an element's key and value with the
-- place after it; "done"; or the number of a refusal
pub data Said : Type 0 where
  said_value : ℕ → Said
  said_count : ℕ → Said
  said_truth : Bool → Said
  said_ignored : Said
  said_replaced : ℕ → Said
  said_kept : Said
  said_stored : Said
  said_element : ℕ → ℕ → ℕ → Said
  said_done : Said
  refused : ℕ → Said

-- an answer, and the map after the call
abbrev pub Out : Type 0
Out = Said × Map

-- what a judgement finds before anything is written: a slot; or the number of the refusal
pub data Judged : Type 0 where
  found : ℕ → Judged
  fails : ℕ → Judged

-- "each gives its number only and writes nothing"
abbrev pub on : Map → Judged → (ℕ → Out) → Out
on m (found i) accept = accept i
on m (fails r) accept = (refused r, m)

-- ---- fresh

-- how a map begins: with a header; or the number of the refusal
pub data Begun : Type 0 where
  begins : MapHeader → Begun
  cannot : ℕ → Begun

-- "slot 0 gets version 0; s=1, count 0"
abbrev pub fresh_head : MapHeader
fresh_head = record { s = 1; count = 0 }

-- the map that it begins
unfoldable pub fresh_map : List ℕ → List ℕ → Map
fresh_map vs xs = record { versions = set vs 0 0; values = xs; head = fresh_head }

-- the answer, and the versions after it: "it judges lengths only"
unfoldable pub fresh : List ℕ → List ℕ → Begun × List ℕ
fresh vs xs = cond (lengths_fit vs xs) (begins fresh_head, set vs 0 0) (cannot 1, vs)

-- ---- calls that only look

unfoldable pub len : Map → Said
len m = cond (has_shape m) (said_count m.head.count) (refused 1)

unfoldable pub is_empty : Map → Said
is_empty m = cond (has_shape m) (said_truth (eqb m.head.count 0)) (refused 1)

unfoldable pub contains : Map → ℕ → Said
contains m k = cond (has_shape m) (said_truth (is_there m (idx k) (version k))) (refused 1)

-- ---- lookup and put

-- the slot of a key that is there: 1, then 2
unfoldable pub slot_in : Map → ℕ → ℕ → Judged
slot_in m i v = cond (is_there m i v) (found i) (fails (absent m i v))

unfoldable pub slot : Map → ℕ → Judged
slot m k = cond (has_shape m) (slot_in m (idx k) (version k)) (fails 1)

-- the answer for a key that is not there
abbrev pub gone : Map → ℕ → Said
gone m k = refused (absent m (idx k) (version k))

unfoldable pub lookup : Map → ℕ → Out
lookup m k = on m (slot m k) (λ i. (said_value (val m i), m))

-- the value of a key that is there is overwritten, and the old one answered
unfoldable pub put : Map → ℕ → ℕ → Out
put m k x = on m (slot m k) (λ i. (said_value (val m i), with_value m i x))

-- ---- insert

-- what an insert comes to, before anything is written; an element that is stored leaves so many elements
pub data Fate : Type 0 where
  ignores : Fate
  replaces : Fate
  keeps : Fate
  stores : ℕ → Fate
  bars : ℕ → Fate

-- in a map of so many slots and elements, a key's slot of version w and the key's version v:
-- "same version: replace"; "occupied by a newer version: kept"; "else stored; the count grows only if the slot was vacant";
-- "counting up at or above the new s−1 is 5"
unfoldable pub settled : ℕ → ℕ → ℕ → ℕ → Fate
settled slots elements w v =
    cond (eqb w v) replaces
    (cond (eqb w 0)
    (cond (ltb elements (slots - 1)) (stores (elements + 1)) (bars 5))
    (cond (older v w) keeps (stores elements)))

abbrev pub fate_in : Map → ℕ → ℕ → Fate
fate_in g i v = settled g.head.s g.head.count (ver g i) v

-- "null key: ignored; index 0: 9; index ≥ L: 8"; versions are compared in the map as it has grown
unfoldable pub fate : Map → KeyData → Fate
fate m key =
    cond (has_shape m)
    (cond (is_null key) ignores
    (cond (eqb key.idx 0) (bars 9)
    (cond (leb (length m.versions) key.idx) (bars 8)
    (fate_in (grown m key.idx) key.idx key.version))))
    (bars 1)

-- the outcome of a fate: m is the map before, g the map grown to the key's index
abbrev pub fated : Map → Map → KeyData → ℕ → Fate → Out
fated m g key x ignores = (said_ignored, m)
fated m g key x replaces = (said_replaced (val g key.idx), with_value g key.idx x)
fated m g key x keeps = (said_kept, g)
fated m g key x (stores n) = (said_stored, stored g key.idx key.version x n)
fated m g key x (bars r) = (refused r, m)

unfoldable pub insert_key : Map → KeyData → ℕ → Out
insert_key m key x = fated m (grown m key.idx) key x (fate m key)

unfoldable pub insert : Map → ℕ → ℕ → Out
insert m k x = insert_key m (key_of k) x

-- ---- remove

-- an element can leave slot i, unless the count is 0: "counting down at 0 is 5"
unfoldable pub leaving_from : Map → ℕ → Judged
leaving_from m i = cond (eqb m.head.count 0) (fails 5) (found i)

abbrev pub leaving_of : Map → Judged → Judged
leaving_of m (found i) = leaving_from m i
leaving_of m (fails r) = fails r

unfoldable pub leaving : Map → ℕ → Judged
leaving m k = leaving_of m (slot m k)

unfoldable pub remove : Map → ℕ → Out
remove m k = on m (leaving m k) (λ i. (said_value (val m i), emptied m i))

-- ---- drain step, and the step that only looks

-- the lowest occupied slot of n slots from slot i on, by their versions; where there is none, the slot after them
unfoldable pub seek : List ℕ → ℕ → ℕ → ℕ
seek vs zero i = i
seek vs (suc n) i = cond (eqb (get_or vs i 0) 0) (seek vs n (i + 1)) i

-- "from a given place on (0 reads as 1)"
unfoldable pub ahead : Map → ℕ → ℕ
ahead m p = seek m.versions (m.head.s - max p 1) (max p 1)

-- the key of the element in slot i, made as the Rust makes it: the version's lowest bit is set
unfoldable pub key_at : Map → ℕ → ℕ
key_at m i = pack i (odd (ver m i))

-- an element's key and value, "and the place after it"
abbrev pub element : Map → ℕ → Said
element m i = said_element (key_at m i) (val m i) (i + 1)

-- what stands ahead: a slot; or nothing; or the number of the refusal
pub data Met : Type 0 where
  meets : ℕ → Met
  nothing : Met
  stops : ℕ → Met

unfoldable pub met : Map → ℕ → Met
met m p = cond (has_shape m) (cond (ltb (ahead m p) m.head.s) (meets (ahead m p)) nothing) (stops 1)

abbrev pub looked : Map → Met → Said
looked m (meets i) = element m i
looked m nothing = said_done
looked m (stops r) = refused r

unfoldable pub peek : Map → ℕ → Said
peek m p = looked m (met m p)

-- "takes the occupied slot of lowest index .., or answers done"
abbrev pub drained : Map → Met → Out
drained m (meets i) = on m (leaving_from m i) (λ j. (element m j, emptied m j))
drained m nothing = (said_done, m)
drained m (stops r) = (refused r, m)

unfoldable pub drain : Map → ℕ → Out
drain m p = drained m (met m p)
