-- The secondary map as two lists and a header (the rules, section "Secondary map"). Assumes nothing.
--
-- A map of L = 5 after inserts of 7 at 1v1 and of 300 at 3v5, and a remove of 1v1:
--
--     slot          0    1    2    3    4
--     versions      0    0    0    5    ·
--     values        ·    7    ·   300   ·
--
--     s = 4 (slots 0 to 3)    count = 1
--
-- Version 0 is vacant, and nothing else is. Slot 0 is never used. `·` may be anything: growing writes no value.
use Rattle.std.specs.Prelude.{Bool, cond, not, ◌&&◌, List, ℕ, ◌+◌, ◌-◌, ◌%◌, leb, ltb, eqb, length, get_or, set, replicate}
use Rattle.lists.specs.Put.{put}
use Rattle.keys.specs.Keys.{W}
use Rattle.map.specs.declared.MapHeader.{MapHeader}

-- "lent versions and values", and the header: "slot count s .., element count"
pub record Map : Type 0 where
  pub versions : List ℕ
  pub values : List ℕ
  pub head : MapHeader

-- a slot's version and value
abbrev pub ver : Map → ℕ → ℕ
ver m i = get_or m.versions i 0

abbrev pub val : Map → ℕ → ℕ
val m i = get_or m.values i 0

-- "version 0 is vacant"
abbrev pub is_vacant : Map → ℕ → Bool
is_vacant m i = eqb (ver m i) 0

abbrev pub is_occupied : Map → ℕ → Bool
is_occupied m i = not (is_vacant m i)

-- ---- shape

-- "one length L from 1 to 4,097"
abbrev pub limit : ℕ
limit = 4097

unfoldable pub lengths_fit : List ℕ → List ℕ → Bool
lengths_fit vs xs = leb 1 (length vs) && (leb (length vs) limit && eqb (length xs) (length vs))

-- the lengths fit, and "slot count s from 1 to L"; the element count is no part of it
unfoldable pub has_shape : Map → Bool
has_shape m = lengths_fit m.versions m.values && (leb 1 m.head.s && leb m.head.s (length m.versions))

-- ---- the tests behind the answers, on a map that has its shape; i is a key's index and v its version, as read

-- the key is there: its index is below s, also where it is 0, and its slot's version is the key's
unfoldable pub is_there : Map → ℕ → ℕ → Bool
is_there m i v = ltb i m.head.s && eqb (ver m i) v

-- the refusal of a key that is not there is 2. As the table's `dead`, it uses neither the map nor the key that it is given, and what cites it rests
-- on no number
unfoldable pub absent : Map → ℕ → ℕ → ℕ
absent m i v = 2

-- "'older' compares versions as plain numbers": whether version a is older than version b
unfoldable pub older : ℕ → ℕ → Bool
older a b = ltb a b

-- the Rust's `is_older_version`, `a.wrapping_sub(b) >= 1 << 31`: "equality with the Rust is asked where both are below 2,147,483,648"
abbrev pub half : ℕ
half = 2147483648

abbrev pub is_older_version : ℕ → ℕ → Bool
is_older_version a b = leb half ((a + (W - b)) % W)

-- ---- headers after a call

-- one slot s for each index up to i, and the same elements
abbrev pub grown_head : MapHeader → ℕ → MapHeader
grown_head h i = record { s = i + 1; count = h.count }

-- as many elements as n
abbrev pub counted_head : MapHeader → ℕ → MapHeader
counted_head h n = record { s = h.s; count = n }

-- one element fewer
abbrev pub lowered_head : MapHeader → MapHeader
lowered_head h = counted_head h (h.count - 1)

-- ---- what the accepted calls leave

-- "slots up to the index become vacant (version 0, values untouched), s grows"
unfoldable pub grown : Map → ℕ → Map
grown m i =
    cond (ltb i m.head.s) m
    (record { versions = put m.versions m.head.s (replicate (i + 1 - m.head.s) 0); values = m.values; head = grown_head m.head i })

-- slot i has another value
unfoldable pub with_value : Map → ℕ → ℕ → Map
with_value m i x = record { versions = m.versions; values = set m.values i x; head = m.head }

-- slot i takes version v and value x, and the map has n elements
unfoldable pub stored : Map → ℕ → ℕ → ℕ → ℕ → Map
stored m i v x n =
    record { versions = set m.versions i v; values = set m.values i x; head = counted_head m.head n }

-- "removing sets version 0 and keeps the stored value"; the count falls
unfoldable pub emptied : Map → ℕ → Map
emptied m i = record { versions = set m.versions i 0; values = m.values; head = lowered_head m.head }
