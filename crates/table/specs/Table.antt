-- The dense table as lists and numbers (the rules, section "The dense table"). Assumes nothing.
--
-- A table of C = 3 after insert 7, insert 300, remove 1v1:
--
--     slot          0    1    2    3          place        0    1    2
--     versions      0    2    1    ·          keys        2v1  2v1   ·
--     links         0    3    0    ·          values      300  300   ·
--
--     n = 1 (one element, at place 0)    s = 3 (slots 0, 1 and 2)    f = 1 (the next insert takes slot 1, then slot 3)
--
-- A version is odd in an occupied slot, whose link is the place of its element; an even one's link is the next free slot,
-- or 4,294,967,295 where the slot is detached. Slot 0 is never used. `·` and what stands past n and s may be anything.
use Rattle.std.specs.Prelude.{Bool, cond, ◌&&◌, List, ℕ, ◌+◌, ◌-◌, ◌%◌, leb, ltb, eqb, length, get_or, set}
use Rattle.keys.specs.Keys.{far, idx, vsn, pack, up}
use Rattle.table.specs.declared.Header.{Header}

-- "slot versions and slot links (32-bit, C+1 long), keys and values (64-bit, C long)", and the header
pub record Table : Type 0 where
  pub versions : List ℕ
  pub links : List ℕ
  pub keys : List ℕ
  pub values : List ℕ
  pub head : Header

-- a slot's version and link, a place's key and value, and C
abbrev pub ver : Table → ℕ → ℕ
ver t i = get_or t.versions i 0

abbrev pub link : Table → ℕ → ℕ
link t i = get_or t.links i 0

abbrev pub key : Table → ℕ → ℕ
key t p = get_or t.keys p 0

abbrev pub val : Table → ℕ → ℕ
val t p = get_or t.values p 0

abbrev pub cap : Table → ℕ
cap t = length t.keys

-- ---- shape

-- "0 ≤ C ≤ 4,096"
abbrev pub limit : ℕ
limit = 4096

-- the lengths fit: C keys and values, C + 1 versions and links
unfoldable pub lengths_fit : List ℕ → List ℕ → List ℕ → List ℕ → Bool
lengths_fit vs ls ks xs =
    leb (length ks) limit
    && (eqb (length vs) (length ks + 1)
    && (eqb (length ls) (length ks + 1)
    && eqb (length xs) (length ks)))

-- "Shape holds when the lengths fit, 1 ≤ s ≤ C+1, n ≤ s−1 and 1 ≤ f ≤ s"
unfoldable pub has_shape : Table → Bool
has_shape t =
    lengths_fit t.versions t.links t.keys t.values
    && (leb 1 t.head.s
    && (leb t.head.s (cap t + 1)
    && (leb t.head.n (t.head.s - 1)
    && (leb 1 t.head.f
    && leb t.head.f t.head.s))))

-- ---- the tests behind the refusals, on a table that has its shape; i is a key's index and v its version, as read

-- 2: "live when 1 ≤ index < s and the slot's version equals the key's"
unfoldable pub is_live : Table → ℕ → ℕ → Bool
is_live t i v = leb 1 i && (ltb i t.head.s && eqb (ver t i) v)

-- the refusal of a key that is not live is 2. It uses neither the table nor the key that it is given: what cites it rests on no number, so a rule
-- that told dead keys apart would change this line alone
unfoldable pub dead : Table → ℕ → ℕ → ℕ
dead t i v = 2

-- 4: "index from 1 to s−1, slot version equals key version plus one, wrapping, and link 4,294,967,295"
unfoldable pub is_detached : Table → ℕ → ℕ → Bool
is_detached t i v = leb 1 i && (ltb i t.head.s && (eqb (ver t i) (up v) && eqb (link t i) far))

-- 5 unless: the live key's link is a place, and that place holds the key
unfoldable pub is_held : Table → ℕ → ℕ → Bool
is_held t i v = ltb (link t i) t.head.n && eqb (key t (link t i)) (pack i v)

-- the last place, and the index of the key there
abbrev pub last : Table → ℕ
last t = t.head.n - 1

abbrev pub last_idx : Table → ℕ
last_idx t = idx (key t (last t))

-- 5 unless: "the last key's index is from 1 to s−1"
unfoldable pub last_in_range : Table → Bool
last_in_range t = leb 1 (last_idx t) && ltb (last_idx t) t.head.s

-- 5 unless: that, and "its slot holds that version and link n−1"
unfoldable pub last_is_held : Table → Bool
last_is_held t = last_in_range t && (eqb (ver t (last_idx t)) (vsn (key t (last t))) && eqb (link t (last_idx t)) (last t))

-- there is a place for one element more: n is not s − 1
abbrev pub has_place : Table → Bool
has_place t = ltb t.head.n (t.head.s - 1)

-- 5 unless: slot f's version is even, its link is from 1 to s, and n is not s − 1
unfoldable pub head_is_free : Table → Bool
head_is_free t =
    eqb (ver t t.head.f % 2) 0
    && (leb 1 (link t t.head.f)
    && (leb (link t t.head.f) t.head.s
    && has_place t))

-- ---- headers after a call

-- one element fewer, and the slot i is the free head; or it is not on the free list
abbrev pub freed_head : Header → ℕ → Header
freed_head h i = record { n = h.n - 1; s = h.s; f = i }

abbrev pub parted_head : Header → Header
parted_head h = record { n = h.n - 1; s = h.s; f = h.f }

-- one element more: in the free head, whose link l is the next one; in a new slot; or in a detached slot
abbrev pub taken_head : Header → ℕ → Header
taken_head h l = record { n = h.n + 1; s = h.s; f = l }

abbrev pub grown_head : Header → Header
grown_head h = record { n = h.n + 1; s = h.s + 1; f = h.s + 1 }

abbrev pub rejoined_head : Header → Header
rejoined_head h = record { n = h.n + 1; s = h.s; f = h.f }

-- ---- what the accepted calls leave

-- put: "overwrites that value only"
unfoldable pub with_value : Table → ℕ → ℕ → Table
with_value t p x =
    record { versions = t.versions; links = t.links; keys = t.keys; values = set t.values p x; head = t.head }

-- slot i takes an element: its version becomes v and its link n; key k and value x go to place n
unfoldable pub entered : Table → ℕ → ℕ → ℕ → ℕ → Header → Table
entered t i v k x head' =
    record {
      versions = set t.versions i v;
      links = set t.links i t.head.n;
      keys = set t.keys t.head.n k;
      values = set t.values t.head.n x;
      head = head';
    }

-- slot i lets its element go (the Rust's free_slot): "the slot's version goes up by one, wrapping", and its link becomes l
unfoldable pub freed : Table → ℕ → ℕ → Header → Table
freed t i l head' =
    record {
      versions = set t.versions i (up (ver t i));
      links = set t.links i l;
      keys = t.keys;
      values = t.values;
      head = head';
    }

-- "the last key and value move into it and that key's slot link becomes it": place p is filled from place q
unfoldable pub filled : Table → ℕ → ℕ → Table
filled u p q =
    record {
      versions = u.versions;
      links = set u.links (idx (key u q)) p;
      keys = set u.keys p (key u q);
      values = set u.values p (val u q);
      head = u.head;
    }

-- the element of slot i leaves (the Rust's remove_from_slot): the slot is freed first; then, "unless the freed place is the last",
-- the last element moves into it, and its slot's link is written last
unfoldable pub left : Table → ℕ → ℕ → Header → Table
left t i l head' =
    cond (eqb (link t i) (last t)) (freed t i l head') (filled (freed t i l head') (link t i) (last t))
