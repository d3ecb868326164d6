-- The calls on one key or element (the rules, sections "The dense table" and "Refusal numbers and their order"):
-- each is a function from a table to an answer and the table after it. Assumes nothing.
use Rattle.std.specs.Prelude.{Bool, cond, List, [], ℕ, leb, ltb, eqb, set, take}
use Rattle.keys.specs.Keys.{far, idx, pack, version, as_read, odd, down}
use Rattle.table.specs.declared.Header.{Header}
use Rattle.table.specs.Table.{Table, ver, link, key, val, cap, lengths_fit, has_shape, is_live, dead, is_detached, is_held, last, last_idx, last_in_range, last_is_held, has_place, head_is_free, freed_head, parted_head, taken_head, grown_head, rejoined_head, with_value, entered, freed, left}

-- ---- answers

-- what a call answers: a key, a value, a key and its value, a number, a yes or no; that it is done ("done" of a drain step, and of the calls that have
-- nothing else to say: reattach, retain, clear, disjoint); or the number of a refusal
pub data Said : Type 0 where
  said_key : ℕ → Said
  said_value : ℕ → Said
  said_pair : ℕ → ℕ → Said
  said_done : Said
  said_count : ℕ → Said
  said_truth : Bool → Said
  refused : ℕ → Said

-- an answer, and the table after the call
abbrev pub Out : Type 0
Out = Said × Table

-- what a judgement finds before anything is written: a place, a slot or a key; or the number of the refusal
pub data Judged : Type 0 where
  found : ℕ → Judged
  fails : ℕ → Judged

-- "each gives its number only and writes nothing"
abbrev pub on : Table → Judged → (ℕ → Out) → Out
on t (found p) accept = accept p
on t (fails r) accept = (refused r, t)

-- ---- fresh

-- how a table begins: with a header; or the number of the refusal
pub data Begun : Type 0 where
  begins : Header → Begun
  cannot : ℕ → Begun

-- "slot 0 gets version 0, link 0; n=0, s=1, f=1; nothing else is written"
abbrev pub fresh_head : Header
fresh_head = record { n = 0; s = 1; f = 1 }

-- the answer, and the versions and links after it: "fresh and rebuild judge only the array lengths under 1"
unfoldable pub fresh : List ℕ → List ℕ → List ℕ → List ℕ → Begun × (List ℕ × List ℕ)
fresh vs ls ks xs = cond (lengths_fit vs ls ks xs) (begins fresh_head, (set vs 0 0, set ls 0 0)) (cannot 1, (vs, ls))

-- the table that it leaves, where it answers the header h
abbrev pub fresh_table : List ℕ → List ℕ → List ℕ → List ℕ → Header → Table
fresh_table vs ls ks xs h =
    record { versions = (fresh vs ls ks xs).1.0; links = (fresh vs ls ks xs).1.1; keys = ks; values = xs; head = h }

-- ---- calls that only look

unfoldable pub len : Table → Said
len t = cond (has_shape t) (said_count t.head.n) (refused 1)

unfoldable pub is_empty : Table → Said
is_empty t = cond (has_shape t) (said_truth (eqb t.head.n 0)) (refused 1)

unfoldable pub contains : Table → ℕ → Said
contains t k = cond (has_shape t) (said_truth (is_live t (idx k) (version k))) (refused 1)

-- "the first n keys, and the first n values, come back as parts of the caller's arrays; an empty part if shape fails"
unfoldable pub listed_keys : Table → List ℕ
listed_keys t = cond (has_shape t) (take t.head.n t.keys) []

unfoldable pub listed_values : Table → List ℕ
listed_values t = cond (has_shape t) (take t.head.n t.values) []

-- ---- lookup and put

-- the place of a live key: "its link is the place"; 2, then 5
unfoldable pub place_in : Table → ℕ → ℕ → Judged
place_in t i v = cond (is_live t i v) (cond (is_held t i v) (found (link t i)) (fails 5)) (fails (dead t i v))

unfoldable pub place : Table → ℕ → Judged
place t k = cond (has_shape t) (place_in t (idx k) (version k)) (fails 1)

-- "its value is answered"
unfoldable pub lookup : Table → ℕ → Out
lookup t k = on t (place t k) (λ p. (said_value (val t p), t))

-- "put overwrites that value only and answers the old one"
unfoldable pub put : Table → ℕ → ℕ → Out
put t k x = on t (place t k) (λ p. (said_value (val t p), with_value t p x))

-- ---- insert

-- the key that an insert issues: of the free head, its version with the lowest bit set, or 5; of a new slot, version 1, or 3
unfoldable pub next_in : Table → Judged
next_in t =
    cond (ltb t.head.f t.head.s)
    (cond (head_is_free t) (found (pack t.head.f (odd (ver t t.head.f)))) (fails 5))
    (cond (leb t.head.s (cap t)) (found (pack t.head.s 1)) (fails 3))

unfoldable pub next : Table → Judged
next t = cond (has_shape t) (next_in t) (fails 1)

-- "if f < s, take slot f: its version has the lowest bit set, f becomes its link, its link becomes n;
-- else append slot s with version 1, link n; then s grows by one and f becomes the new s; key and value go to place n; n grows"
unfoldable pub inserted : Table → ℕ → ℕ → Table
inserted t k x =
    cond (ltb t.head.f t.head.s)
    (entered t t.head.f (odd (ver t t.head.f)) k x (taken_head t.head (link t t.head.f)))
    (entered t t.head.s 1 k x (grown_head t.head))

unfoldable pub insert : Table → ℕ → Out
insert t x = on t (next t) (λ k. (said_key k, inserted t k x))

-- "the next key or insert's refusal may be asked beforehand"
abbrev pub key_said : Judged → Said
key_said (found k) = said_key k
key_said (fails r) = refused r

unfoldable pub next_key : Table → Said
next_key t = key_said (next t)

-- ---- remove and detach

-- where the element to leave stands: its place; 2, then 5, for the last key too
abbrev pub last_of : Table → Judged → Judged
last_of t (found p) = cond (last_in_range t) (found p) (fails 5)
last_of t (fails r) = fails r

unfoldable pub leaving : Table → ℕ → Judged
leaving t k = last_of t (place t k)

-- "its link becomes f, f becomes its index; n falls, the value is answered"
unfoldable pub remove : Table → ℕ → Out
remove t k = on t (leaving t k) (λ p. (said_value (val t p), left t (idx k) t.head.f (freed_head t.head (idx k))))

-- "as remove, but the link becomes 4,294,967,295 and f stays"
unfoldable pub detach : Table → ℕ → Out
detach t k = on t (leaving t k) (λ p. (said_value (val t p), left t (idx k) far (parted_head t.head)))

-- ---- reattach

-- the detached slot of a key: 4, then 5
unfoldable pub berth_in : Table → ℕ → ℕ → Judged
berth_in t i v = cond (is_detached t i v) (cond (has_place t) (found i) (fails 5)) (fails 4)

unfoldable pub berth : Table → ℕ → Judged
berth t k = cond (has_shape t) (berth_in t (idx k) (version k)) (fails 1)

-- "version goes back by one, wrapping; key and value go to place n; link is n; n grows"; the key stored is the key as read
unfoldable pub reattach : Table → ℕ → ℕ → Out
reattach t k x = on t (berth t k) (λ i. (said_done, entered t i (down (ver t i)) (as_read k) x (rejoined_head t.head)))

-- ---- drain step

-- "takes the last place, answers its key and value, lowers n and frees its slot; on n=0 it answers done"
unfoldable pub drain : Table → Out
drain t =
    cond (has_shape t)
    (cond (eqb t.head.n 0)
    (said_done, t)
    (cond (last_is_held t)
    (said_pair (key t (last t)) (val t (last t)), freed t (last_idx t) t.head.f (freed_head t.head (last_idx t)))
    (refused 5, t)))
    (refused 1, t)
