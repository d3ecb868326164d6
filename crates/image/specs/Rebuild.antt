-- A table rebuilt from an image (the rules, section "The slot image"), said of the image's list of records. Assumes nothing.
--
-- The records  0 -, 2 -, 1 300, 4 -  (version and value) become, with C = 3:
--
--     slot          0    1    2    3          place        0    1    2
--     versions      0    2    1    4          keys        2v1   ·    ·
--     links         0    4    0    1          values      300   ·    ·
--
--     n = 1    s = 4    f = 3 (the next insert takes slot 3, then slot 1); `·` stays as it was
use Rattle.std.specs.Prelude.{Bool, cond, ◌&&◌, List, [], ◌∷◌, ℕ, ◌+◌, ◌%◌, leb, eqb, length, get_or}
use Rattle.lists.specs.Count.{count}
use Rattle.lists.specs.Put.{put}
use Rattle.lists.specs.Listed.{listed, picked}
use Rattle.writing.specs.Told.{Told, tells, refused, onward}
use Rattle.keys.specs.Keys.{pack}
use Rattle.records.specs.declared.Record.{Record}
use Rattle.records.specs.declared.Record.TheVariants.{Vacant, Occupied}
use Rattle.records.specs.Records.{version_of, presence_of, records_of}
use Rattle.summaries.specs.declared.Summary.{Summary}
use Rattle.summaries.specs.Summaries.{lives, wrongs, judged_of}
use Rattle.table.specs.declared.Header.{Header}
use Rattle.table.specs.Table.{Table, lengths_fit}
use Rattle.table.specs.Calls.{Begun, begins, cannot}
use Rattle.table.specs.Thread.{next_free}

-- ---- the last faults, over the list of records: "then 13; then 14"

-- 13: whether a first record of this version and presence is wrong. The presence is given though it does not count: "whatever even version or
-- value its record had"
unfoldable pub first_wrong : ℕ → ℕ → Bool
first_wrong version presence = eqb (version % 2) 1

-- 13 "no first slot, or its version is odd"; 14 "version odd without value or even with one, slot 1 up"
unfoldable pub fitting : List Record → Told (List Record)
fitting [] = refused 13
fitting (r ∷ l) = cond (first_wrong (version_of r) (presence_of r)) (refused 13) (cond (eqb (wrongs l) 0) (tells (r ∷ l)) (refused 14))

-- the records of an image of at most so many slots, or its first fault
unfoldable pub judged_image : List ℕ → ℕ → Told (List Record)
judged_image bytes most = onward (records_of bytes most) fitting

-- how many slots an image has, and how many of them from slot 1 up are occupied
unfoldable pub counts_in : List Record → ℕ × ℕ
counts_in [] = (0, 0)
counts_in (r ∷ l) = (length (r ∷ l), lives l)

unfoldable pub judged_counts : List ℕ → ℕ → Told (ℕ × ℕ)
judged_counts bytes most = onward (judged_image bytes most) (λ l. tells (counts_in l))

-- ---- the same faults, over what a judge keeps of the records

unfoldable pub fitting_summary : ℕ × Summary → Told (ℕ × Summary)
fitting_summary j =
    cond (eqb j.1.count 0) (refused 13)
    (cond (first_wrong j.1.version j.1.presence) (refused 13)
    (cond (eqb j.1.wrong 0) (tells j) (refused 14)))

-- the place of an image's first record, and what is kept of its records; or its first fault
unfoldable pub judged_at : List ℕ → ℕ → Told (ℕ × Summary)
judged_at s most = onward (judged_of s most) fitting_summary

-- ---- what the records say of each slot

-- the record of slot i
abbrev pub slot_in : List Record → ℕ → Record
slot_in l i = get_or l i (Vacant 0)

abbrev pub value_of : Record → ℕ
value_of (Vacant v) = 0
value_of (Occupied v x) = x

-- the slots that have a value, and those that have none; slot 0 is neither
unfoldable pub is_full : List Record → ℕ → Bool
is_full l i = leb 1 i && eqb (presence_of (slot_in l i)) 1

unfoldable pub is_bare : List Record → ℕ → Bool
is_bare l i = leb 1 i && eqb (presence_of (slot_in l i)) 0

-- "slot 0 becomes version 0, link 0, whatever even version or value its record had"
unfoldable pub ver_in : List Record → ℕ → ℕ
ver_in l i = cond (eqb i 0) 0 (version_of (slot_in l i))

-- "occupied slots fill places in slot order"; "each vacant slot takes [the next-free number] as link"
unfoldable pub link_in : List Record → ℕ → ℕ
link_in l i = cond (is_full l i) (count (is_full l) i) (cond (is_bare l i) (next_free (is_bare l) (length l) i) 0)

-- an occupied slot's key and value
abbrev pub key_in : List Record → ℕ → ℕ
key_in l i = pack i (version_of (slot_in l i))

abbrev pub val_in : List Record → ℕ → ℕ
val_in l i = value_of (slot_in l i)

-- ---- the table

-- once the slots below m have been stored; "nothing beyond n and s is written"
unfoldable pub rebuilt_to : List ℕ → List ℕ → List ℕ → List ℕ → List Record → ℕ → Table
rebuilt_to vs ls ks xs l m =
    record {
      versions = put vs 0 (listed (ver_in l) m);
      links = put ls 0 (listed (link_in l) m);
      keys = put ks 0 (picked (is_full l) (key_in l) m);
      values = put xs 0 (picked (is_full l) (val_in l) m);
      head = record { n = count (is_full l) m; s = m; f = next_free (is_bare l) (length l) m };
    }

unfoldable pub rebuilt : List ℕ → List ℕ → List ℕ → List ℕ → List Record → Table
rebuilt vs ls ks xs l = rebuilt_to vs ls ks xs l (length l)

-- of an image for these lists
unfoldable pub rebuilt_from : List ℕ → List ℕ → List ℕ → List ℕ → List ℕ → Told Table
rebuilt_from vs ls ks xs bytes = onward (judged_image bytes (length ks + 1)) (λ l. tells (rebuilt vs ls ks xs l))

-- ---- rebuild

-- the four lists
pub record Arrays : Type 0 where
  pub versions : List ℕ
  pub links : List ℕ
  pub keys : List ℕ
  pub values : List ℕ

abbrev pub arrays : List ℕ → List ℕ → List ℕ → List ℕ → Arrays
arrays vs ls ks xs = record { versions = vs; links = ls; keys = ks; values = xs }

abbrev pub arrays_of : Table → Arrays
arrays_of t = record { versions = t.versions; links = t.links; keys = t.keys; values = t.values }

-- the table of a header and the lists
abbrev pub table_of : Header → Arrays → Table
table_of h a = record { versions = a.versions; links = a.links; keys = a.keys; values = a.values; head = h }

-- a table begins; or a refusal, and the lists stay
abbrev pub begun : Arrays → Told Table → Begun × Arrays
begun a (tells t) = (begins t.head, arrays_of t)
begun a (refused k) = (cannot k, a)

-- "fresh and rebuild judge only the array lengths under 1, before image faults"
unfoldable pub rebuild : List ℕ → List ℕ → List ℕ → List ℕ → List ℕ → Begun × Arrays
rebuild vs ls ks xs bytes =
    begun (arrays vs ls ks xs)
    (cond (lengths_fit vs ls ks xs) (rebuilt_from vs ls ks xs bytes) (refused 1))
