-- The starred spells (the rules, section "Spells to replay"): moves on the definitions of the table, and what each shows. Assumes nothing.
use Rattle.std.specs.Prelude.{List, [], ◌∷◌, ℕ, ◌+◌, take}
use Rattle.lists.specs.Listed.{listed}
use Rattle.keys.specs.declared.KeyData.{KeyData}
use Rattle.keys.specs.Keys.{key_of}
use Rattle.writing.specs.Told as told
use Rattle.table.specs.declared.Header.{Header}
use Rattle.table.specs.Table.{Table, ver}
use Rattle.table.specs.Calls.{Said, Out, Begun, fresh, insert, next_key, remove, detach, reattach}
use Rattle.table.specs.Calls as calls
use Rattle.image.specs.Image.{write_image}
use Rattle.image.specs.Rebuild.{Arrays, rebuild}

-- ---- moves, and what they show

pub data Move : Type 0 where
  inserts : ℕ → Move
  asks_next : Move
  removes : ℕ → Move
  detaches : ℕ → Move
  reattaches : ℕ → ℕ → Move
  writes_image : Move
  rebuilds : List ℕ → Move
  reads_key : ℕ → Move
  looks_at : ℕ → Move

pub data Shown : Type 0 where
  answers : Said → Shown
  image : List ℕ → Shown
  begins : Header → Shown
  faulty : ℕ → Shown
  key : KeyData → Shown
  version : ℕ → Shown

abbrev pub header : ℕ → ℕ → ℕ → Header
header n s f = record { n = n; s = s; f = f }

abbrev pub answered : Out → Shown × Table
answered (said, t) = (answers said, t)

-- the part of the buffer that was written; or the refusal
abbrev pub wrote : told.Told ℕ × List ℕ → Shown
wrote (told.tells n, out) = image (take n out)
wrote (told.refused r, out) = faulty r

-- arrays with a header
abbrev pub with : Arrays → Header → Table
with a h = record { versions = a.versions; links = a.links; keys = a.keys; values = a.values; head = h }

-- a table that begins has the header that is answered; where that is a refusal, the header stays
abbrev pub begun : Header → Begun × Arrays → Shown × Table
begun h (calls.begins g, a) = (begins g, with a g)
begun h (calls.cannot r, a) = (faulty r, with a h)

-- what arrays and buffers hold before
abbrev pub nines : ℕ → List ℕ
nines m = listed (λ i. 9) m

unfoldable pub moved : Table → Move → Shown × Table
moved t (inserts x) = answered (insert t x)
moved t asks_next = (answers (next_key t), t)
moved t (removes k) = answered (remove t k)
moved t (detaches k) = answered (detach t k)
moved t (reattaches k x) = answered (reattach t k x)
moved t writes_image = (wrote (write_image t (nines 16)), t)
moved t (rebuilds bytes) = begun t.head (rebuild t.versions t.links t.keys t.values bytes)
moved t (reads_key k) = (key (key_of k), t)
moved t (looks_at i) = (version (ver t i), t)

unfoldable pub shown : Table → List Move → List Shown
shown t [] = []
shown t (m ∷ ms) = (moved t m).0 ∷ shown (moved t m).1 ms

-- what fresh leaves of the versions and links, with the keys and values
abbrev pub lent : ℕ → Begun × (List ℕ × List ℕ) → Begun × Arrays
lent c (b, (vs, ls)) = (b, record { versions = vs; links = ls; keys = nines c; values = nines c })

-- a fresh table of C elements over nines
unfoldable pub room : ℕ → Table
room c = (begun (header 0 0 0) (lent c (fresh (nines (c + 1)) (nines (c + 1)) (nines c) (nines c)))).1

-- ---- the table of spells

-- a spell: the C of a fresh table, the moves on it, and what they show
pub record Spell : Type 0 where
  pub cap : ℕ
  pub moves : List Move
  pub expected : List Shown

-- "fresh image is 01 00 00"
abbrev pub fresh_image : Spell
fresh_image = record { cap = 2; moves = writes_image ∷ []; expected = image (1 ∷ 0 ∷ 0 ∷ []) ∷ [] }

-- "insert 7, 300: keys 1v1, 2v1, image 03 00 00 01 01 07 01 01 AC 02"; "then remove 1v1: 03 00 00 02 00 01 01 AC 02";
-- "next insert is 1v3, number 12884901889"
abbrev pub two_spells : Spell
two_spells =
    record {
      cap = 2;
      moves = inserts 7 ∷ inserts 300 ∷ writes_image ∷ removes 4294967297 ∷ writes_image ∷ asks_next ∷ inserts 9 ∷ reads_key 12884901889 ∷ [];
      expected =
          answers (Said.said_key 4294967297)
          ∷ answers (Said.said_key 4294967298)
          ∷ image (3 ∷ 0 ∷ 0 ∷ 1 ∷ 1 ∷ 7 ∷ 1 ∷ 1 ∷ 172 ∷ 2 ∷ [])
          ∷ answers (Said.said_value 7)
          ∷ image (3 ∷ 0 ∷ 0 ∷ 2 ∷ 0 ∷ 1 ∷ 1 ∷ 172 ∷ 2 ∷ [])
          ∷ answers (Said.said_key 12884901889)
          ∷ answers (Said.said_key 12884901889)
          ∷ key (record { idx = 1; version = 3 })
          ∷ [];
    }

-- "number 8589934597 reads as 5v3"
abbrev pub read_odd : Spell
read_odd = record { cap = 0; moves = reads_key 8589934597 ∷ []; expected = key (record { idx = 5; version = 3 }) ∷ [] }

-- "C=1, insert, detach: insert is 3, reattach accepted"
abbrev pub detached_room : Spell
detached_room =
    record {
      cap = 1;
      moves = inserts 7 ∷ detaches 4294967297 ∷ inserts 8 ∷ reattaches 4294967297 9 ∷ [];
      expected =
          answers (Said.said_key 4294967297) ∷ answers (Said.said_value 7) ∷ answers (Said.refused 3) ∷ answers Said.said_done ∷ [];
    }

-- "version 4,294,967,295 removed: slot at 0, next insert version 1"
abbrev pub wrapped : Spell
wrapped =
    record {
      cap = 1;
      moves =
          rebuilds (2 ∷ 0 ∷ 0 ∷ 255 ∷ 255 ∷ 255 ∷ 255 ∷ 15 ∷ 1 ∷ 5 ∷ [])
          ∷ removes 18446744069414584321
          ∷ looks_at 1
          ∷ inserts 6
          ∷ [];
      expected =
          begins (header 1 2 2) ∷ answers (Said.said_value 5) ∷ version 0 ∷ answers (Said.said_key 4294967297) ∷ [];
    }

-- "03 00 00 02 00 04 00 rebuilt: f=2, insert answers 2v5"
abbrev pub threaded : Spell
threaded =
    record {
      cap = 2;
      moves = rebuilds (3 ∷ 0 ∷ 0 ∷ 2 ∷ 0 ∷ 4 ∷ 0 ∷ []) ∷ inserts 7 ∷ [];
      expected = begins (header 0 3 2) ∷ answers (Said.said_key 21474836482) ∷ [];
    }

-- "01 02 01 05 rebuilds to an empty table"
abbrev pub first_record : Spell
first_record = record { cap = 2; moves = rebuilds (1 ∷ 2 ∷ 1 ∷ 5 ∷ []) ∷ []; expected = begins (header 0 1 1) ∷ [] }

-- "00 is 13"
abbrev pub no_slot : Spell
no_slot = record { cap = 2; moves = rebuilds (0 ∷ []) ∷ []; expected = faulty 13 ∷ [] }

abbrev pub spells : List Spell
spells =
    fresh_image ∷ two_spells ∷ read_odd ∷ detached_room ∷ wrapped ∷ threaded ∷ first_record ∷ no_slot ∷ []

-- ---- what is stated

-- what every spell shows, and what the rules say
unfoldable pub shown_by : List Spell → List (List Shown)
shown_by [] = []
shown_by (s ∷ l) = shown (room s.cap) s.moves ∷ shown_by l

unfoldable pub expected_by : List Spell → List (List Shown)
expected_by [] = []
expected_by (s ∷ l) = s.expected ∷ expected_by l
