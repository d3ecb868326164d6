-- Lines of a script, and what each asks for (the rules, section "Script"). Bytes are ASCII. Assumes nothing.
use Rattle.std.specs.Prelude.{ℕ, Bool, false, true, cond, ◌&&◌, List, [], ◌∷◌, ◌++◌, length, get_or, leb, ltb, eqb, Option, Some, None, Result, Ok, Err}
use Rattle.keys.specs.Keys.{idx, vsn, pack}
use Rattle.refusal.specs.declared.Refusal.{Refusal}
use Rattle.refusal.specs.Refusals.{number_of}
use Rattle.text.specs.Text.{decimal}
use Rattle.fields.specs.declared.Number.{Number}
use Rattle.fields.specs.Fields.{reads, field_at}
use Rattle.table.specs.Steps.{Call, c_lookup, c_put, c_insert, c_remove, c_detach, c_reattach, c_drain, c_retain, c_clear}
use Rattle.commands.specs.declared.Command.{Command}
use Rattle.commands.specs.declared.Command.TheVariants.{Insert, Get, Remove, Detach, Reattach, Len}

-- what a line asks for: a call of the table, the number of its elements; or the number of the line's refusal
pub data Asked : Type 0 where
  asks : Call → Asked
  asks_len : Asked
  rejects : ℕ → Asked

-- the same, of the command that the code gives
abbrev pub asked_of : Result Command Refusal → Asked
asked_of (Ok (Insert x)) = asks (c_insert x)
asked_of (Ok (Get k)) = asks (c_lookup k)
asked_of (Ok (Remove k)) = asks (c_remove k)
asked_of (Ok (Detach k)) = asks (c_detach k)
asked_of (Ok (Reattach k x)) = asks (c_reattach k x)
asked_of (Ok Len) = asks_len
asked_of (Err r) = rejects (number_of r)

-- "script line not understood"
abbrev pub misread : Asked
misread = rejects 17

-- ---- the key of a line

-- the widths: "V 64 bits, the others 32"
abbrev pub most32 : ℕ
most32 = 4294967295

abbrev pub most64 : ℕ
most64 = 18446744073709551615

-- a key: index and version, each after a space, from the place after the letter on
abbrev pub version_after : ℕ → Option Number → Option Number
version_after i (Some v) = reads (pack i v.value) v.next
version_after i None = None

abbrev pub index_after : List ℕ → Option Number → Option Number
index_after line (Some i) = version_after i.value (field_at most32 line i.next)
index_after line None = None

unfoldable pub key_in : List ℕ → Option Number
key_in line = index_after line (field_at most32 line 1)

-- ---- the commands

-- what is asked for, if the line ends at a place
abbrev pub ended : List ℕ → ℕ → Asked → Asked
ended line n a = cond (eqb n (length line)) a misread

-- `i V`
abbrev pub insert_of : List ℕ → Option Number → Asked
insert_of line (Some x) = ended line x.next (asks (c_insert x.value))
insert_of line None = misread

-- `a IDX VER V`
abbrev pub reattach_of : List ℕ → ℕ → Option Number → Asked
reattach_of line k (Some x) = ended line x.next (asks (c_reattach k x.value))
reattach_of line k None = misread

-- `g IDX VER`, `r IDX VER`, `d IDX VER`
abbrev pub plain_of : ℕ → ℕ → Asked
plain_of letter k =
    cond (eqb letter 103) (asks (c_lookup k)) (cond (eqb letter 114) (asks (c_remove k)) (cond (eqb letter 100) (asks (c_detach k)) misread))

abbrev pub keyed_of : List ℕ → ℕ → Option Number → Asked
keyed_of line letter (Some k) =
    cond (eqb letter 97) (reattach_of line k.value (field_at most64 line k.next)) (ended line k.next (plain_of letter k.value))
keyed_of line letter None = misread

-- "at most 80 bytes"
abbrev pub longest : ℕ
longest = 80

-- what a line asks for: by its first byte, `l` alone, `i` and a value, or another letter and a key. A line with no first byte is not understood
unfoldable pub asked : List ℕ → Asked
asked line =
    cond (ltb longest (length line)) misread
    (cond (eqb (get_or line 0 0) 108) (ended line 1 asks_len)
    (cond (eqb (get_or line 0 0) 105) (insert_of line (field_at most64 line 1)) (keyed_of line (get_or line 0 0) (key_in line))))

-- ---- the same from the other side: what a line looks like. A line is understood exactly where it is the text of a command (`line_read`,
-- `line-written` in proofs/Texts.antt)

-- IDX and VER, each after a space, and what follows them
abbrev pub key_words : ℕ → List ℕ → List ℕ
key_words k rest = 32 ∷ (decimal (idx k) ++ (32 ∷ (decimal (vsn k) ++ rest)))

-- "`i V`, `g IDX VER`, `r IDX VER`, `d IDX VER`, `a IDX VER V`": a script has no other calls
abbrev pub call_text : Call → List ℕ
call_text (c_insert x) = 105 ∷ 32 ∷ decimal x
call_text (c_lookup k) = 103 ∷ key_words k []
call_text (c_remove k) = 114 ∷ key_words k []
call_text (c_detach k) = 100 ∷ key_words k []
call_text (c_reattach k x) = 97 ∷ key_words k (32 ∷ decimal x)
call_text (c_put k x) = []
call_text c_drain = []
call_text (c_retain rule) = []
call_text c_clear = []

-- and "`l`"
abbrev pub line_text : Asked → List ℕ
line_text (asks c) = call_text c
line_text asks_len = 108 ∷ []
line_text (rejects r) = []

-- whether it is a command of the script, with its numbers within their widths: both halves of a key fit 32 bits where the key fits 64
abbrev pub is_call : Call → Bool
is_call (c_insert x) = leb x most64
is_call (c_lookup k) = leb k most64
is_call (c_remove k) = leb k most64
is_call (c_detach k) = leb k most64
is_call (c_reattach k x) = leb k most64 && leb x most64
is_call (c_put k x) = false
is_call c_drain = false
is_call (c_retain rule) = false
is_call c_clear = false

abbrev pub is_command : Asked → Bool
is_command (asks c) = is_call c
is_command asks_len = true
is_command (rejects r) = false
