-- What the lines do that are no calls. `A`, `B`, `O`: lengths; `H`: the header; `V`, `U`, `K`, `X`: a version, a link, a key, a value. A letter is its
-- ASCII number, and the last number of a line is its c. Assumes nothing.
use Rattle.std.specs.Prelude.{ℕ, ◌+◌, ◌%◌, cond, List, length, set, eqb, leb}
use Rattle.replay.specs.Lines.{key_number}
use Rattle.replay.specs.declared.Line.{Line}
use Rattle.table.specs.declared.Header.{Header}
use Rattle.replay_bend.specs.declared.Lent.{Lent}

-- lengths are read below 65,536
abbrev pub size : ℕ → ℕ
size x = x % 65536

abbrev pub lent_all : ℕ → ℕ → ℕ → ℕ → ℕ → Lent
lent_all a b k v o = record { versions = a; links = b; keys = k; values = v; output = o }

-- how much of each array is lent after a line: a table of C or a map of L begins with its own lengths, and room for eight places
unfoldable pub lent_by : Lent → Line → Lent
lent_by l i =
    cond (eqb i.op 67) (lent_all (size i.c + 1) (size i.c + 1) (size i.c) (size i.c) 8)
    (cond (eqb i.op 76) (lent_all (size i.c) (size i.c) (size i.c) (size i.c) 8)
    (cond (eqb i.op 65) (lent_all (size i.b) (size i.c) l.keys l.values l.output)
    (cond (eqb i.op 66) (lent_all l.versions l.links (size i.b) (size i.c) l.output)
    (cond (eqb i.op 79) (lent_all l.versions l.links l.keys l.values (size i.c)) l))))

-- an array after a line, if the letter is its own: what is given is stored in a cell. Past the end nothing is
unfoldable pub cell : {T : Type 0} → ℕ → Line → T → List T → List T
cell letter i x a = cond (eqb i.op letter) (set a i.b x) a

-- the header of a table after a line
unfoldable pub headed_by : Header → Line → Header
headed_by h i =
    cond (eqb i.op 72) (record { n = i.a % 4294967296; s = i.b % 4294967296; f = i.c % 4294967296 }) h

-- the keys that the next disjoint asks for, and how many there are
abbrev pub asking : ℕ → List ℕ → ℕ × List ℕ
asking n w = (n, w)

-- `j` is the disjoint, `k` names a key; one that does not fit is left out
unfoldable pub asked : Line → ℕ → List ℕ → ℕ × List ℕ
asked i n w =
    cond (eqb i.op 106) (asking 0 w)
    (cond (eqb i.op 107) (cond (leb (length w) n) (asking n w) (asking (n + 1) (set w n (key_number i.b i.c)))) (asking n w))
