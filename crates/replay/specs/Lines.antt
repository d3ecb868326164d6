-- Lines of calls, read byte by byte, and what their numbers name. Assumes nothing.
use Rattle.std.specs.Prelude.{ℕ, ◌+◌, ◌-◌, ◌*◌, ◌/◌, ◌%◌, cond, ◌==◌, nat_le}
use Rattle.rules.specs.declared.Rule.{Rule}
use Rattle.rules.specs.declared.Rule.TheVariants.{Values, Masked, Indexes}
use Rattle.replay.specs.declared.Line.{Line}

-- before the first byte of a line
abbrev pub blank : Line
blank = record { op = 0; a = 0; b = 0; c = 0 }

-- a number with a digit more; a digit that would not fit is left out
abbrev pub longer : ℕ → ℕ → ℕ
longer x d = cond (nat_le x ((18446744073709551615 - d) / 10)) (x * 10 + d) x

-- the line with a byte more: its first byte is its letter, a space begins a number, and any other byte is a digit; a newline says nothing
unfoldable pub taken : Line → ℕ → Line
taken l b =
    cond (b == 10) l
    (cond (l.op == 0) (record { op = b; a = l.a; b = l.b; c = l.c })
    (cond (b == 32) (record { op = l.op; a = l.b; b = l.c; c = 0 })
    (record { op = l.op; a = l.a; b = l.b; c = longer l.c (b % 16) })))

-- the number of the key with an index and a version, each as it fits in 32 bits
abbrev pub key_number : ℕ → ℕ → ℕ
key_number i v = v % 4294967296 * 4294967296 + i % 4294967296

-- a retain's rule: `v` and `m` are about values, `x` is about indexes
unfoldable pub rule_of : Line → Rule
rule_of l =
    cond (l.op == 118) (Values l.b l.c)
    (cond (l.op == 109) (Masked l.b l.c)
    (Indexes (l.b % 4294967296) (l.c % 4294967296)))
