-- Keys as numbers (the rules, section "Keys"). Assumes nothing.
use Rattle.std.specs.Prelude.{ℕ, ◌+◌, ◌*◌, ◌/◌, ◌%◌, Bool, ◌==◌}
use Rattle.keys.specs.declared.KeyData.{KeyData}

-- how many numbers 32 bits hold
abbrev pub W : ℕ
W = 4294967296

-- the largest of them: the null key's index, and the link of a detached slot
abbrev pub far : ℕ
far = 4294967295

-- a number with its lowest bit set
abbrev pub odd : ℕ → ℕ
odd v = v / 2 * 2 + 1

-- "goes up by one, wrapping from 4,294,967,295 to 0"; and back by one, wrapping
abbrev pub up : ℕ → ℕ
up v = (v + 1) % W

abbrev pub down : ℕ → ℕ
down v = (v + far) % W

-- ---- a key as one number: the version in the upper 32 bits and the index in the lower 32

-- the index, and the version as it stands
abbrev pub idx : ℕ → ℕ
idx k = k % W

abbrev pub vsn : ℕ → ℕ
vsn k = k / W

abbrev pub pack : ℕ → ℕ → ℕ
pack i v = v * W + i

-- "every number given as a key is read": the version of its lower 64 bits, with the lowest bit set
unfoldable pub version : ℕ → ℕ
version k = odd (k / W % W)

-- the key as read, as a number
unfoldable pub as_read : ℕ → ℕ
unfolding version
as_read k = pack (idx k) (version k)

-- ---- the key type

-- the key of an index and a version, its lowest bit set
abbrev pub made : ℕ → ℕ → KeyData
made i v = record { idx = i; version = odd v }

-- the key that a number names, and the number that names a key
abbrev pub key_of : ℕ → KeyData
key_of k = record { idx = idx k; version = version k }

abbrev pub number_of : KeyData → ℕ
number_of k = pack k.idx k.version

-- "its null key as a constant of the type: index 4,294,967,295, version 1"
abbrev pub null_key : KeyData
null_key = record { idx = far; version = 1 }

-- "any key with that index is null"
abbrev pub is_null : KeyData → Bool
is_null k = k.idx == far
