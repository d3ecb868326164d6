-- Seven-bit numbers (the rules, section "The slot image"): "unsigned LEB128: seven-bit groups, lowest first, shortest form only".
-- Assumes nothing.
--
-- A byte below 128 is a number's last group; a byte of 128 or more holds a group less 128, and the number goes on:
--
--     300 = 44 + 128 · 2         AC 02         AC = 44 + 128
use Rattle.std.specs.Prelude.{ℕ, zero, suc, ◌+◌, ◌-◌, ◌*◌, ◌/◌, ◌%◌, ◌^◌, ◌<◌, true, false, cond, List, [], ◌∷◌, ltb, drop, get_or, Result, Ok, Err}
use Rattle.refusal.specs.declared.Refusal.{Refusal}
use Rattle.refusal.specs.Refusals.{number_of}
use Rattle.writing.specs.Told.{Told, tells, refused}
use Rattle.numbers.specs.declared.Partial.{Partial}
use Rattle.numbers.specs.declared.Taken.{Taken}
use Rattle.numbers.specs.declared.Taken.TheVariants.{More, Whole}

-- ---- reading

-- what a byte makes of the groups before it: a whole number, or more groups
pub data Step : Type 0 where
  whole : ℕ → Step
  more : Partial → Step

abbrev pub step_of : Result Taken Refusal → Told Step
step_of (Ok (More p)) = tells (more p)
step_of (Ok (Whole v)) = tells (whole v)
step_of (Err r) = refused (number_of r)

-- what one is worth in the group after so many groups
abbrev pub worth : ℕ → ℕ
worth groups = 2 ^ (7 * groups)

-- the least that a last group may be: 0 stands alone only
abbrev pub least : ℕ → ℕ
least zero = 0
least (suc groups) = 1

-- A byte b, read after some groups, of a number of at most limit. If the byte is the last one, then the number is the value of those groups
-- and b times the byte's worth. If it goes on, then the number is that or more, since a further group is 1 at least. So 11 is
-- "a zero last group after others", or a byte by which the number is more than the limit.
unfoldable pub take_of : ℕ → Partial → ℕ → Told Step
take_of limit p b =
    cond (ltb b (least p.groups)) (refused 11)
    (cond (ltb limit (p.value + b * worth p.groups)) (refused 11)
    (cond (ltb b 128)
    (tells (whole (p.value + b * worth p.groups)))
    (tells (more (record { value = p.value + b % 128 * worth p.groups; groups = p.groups + 1 })))))

-- what the step to the place n is followed by
abbrev pub stepped : ℕ → Told Step → (Partial → Told (ℕ × ℕ)) → Told (ℕ × ℕ)
stepped n (tells (whole v)) on = tells (v, n)
stepped n (tells (more p)) on = on p
stepped n (refused k) on = refused k

-- The number of at most limit whose groups so far are p, and whose other bytes start the list, which stands at a place:
-- 11 "is judged at the first byte that shows it", and 10 where the bytes end first.
unfoldable pub read_from : ℕ → List ℕ → ℕ → Partial → Told (ℕ × ℕ)
read_from limit [] at p = refused 10
read_from limit (b ∷ s) at p = stepped (at + 1) (take_of limit p b) (λ q. read_from limit s (at + 1) q)

-- before the first byte
abbrev pub unread : Partial
unread = record { value = 0; groups = 0 }

-- the number of so many bits that stands at a place
unfoldable pub number_at : ℕ → List ℕ → ℕ → Told (ℕ × ℕ)
number_at bits s at = read_from (2 ^ bits - 1) (drop at s) at unread

-- ---- writing

-- the groups of n, lowest first, each but the last with 128 added; the first number is how many may be taken
unfoldable pub groups_of : ℕ → ℕ → List ℕ
groups_of zero n = []
groups_of (suc k) n = elim (ltb n 128) [ true ↦ n ∷ [] | false ↦ (n % 128 + 128) ∷ groups_of k (n / 128) ]

-- the shortest form of n; no number has more groups than its own value and one
unfoldable pub encoded : ℕ → List ℕ
encoded n = groups_of (suc n) n

-- a list of bytes
abbrev pub Bytes : List ℕ → Type 0
Bytes s = (i : ℕ) → get_or s i 0 < 256
