-- `take_byte` meets its contract: the limit less the value, shifted right, is the largest byte that may stand there.
use Prim.Native.Nat.{ℕ, ◌+◌, ◌-◌, ◌*◌, ◌/◌, ◌%◌, ◌^◌, ◌≤◌, ◌<◌}
use mathlib.Core.Path.{◌≡◌, sym}
use native.Mathlib.Nat.{div-lt_iff_lt-mul, le-div_iff_mul-le, mod-eq_of_lt, mul-le-mul_right}
use native.Mathlib.Omega.{arith}
use Rattle.std.proofs.Common.{rules}
use lib.Pow.{pow_pos, pow_mono}
use Rattle.writing.specs.Told.{tells, refused}
use Rattle.numbers.specs.Numbers.{whole, more, worth, least, take_of}
use Rattle.numbers.proofs.Numbers.{part, take-high, take_last, take_more, least_pos, least-none, least-some}
use Rattle.numbers.proofs.take_byte.Goals as goal

module _ (limit v g b : ℕ) (l : least g ≤ b) where
  -- the groups of a number of 64 bits are ten at most
  beyond : limit < 2 ^ 64 → 9 < g → refused 11 ≡ take_of limit (part v g) b
  beyond f h =
      sym (take-high limit v g b l (omega (arith, mul-le-mul_right (worth g) (rw (least_pos g (omega arith)) at l), pow_mono {i = 64} {j = 7 * g} (omega arith))))

  above : limit < v → refused 11 ≡ take_of limit (part v g) b
  above h = sym (take-high limit v g b l (omega arith))

  module _ (f : limit < 2 ^ 64) (i : v ≤ limit) where
    large : (limit - v) / worth g < b → refused 11 ≡ take_of limit (part v g) b
    large h = sym (take-high limit v g b l (omega (arith, (div-lt_iff_lt-mul {x = limit - v} {y = b} (pow_pos (7 * g))).0 h)))

    module _ (h : b ≤ (limit - v) / worth g) where
      within : v + b * worth g ≤ limit
      within = omega (arith, (le-div_iff_mul-le {x = b} {y = limit - v} (pow_pos (7 * g))).0 h)

      -- a group of this byte, shifted, is not cut
      shifted : (x : ℕ) → x ≤ b → x * worth g % 2 ^ 64 ≡ x * worth g
      shifted x k = mod-eq_of_lt (omega (arith, within, mul-le-mul_right (worth g) k))

      room : (x : ℕ) → x ≤ b → v + x * worth g % 2 ^ 64 < 2 ^ 64
      room x k = rw (shifted x k) (omega (arith, within, mul-le-mul_right (worth g) k))

      ends : b < 128 → tells (whole (v + b * worth g % 2 ^ 64)) ≡ take_of limit (part v g) b
      ends k = rw (shifted b (omega arith)) (sym (take_last limit v g b l within k))

      goes : 128 ≤ b → tells (more (part (v + b % 128 * worth g % 2 ^ 64) (g + 1))) ≡ take_of limit (part v g) b
      goes k = rw (shifted (b % 128) (omega arith)) (sym (take_more limit v g b l within k))

pub returns-then-groups-gt9 : goal.returns-then-groups-gt9
returns-then-groups-gt9 c =
    let a = c.args in
    let low : least a.state.groups ≤ a.b = grind (arith, least-none, least-some) in
    beyond a.limit a.state.value a.state.groups a.b low (search rules) (omega arith)

pub returns-then-limit-value : goal.returns-then-limit-value
returns-then-limit-value c =
    let a = c.args in
    let low : least a.state.groups ≤ a.b = grind (arith, least-none, least-some) in
    above a.limit a.state.value a.state.groups a.b low c.if-limit-value.true

pub returns-then-limit-value-2 : goal.returns-then-limit-value-2
returns-then-limit-value-2 c =
    let a = c.args in
    let low : least a.state.groups ≤ a.b = grind (arith, least-none, least-some) in
    large a.limit a.state.value a.state.groups a.b low (search rules) (search rules) c.if-limit-value-2.true

pub overflow_add-result : goal.overflow_add-result
overflow_add-result c =
    let a = c.args in
    let low : least a.state.groups ≤ a.b = grind (arith, least-none, least-some) in
    record { fits = room a.limit a.state.value a.state.groups a.b low (search rules) (search rules) c.if-limit-value-2.false a.b (omega arith) }

pub returns-then-group-lt128 : goal.returns-then-group-lt128
returns-then-group-lt128 c =
    let a = c.args in
    let low : least a.state.groups ≤ a.b = grind (arith, least-none, least-some) in
    ends a.limit a.state.value a.state.groups a.b low (search rules) (search rules) c.if-limit-value-2.false c.if-group-lt128.true

pub overflow_add-result-2 : goal.overflow_add-result-2
overflow_add-result-2 c =
    let a = c.args in
    let low : least a.state.groups ≤ a.b = grind (arith, least-none, least-some) in
    record { fits = room a.limit a.state.value a.state.groups a.b low (search rules) (search rules) c.if-limit-value-2.false (a.b % 128) (omega arith) }

pub returns : goal.returns
returns c =
    let a = c.args in
    let low : least a.state.groups ≤ a.b = grind (arith, least-none, least-some) in
    goes a.limit a.state.value a.state.groups a.b low (search rules) (search rules) c.if-limit-value-2.false c.if-group-lt128.false
