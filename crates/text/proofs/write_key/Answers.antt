-- `write_key` hands `null` to `write_bytes`; of any other key it puts in the index, the letter and the version, one after the other.
use mathlib.Core.Path.{◌≡◌, sym, ap, ◌∙◌}
use mathlib.Core.Bool.{false}
use Prim.Native.Nat.{ℕ, ◌+◌, ◌≤◌}
use native.Mathlib.Omega.{arith}
use lib.ListN.{length}
use borrow.Author.Tests.{leb-true}
use Rattle.lists.proofs.Tests.{refuted, confirmed}
use Rattle.keys.specs.Keys.{is_null}
use Rattle.writing.proofs.Writing.{room-written, no_room-written}
use Rattle.text.specs.Text.{key_text}
use Rattle.text.proofs.Decimal.{length-decimal_64}
use Rattle.text.proofs.Keys.{key-text-null, key-text-length, key-text-put}
use Rattle.text.proofs.write_key.Goals as goal

pub returns-then-is_null : goal.returns-then-is_null
returns-then-is_null c =
    rw (key-text-null c.args.key (sym c.is_null.ensures ∙ c.if-is_null.true)) c.write_bytes.ensures

pub overflow_add-count : goal.overflow_add-count
overflow_add-count c =
    let k = c.args.key in
    let few : c.decimal_len-index.result + 1 + c.decimal_len-version.result ≤ 41 = omega (arith, length-decimal_64 k.idx (omega arith), length-decimal_64 k.version (omega arith), c.decimal_len-index.ensures, c.decimal_len-version.ensures) in
    omega (arith, few)

pub overflow_add-count-2 : goal.overflow_add-count-2
overflow_add-count-2 c =
    let k = c.args.key in
    let few : c.decimal_len-index.result + 1 + c.decimal_len-version.result ≤ 41 = omega (arith, length-decimal_64 k.idx (omega arith), length-decimal_64 k.version (omega arith), c.decimal_len-index.ensures, c.decimal_len-version.ensures) in
    omega (arith, few)

pub returns-then-not-has_room : goal.returns-then-not-has_room
returns-then-not-has_room c =
    let plain : is_null c.args.key ≡ false = sym c.is_null.ensures ∙ c.if-is_null.false in
    let long : c.decimal_len-index.result + 1 + c.decimal_len-version.result ≡ length (key_text c.args.key) = omega (arith, key-text-length c.args.key plain, c.decimal_len-index.ensures, c.decimal_len-version.ensures) in
    let s = c.args in
    no_room-written s.at _ (key_text s.key) s.out.now long (refuted c.has_room.ensures c.if-not-has_room.true)

pub returns : goal.returns
returns c =
    let plain : is_null c.args.key ≡ false = sym c.is_null.ensures ∙ c.if-is_null.false in
    let long : c.decimal_len-index.result + 1 + c.decimal_len-version.result ≡ length (key_text c.args.key) = omega (arith, key-text-length c.args.key plain, c.decimal_len-index.ensures, c.decimal_len-version.ensures) in
    let room : c.args.at + (c.decimal_len-index.result + 1 + c.decimal_len-version.result) ≤ length c.args.out.now = leb-true _ _ (confirmed c.has_room.ensures c.if-not-has_room.false) in
    let s = c.args in
    let first = c.decimal_len-index in
    room-written s.at _ (key_text s.key) s.out.now long _ (confirmed c.has_room.ensures c.if-not-has_room.false)
    (key-text-put s.key plain s.out.now _ _ s.at (s.at + first.result) (ap (λ (n : ℕ). s.at + n) first.ensures)
    (omega (arith, room, c.decimal_len-version.ensures)) c.put_decimal.ensures c.put_decimal-2.ensures)
