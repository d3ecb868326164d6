-- `record_len` meets its contract: the lengths of a record's numbers, of ten bytes at most each, added.
use mathlib.Core.Path.{sym, ap, ap₂, ◌∙◌}
use Prim.Native.Nat.{◌+◌}
use native.Mathlib.Omega.{arith}
use lib.ListN.{length}
use Rattle.numbers.proofs.Encoded.{length_bound}
use Rattle.records.specs.Records.{record_bytes}
use Rattle.records.specs.declared.Record.{Record}
use Rattle.records.proofs.Records.{length_vacant, length-occupied}
use Rattle.records.proofs.record_len.Goals as goal

pub overflow_add-result : goal.overflow_add-result
overflow_add-result c = omega (arith, length_bound 9 c.in-Vacant.version (omega arith))

pub overflow_add-result-in-Occupied : goal.overflow_add-result-in-Occupied
overflow_add-result-in-Occupied c = omega (arith, length_bound 9 c.in-Occupied.version (omega arith))

pub overflow_add-result-in-Occupied-2 : goal.overflow_add-result-in-Occupied-2
overflow_add-result-in-Occupied-2 c =
    omega (arith, length_bound 9 c.in-Occupied.version (omega arith), length_bound 9 c.in-Occupied.value (omega arith))

pub returns-in-Vacant : goal.returns-in-Vacant
returns-in-Vacant c =
    ap (λ n. n + 1) c.encoded_len.ensures
    ∙ sym (ap (λ (r : Record). length (record_bytes r)) c.in-Vacant.is ∙ length_vacant c.in-Vacant.version)

pub returns-in-Occupied : goal.returns-in-Occupied
returns-in-Occupied c =
    ap₂ (λ n m. n + 1 + m) c.encoded_len-in-Occupied.ensures c.encoded_len-in-Occupied-2.ensures
    ∙ sym (ap (λ (r : Record). length (record_bytes r)) c.in-Occupied.is ∙ length-occupied c.in-Occupied.version c.in-Occupied.value)
