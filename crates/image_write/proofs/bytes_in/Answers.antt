-- `bytes_in` meets its contract. The loop's invariant: the total is the length of what is written of the slots below i.
use mathlib.Core.Path.{◌≡◌, sym, ap, ◌∙◌}
use Prim.Native.Nat.{ℕ, ◌≤◌}
use native.Mathlib.Omega.{arith}
use lib.ListN.{length}
use Rattle.numbers.proofs.Encoded.{length_bound}
use Rattle.records.proofs.Records.{length-record}
use Rattle.table.proofs.Shape.{shape}
use Rattle.table.proofs.Decides.{passes_shape}
use Rattle.dense.specs.Lent.{seen}
use Rattle.image.proofs.Writing.{so_far, so_far-none, so_far-longer, so_far_all}
use Rattle.image_write.proofs.bytes_in.Goals as goal

pub loop-i-init : goal.loop-i-init
loop-i-init c =
    let n = length_bound 9 c.args.table.view.h.s (omega arith) in
    (c.encoded_len-total.ensures ∙ sym (ap length (so_far-none _)), omega arith)

pub overflow_add-total : goal.overflow_add-total
overflow_add-total c =
    let few : c.record_len-total.result ≤ 16 = omega (arith, length-record c.slot_record.result c.slot_record.ensures.1, c.record_len-total.ensures) in
    omega (arith, few, shape _ (passes_shape _ c.args.table.sound))

pub loop-i-preserved : goal.loop-i-preserved
loop-i-preserved c =
    let few : c.record_len-total.result ≤ 16 = omega (arith, length-record c.slot_record.result c.slot_record.ensures.1, c.record_len-total.ensures) in
    let l = c.loop-i in
    (omega (arith, l.invariant.0, c.record_len-total.ensures, so_far-longer (seen c.args.table.view) l.i c.slot_record.ensures.0), omega (arith, few))

pub returns : goal.returns
returns c =
    let l = c.loop-i in
    let t = seen c.args.table.view in
    let e : l.i ≡ t.head.s = omega arith in
    l.invariant.0 ∙ ap (λ (k : ℕ). length (so_far t k)) e ∙ ap length (so_far_all t)
