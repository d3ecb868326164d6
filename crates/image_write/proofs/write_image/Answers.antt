-- `write_image` meets its contract: soundness and the length are judged, and then the image is put in.
use mathlib.Core.Path.{sym, ap, ◌∙◌}
use native.Mathlib.Omega.{arith}
use Rattle.std.proofs.lemmas.Result.{err_from_is_err_and}
use Rattle.writing.proofs.Writing.{written_short}
use Rattle.dense.specs.Lent.{seen}
use Rattle.image.specs.Image.{write_image}
use Rattle.image.proofs.Writing.{write-refused}
use Rattle.image_write.proofs.Measured.{stored}
use Rattle.image_write.proofs.write_image.Goals as goal

pub returns-in_err-table : goal.returns-in_err-table
returns-in_err-table c =
    let p = err_from_is_err_and c.from_residual.result c.from_residual.ensures.1 in
    rw (p.1, p.2) (write-refused _ _ _ c.in_err-table.ensures)

pub returns-then-out-bytes_in : goal.returns-then-out-bytes_in
returns-then-out-bytes_in c =
    let h = c.if-out-bytes_in.true in
    sym (written_short 0 _ c.args.out.now (omega (arith, h, c.bytes_in.ensures)))
    ∙ stored _ c.in_ok-table.table.sound _ ∙ ap (λ v. write_image (seen v) c.args.out.now) c.in_ok-table.ensures

pub returns : goal.returns
returns c = c.put_image.ensures ∙ stored _ c.in_ok-table.table.sound _ ∙ ap (λ v. write_image (seen v) c.args.out.now) c.in_ok-table.ensures
