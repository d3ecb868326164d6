-- `dense_reattach::reattach` meets its contract.
use mathlib.Core.Path.{◌∙◌, ap}
use Rattle.keys.specs.Keys.{number_of}
use Rattle.keys.proofs.Keys.{number-key}
use Rattle.table.specs.Calls.{reattach}
use Rattle.table.proofs.Judged.{joins}
use Rattle.table.proofs.Storing.{reattach-found}
use Rattle.dense.proofs.Answers.{judged-ok, judged-err}
use Rattle.dense_reattach.proofs.reattach.Goals as goal

pub rejoin-header-requires : goal.rejoin-header-requires
rejoin-header-requires c = joins _ _ _ (judged-ok c.berth.ensures c.in-Ok.is)

pub returns-in-Ok : goal.returns-in-Ok
returns-in-Ok c = reattach-found _ _ _ _ _ _ (judged-ok c.berth.ensures c.in-Ok.is) (c.as_ffi-key.ensures ∙ ap number_of c.from_ffi.ensures ∙ number-key _) c.rejoin-header.ensures

pub returns-in-Err : goal.returns-in-Err
unfolding reattach
returns-in-Err c = simp (judged-err c.berth.ensures c.in-Err.is)
