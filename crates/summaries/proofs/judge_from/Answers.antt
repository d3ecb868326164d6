-- `judge_from` meets its contract. The loop's invariant: what is kept of all records is what is kept of those left, after those read.
use Rattle.std.proofs.Common.{◌≡◌, ℕ, suc, ◌+◌, ◌-◌, ◌<◌, ◌≤◌, ◌^◌, List, length, sym, ap, ◌∙◌, arith, rules}
use Rattle.std.proofs.lemmas.Result.{err_from_is_err_and}
use Rattle.writing.specs.Told.{Told, tells, refused, onward}
use Rattle.records.specs.Records.{record_at}
use Rattle.summaries.specs.Summaries.{noted, judged_from, blank}
use Rattle.records.specs.declared.Record.{Record}
use Rattle.summaries.specs.declared.Summary.{Summary}
use Rattle.summaries.proofs.Summaries.{keeping, keeping_refused, keeping_more, keeping_over, keeping_end, judged_kept}
use Rattle.summaries.proofs.judge_from.Goals as goal

module _ (s : List ℕ) (at left : ℕ) (kept : Summary) where
  refuses : 0 < left → (j : ℕ) → record_at s at ≡ refused j → keeping left s at kept ≡ refused j
  refuses h j e = let n : left ≡ suc (left - 1) = omega arith in rw n (keeping_refused s at kept (left - 1) j e)

  notes : (k : ℕ) → left ≡ suc k → (r : Record) (n : ℕ) (after : Summary) → record_at s at ≡ tells (r, n) → after ≡ noted kept r → keeping left s at kept ≡ keeping k s n after
  notes k m r n after e f = ap (λ (j : ℕ). keeping j s at kept) m ∙ keeping_more s at kept k r n e ∙ ap (keeping k s n) (sym f)

  over : left ≤ 0 → at < length s → keeping left s at kept ≡ refused 15
  over h i = let n : left ≡ 0 = omega arith in rw n (keeping_over s at kept i)

  ends : left ≤ 0 → length s ≤ at → keeping left s at kept ≡ tells kept
  ends h i = let n : left ≡ 0 = omega arith in rw n (keeping_end s at kept i)

-- what is judged, where it is known what is kept
judged : (count : ℕ) (s : List ℕ) (from : ℕ) (r : Told Summary) → count < 2 ^ 32 → keeping count s from blank ≡ r → onward r (λ k. tells (from, k)) ≡ judged_from count s from
judged count s from r h e = sym (judged_kept count s from h ∙ ap (λ (x : Told Summary). onward x (λ k. tells (from, k))) e)

pub returns-in_err-read : goal.returns-in_err-read
returns-in_err-read c =
    let l = c.loop in
    let a = c.args in
    let p = err_from_is_err_and c.from_residual.result c.from_residual.ensures.1 in
    rw (p.1, p.2) (judged a.count a.bytes.now a.from _ (search rules) (l.invariant ∙ refuses a.bytes.now l.at (a.count - l.counter) l.summary (omega arith) _ (sym c.in_err-read.ensures)))

pub loop-preserved : goal.loop-preserved
loop-preserved c =
    let l = c.loop in
    let a = c.args in
    l.invariant ∙ notes a.bytes.now l.at (a.count - l.counter) l.summary (a.count - (l.counter + 1)) (omega arith) _ _ _ (sym c.in_ok-read.ensures) c.judge_record-summary.ensures

pub returns-then-at-bytes : goal.returns-then-at-bytes
returns-then-at-bytes c =
    let l = c.loop in
    let a = c.args in
    judged a.count a.bytes.now a.from _ (search rules) (l.invariant ∙ over a.bytes.now l.at (a.count - l.counter) l.summary (omega arith) c.if-at-bytes.true)

pub returns : goal.returns
returns c =
    let l = c.loop in
    let a = c.args in
    judged a.count a.bytes.now a.from _ (search rules) (l.invariant ∙ ends a.bytes.now l.at (a.count - l.counter) l.summary (omega arith) c.if-at-bytes.false)
