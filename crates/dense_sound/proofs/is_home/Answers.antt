-- `dense_sound::is_home` meets its contract: a return for each test.
use mathlib.Core.Path.{ap}
use Rattle.keys.specs.declared.KeyData.{KeyData}
use Rattle.lists.proofs.Tests.{refuted, confirmed}
use Rattle.table.proofs.Checking.{home_low, home_high, home_other, home_even, home_back}
use Rattle.dense_sound.proofs.is_home.Goals as goal

pub returns-then-i-lt1 : goal.returns-then-i-lt1
returns-then-i-lt1 c = home_low _ _ (ap (λ (k : KeyData). k.idx) c.from_ffi-i.ensures) c.if-i-lt1.true

pub returns-then-h-i : goal.returns-then-h-i
returns-then-h-i c = home_high _ _ (ap (λ (k : KeyData). k.idx) c.from_ffi-i.ensures) c.if-i-lt1.false c.if-h-i.true

pub returns-then-versions-i : goal.returns-then-versions-i
returns-then-versions-i c = home_other _ _ (ap (λ (k : KeyData). k.idx) c.from_ffi-i.ensures) c.raw_version-v.ensures c.if-i-lt1.false c.if-h-i.false c.if-versions-i.true

pub returns-then-not-is_odd : goal.returns-then-not-is_odd
returns-then-not-is_odd c = home_even _ _ (ap (λ (k : KeyData). k.idx) c.from_ffi-i.ensures) c.raw_version-v.ensures c.if-i-lt1.false c.if-h-i.false c.if-versions-i.false (refuted c.is_odd.ensures c.if-not-is_odd.true)

pub returns : goal.returns
returns c = home_back _ _ (ap (λ (k : KeyData). k.idx) c.from_ffi-i.ensures) c.raw_version-v.ensures c.if-i-lt1.false c.if-h-i.false c.if-versions-i.false (confirmed c.is_odd.ensures c.if-not-is_odd.false)
