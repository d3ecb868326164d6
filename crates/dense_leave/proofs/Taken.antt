-- What remove and detach share: their definitions as one, and the outcome where the key is found. Assumes nothing.
use mathlib.Core.Path.{◌≡◌, refl}
use Prim.Native.Nat.{ℕ}
use lib.Dec.{eqb}
use Rattle.keys.specs.Keys.{far, idx}
use Rattle.lists.proofs.Tests.{split}
use Rattle.table.specs.declared.Header.{Header}
use Rattle.table.specs.Table.{Table, link, val, last, freed_head, freed, filled, left}
use Rattle.table.specs.Calls.{Out, found, said_value, leaving, remove, detach}
use Rattle.dense.specs.Lent.{table}
use Rattle.dense_leave.specs.Taken.{taken}

pub remove-taken : (t : Table) (k : ℕ) → taken t k t.head.f (idx k) ≡ remove t k
unfolding taken remove
remove-taken t k = refl

pub detach-taken : (t : Table) (k : ℕ) → taken t k far t.head.f ≡ detach t k
unfolding taken detach
detach-taken t k = refl

-- the lists that an element leaves do not go by the header
headed : (t : Table) (i l : ℕ) (g h : Header) → table (left t i l g).versions (left t i l g).links (left t i l g).keys (left t i l g).values h ≡ left t i l h
unfolding left freed filled
headed t i l g h = split (eqb (link t i) (last t)) (λ e. rw e refl) (λ e. rw e refl)

pub taken-found : (t : Table) (k p i l f : ℕ) (u : Table) → leaving t k ≡ found p → i ≡ idx k → u ≡ left t i l t.head
    → ◌≡◌ {A = Out} (said_value (val t p), table u.versions u.links u.keys u.values (freed_head t.head f)) (taken t k l f)
unfolding taken
taken-found t k p i l f u e q w = rw (e, w, q, headed t (idx k) l t.head (freed_head t.head f)) refl
