-- No second outcome of insert: two outcomes that meet one contract are the same answer, header and arrays. Assumes nothing.
use mathlib.Core.Path.{◌≡◌, refl, sym, ap, ◌∙◌}
use mathlib.Core.Logic.{◌≢◌}
use mathlib.Core.List.{List}
use Prim.Native.Nat.{ℕ}
use Rattle.std.specs.Prelude.{Result}
use Rattle.refusal.specs.declared.Refusal.{Refusal}
use Rattle.refusal.specs.declared.Changed.{Changed}
use Rattle.map.specs.declared.MapHeader.{MapHeader}
use Rattle.map.specs.Calls.{Said, said_replaced, said_kept, said_stored, refused, Out}
use Rattle.secondary.proofs.Only.{said_one_to_one, changed_only, map_of}
use Rattle.secondary_enter.specs.declared.Inserted.{Inserted}
use Rattle.secondary_enter.specs.declared.Inserted.TheVariants as Inserted·
use Rattle.secondary_enter.specs.Outcomes.{inserted, inserted_of}

-- what was said of an insert, read back; anything else gives the first
read_back : Said → Inserted
read_back (said_replaced x) = Inserted·.Replaced x
read_back said_kept = Inserted·.Kept
read_back said_stored = Inserted·.Stored
read_back o = Inserted·.Ignored

back_again : (a : Inserted) → read_back (inserted a) ≡ a
unfolding read_back
back_again Inserted·.Ignored = refl
back_again (Inserted·.Replaced x) = refl
back_again Inserted·.Kept = refl
back_again Inserted·.Stored = refl

inserted_apart : (a : Inserted) (n : ℕ) → inserted a ≢ refused n
inserted_apart Inserted·.Ignored n e = cc
inserted_apart (Inserted·.Replaced x) n e = cc
inserted_apart Inserted·.Kept n e = cc
inserted_apart Inserted·.Stored n e = cc

pub inserted_one_to_one : (a b : Result Inserted Refusal) → inserted_of a ≡ inserted_of b → a ≡ b
inserted_one_to_one = said_one_to_one inserted (λ a b e. sym (back_again a) ∙ ap read_back e ∙ back_again b) inserted_apart

pub insert_only : (vs us xs ys : List ℕ) (o : Out) (r q : Changed MapHeader Inserted) → ◌≡◌ {A = Out} (inserted_of r.answer, map_of vs xs r.header) o → ◌≡◌ {A = Out} (inserted_of q.answer, map_of us ys q.header) o
    → (r ≡ q) × (vs ≡ us) × (xs ≡ ys)
insert_only = changed_only inserted_of inserted_one_to_one
