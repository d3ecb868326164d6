-- What an arm of a match tells: the answer's reading on paper. Assumes nothing.
use Rattle.std.proofs.Common.{ℕ, ◌≡◌, sym, ap, ◌∙◌, arith, Result, Ok, Err}
use Rattle.refusal.specs.declared.Refusal.{Refusal}
use Rattle.refusal.specs.Refusals.{number_of}
use Rattle.table.specs.Table.{Table}
use Rattle.table.specs.Calls.{Judged, found, fails, key_said, said_key, refused, next, next_key}
use Rattle.dense.specs.Answers.{judged_of, issued_said}

pub judged-ok : {r : Result ℕ Refusal} {q : Judged} {p : ℕ} → judged_of r ≡ q → r ≡ Ok p → q ≡ found p
judged-ok e h = sym e ∙ ap judged_of h

pub judged-err : {r : Result ℕ Refusal} {q : Judged} {w : Refusal} → judged_of r ≡ q → r ≡ Err w → q ≡ fails (number_of w)
judged-err e h = sym e ∙ ap judged_of h

key-found : (q : Judged) (k : ℕ) → key_said q ≡ said_key k → q ≡ found k
key-found (found j) k e = ap found (cc)
key-found (fails r) k e = absurd (let z : ◌≡◌ {A = ℕ} 0 1 = cc in omega arith)

pub issued-key : {r : Result ℕ Refusal} (t : Table) {k : ℕ} → issued_said r ≡ next_key t → r ≡ Ok k → next t ≡ found k
unfolding next_key
issued-key {r} t {k} e h = key-found (next t) k (sym e ∙ ap issued_said h)

refused-fails : (q : Judged) (r : ℕ) → key_said q ≡ refused r → q ≡ fails r
refused-fails (found j) r e = absurd (let z : ◌≡◌ {A = ℕ} 0 1 = cc in omega arith)
refused-fails (fails n) r e = ap fails (cc)

pub issued-refused : {r : Result ℕ Refusal} (t : Table) {w : Refusal} → issued_said r ≡ next_key t → r ≡ Err w → next t ≡ fails (number_of w)
unfolding next_key
issued-refused {r} t {w} e h = refused-fails (next t) (number_of w) (sym e ∙ ap issued_said h)
