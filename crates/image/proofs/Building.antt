-- Rebuilding as the code does it: the records are read one after the other, and each is stored into the next slot. Assumes nothing.
use mathlib.Core.Path.{◌≡◌, refl, sym, ap, ◌∙◌, subst}
use mathlib.Core.Bool.{true, false, cond}
use mathlib.Core.List.{List, [], ◌∷◌}
use Prim.Native.Nat.{ℕ, suc, ◌+◌, ◌-◌, ◌≤◌, ◌<◌}
use native.Mathlib.Nat.{sub-zero}
use native.Mathlib.Numerals.{add-one}
use native.Mathlib.Omega.{arith}
use lib.ListN.{length, drop}
use lib.Seq.{drop-cons}
use Rattle.lists.specs.Count.{count}
use Rattle.lists.specs.Listed.{listed, picked}
use Rattle.lists.proofs.Put.{put_nil}
use Rattle.writing.specs.Told.{Told, tells, refused}
use Rattle.writing.proofs.Told.{never, told, both}
use Rattle.records.specs.declared.Record.{Record}
use Rattle.records.specs.declared.Record.TheVariants.{Vacant}
use Rattle.summaries.specs.declared.Summary.{Summary}
use Rattle.records.specs.Records.{record_at, records_from}
use Rattle.summaries.specs.Summaries.{summary_of}
use Rattle.records.proofs.Images.{records_first}
use Rattle.table.specs.Table.{Table, limit, lengths_fit}
use Rattle.table.specs.Calls.{begins, cannot}
use Rattle.table.specs.Thread.{next_free}
use Rattle.table.proofs.Shape.{Lengths}
use Rattle.table.proofs.Shape as shape
use Rattle.image.specs.Rebuild.{fitting, slot_in, rebuilt_to, rebuilt, rebuilt_from, arrays, arrays_of, begun, rebuild, judged_at}
use Rattle.image.proofs.Faults.{Ready, fitting-told, judged-refused, judged-ready}
use Rattle.image.proofs.Storing.{stored, stored_more, same-table, filled-few, lengths_to}

-- what is known before the first store: the lists' lengths fit, and an accepted list of so many records is read from a place on
pub record Starts (vs ls ks xs bytes : List ℕ) (from total : ℕ) : Type 0 where
  pub lengths : Lengths vs ls ks xs
  pub kept : Summary
  pub list : List Record
  pub ready : Ready bytes (length ks + 1) from kept list
  pub total_is : total ≡ length list

-- there is room for one slot more
pub record Room (t : Table) : Type 0 where
  pub version : t.head.s < length t.versions
  pub link : t.head.s < length t.links
  pub key : 1 ≤ t.head.s → t.head.n < length t.keys
  pub value : 1 ≤ t.head.s → t.head.n < length t.values
  pub places : t.head.n ≤ t.head.s
  pub slots : t.head.s ≤ limit

-- the slots of the table t have been stored, and the records of the others stand from a place on
pub record Built (vs ls ks xs bytes : List ℕ) (l : List Record) (t : Table) (at : ℕ) : Type 0 where
  pub high : t.head.s ≤ length l
  pub same : t ≡ rebuilt_to vs ls ks xs l t.head.s
  pub end : ℕ
  pub reads : records_from (length l - t.head.s) bytes at ≡ tells (drop t.head.s l, end)

rest : (l : List Record) (i : ℕ) → i < length l → drop i l ≡ slot_in l i ∷ drop (i + 1) l
rest l i h = rw add-one (drop-cons l i (Vacant 0) h)

slots_to : (vs ls ks xs : List ℕ) (l : List Record) (m : ℕ) → (rebuilt_to vs ls ks xs l m).head.s ≡ m
unfolding rebuilt_to
slots_to vs ls ks xs l m = refl

split_cons : {r q : Record} {l m : List Record} → r ∷ l ≡ q ∷ m → (r ≡ q) × (l ≡ m)
split_cons e = (cc, cc)

module _ (vs ls ks xs bytes : List ℕ) (from total : ℕ) (a : Starts vs ls ks xs bytes from total) where
  abbrev l : List Record
  l = a.list

  fits : fitting a.list ≡ tells a.list
  fits = fitting-told bytes (length ks + 1) a.list a.ready.image

  pub built_none : Built vs ls ks xs bytes a.list (record { versions = vs; links = ls; keys = ks; values = xs; head = record { n = 0; s = 0; f = total } }) from
  unfolding rebuilt_to listed picked count next_free
  built_none =
      record {
        high = omega arith;
        same = same-table (sym (put_nil vs 0)) (sym (put_nil ls 0)) (sym (put_nil ks 0)) (sym (put_nil xs 0)) refl refl a.total_is;
        end = a.ready.end;
        reads = ap (λ (k : ℕ). records_from k bytes from) (sub-zero (length a.list)) ∙ a.ready.reads;
      }

  module _ (t : Table) (at : ℕ) (b : Built vs ls ks xs bytes a.list t at) where
    built_long : Lengths t.versions t.links t.keys t.values × (length t.keys ≡ length ks)
    built_long =
        subst (λ (u : Table). Lengths u.versions u.links u.keys u.values × (length u.keys ≡ length ks)) (sym b.same)
        (lengths_to vs ls ks xs a.lengths a.list fits a.ready.few t.head.s b.high)

    -- the lists keep their lengths
    pub built_versions : length t.versions ≡ length vs
    built_versions = omega (arith, built_long.0, built_long.1, a.lengths)

    pub built_links : length t.links ≡ length ls
    built_links = omega (arith, built_long.0, built_long.1, a.lengths)

    pub built_keys : length t.keys ≡ length ks
    built_keys = built_long.1

    pub built_values : length t.values ≡ length xs
    built_values = omega (arith, built_long.0, built_long.1, a.lengths)

    module _ (more : t.head.s < length a.list) where
      pub built_room : Room t
      unfolding rebuilt_to
      built_room =
          let few = filled-few vs ls ks xs a.lengths a.list fits a.ready.few t.head.s in
          let w = built_long in
          let n = ap (λ (u : Table). u.head.n) b.same in
          omega (arith, few, w.0, w.1, n, a.ready.few, a.lengths)

      next : (i : ℕ) × (record_at bytes at ≡ tells (slot_in a.list t.head.s, i)) × (records_from (length a.list - (t.head.s + 1)) bytes i ≡ tells (drop (t.head.s + 1) a.list, b.end))
      next =
          let k : length a.list - t.head.s ≡ suc (length a.list - (t.head.s + 1)) = omega arith in
          records_first (length a.list - (t.head.s + 1)) bytes at (drop t.head.s a.list) b.end (ap (λ (j : ℕ). records_from j bytes at) (sym k) ∙ b.reads)
          (λ r i m e f g.
          let q = split_cons (g ∙ rest a.list t.head.s more) in
          (i, e ∙ ap (λ (x : Record). tells (x, i)) q.0, f ∙ ap (λ (x : List Record). tells (x, b.end)) q.1))

      pub built_read : (k : ℕ) → record_at bytes at ≡ refused k → {C : Type 0} → C
      built_read k e = never (sym e ∙ next.1)

      pub built_more : (r : Record) (i : ℕ) (u : Table) → record_at bytes at ≡ tells (r, i) → u ≡ stored t r → Built vs ls ks xs bytes a.list u i
      built_more r i u e f =
          let p = both (told (sym e ∙ next.1)) in
          let g : u ≡ rebuilt_to vs ls ks xs a.list (t.head.s + 1) =
          f ∙ ap (stored t) p.0 ∙ ap (λ (w : Table). stored w (slot_in a.list t.head.s)) b.same
          ∙ stored_more vs ls ks xs a.lengths a.list fits a.ready.few t.head.s more in
          let s : u.head.s ≡ t.head.s + 1 = ap (λ (w : Table). w.head.s) g ∙ slots_to vs ls ks xs a.list (t.head.s + 1) in
          record {
            high = omega arith;
            same = g ∙ ap (rebuilt_to vs ls ks xs a.list) (sym s);
            end = b.end;
            reads = rw (s, p.1) next.2;
          }

    pub built_all : length a.list ≤ t.head.s → tells t ≡ rebuilt_from vs ls ks xs bytes
    unfolding rebuilt_from rebuilt
    built_all h =
        let e : t.head.s ≡ length a.list = omega (arith, b.high) in
        rw a.ready.image (ap tells (b.same ∙ ap (rebuilt_to vs ls ks xs a.list) e))

-- ---- the whole call

count_is_length : (l : List Record) → (summary_of l).count ≡ length l
unfolding summary_of
count_is_length [] = refl
count_is_length (r ∷ l) = refl

module _ (vs ls ks xs bytes : List ℕ) where
  pub rebuild-shape : lengths_fit vs ls ks xs ≡ false → (cannot 1, arrays vs ls ks xs) ≡ rebuild vs ls ks xs bytes
  unfolding rebuild
  rebuild-shape e = rw e

  module _ (fit : lengths_fit vs ls ks xs ≡ true) where
    pub starts : (from : ℕ) (kept : Summary) → judged_at bytes (length ks + 1) ≡ tells (from, kept) → Starts vs ls ks xs bytes from kept.count
    starts from kept e =
        let r = judged-ready bytes (length ks + 1) from kept e in
        record {
          lengths = shape.lengths vs ls ks xs fit;
          kept = kept;
          list = r.0;
          ready = r.1;
          total_is = ap (λ (k : Summary). k.count) r.1.same ∙ count_is_length r.0;
        }

    pub rebuild-refused : (k : ℕ) → judged_at bytes (length ks + 1) ≡ refused k → (cannot k, arrays vs ls ks xs) ≡ rebuild vs ls ks xs bytes
    unfolding rebuild rebuilt_from
    rebuild-refused k e = rw (fit, judged-refused bytes (length ks + 1) k e)

    pub rebuild-told : (t : Table) → tells t ≡ rebuilt_from vs ls ks xs bytes → (begins t.head, arrays_of t) ≡ rebuild vs ls ks xs bytes
    unfolding rebuild
    rebuild-told t e = rw (fit, ← e)

-- a rebuild that is refused leaves the lists as they were
pub rebuild-refused-keeps : (vs ls ks xs bytes : List ℕ) (k : ℕ) → (rebuild vs ls ks xs bytes).0 ≡ cannot k → (rebuild vs ls ks xs bytes).1 ≡ arrays vs ls ks xs
unfolding rebuild
rebuild-refused-keeps vs ls ks xs bytes k = kept (cond (lengths_fit vs ls ks xs) (rebuilt_from vs ls ks xs bytes) (refused 1))
  where
    kept : (r : Told Table) → (begun (arrays vs ls ks xs) r).0 ≡ cannot k → (begun (arrays vs ls ks xs) r).1 ≡ arrays vs ls ks xs
    kept (tells t) e = cc
    kept (refused j) e = refl
