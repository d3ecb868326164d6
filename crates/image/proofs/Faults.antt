-- What the judge of the code says is what is said of the list of records: the same refusals, and of an accepted image the list itself,
-- the place where it is read, and its counts. Assumes nothing.
use mathlib.Core.Path.{◌≡◌, refl, sym, ap, ◌∙◌}
use mathlib.Core.Bool.{false}
use mathlib.Core.List.{List, [], ◌∷◌}
use Prim.Native.Nat.{ℕ, ◌≤◌}
use native.Mathlib.Omega.{arith}
use lib.Dec.{eqb}
use lib.ListN.{length}
use borrow.Author.Tests.{ne_eqb}
use Rattle.lists.proofs.Tests.{split}
use Rattle.writing.specs.Told.{Told, tells, refused, onward}
use Rattle.writing.proofs.Told.{never, told, refused-same, both, by_answer, onward-same, onward_assoc}
use Rattle.records.specs.declared.Record.{Record}
use Rattle.summaries.specs.declared.Summary.{Summary}
use Rattle.records.specs.Records.{version_of, presence_of, records_from, count_of, list_of, records_of}
use Rattle.summaries.specs.Summaries.{wrongs, summary_of, judged_from, judged_of}
use Rattle.records.proofs.Records.{count-is}
use Rattle.records.proofs.Images.{records_length, by_list}
use Rattle.image.specs.Rebuild.{first_wrong, fitting, judged_image, counts_in, judged_counts, fitting_summary, judged_at}

summary_fits : (from : ℕ) (l : List Record) → fitting_summary (from, summary_of l) ≡ onward (fitting l) (λ m. tells (from, summary_of m))
unfolding fitting_summary fitting summary_of
summary_fits from [] = refl
summary_fits from (r ∷ l) =
    split (first_wrong (version_of r) (presence_of r))
    (λ e. rw (some, e))
    (λ e. rw (some, e) (split (eqb (wrongs l) 0) (λ f. rw f) (λ f. rw f)))
  where
    some : eqb (length (r ∷ l)) 0 ≡ false
    some = ne_eqb (length (r ∷ l)) 0 (λ z. omega arith)

-- an accepted list stays as it is
pub fitting-same : (l m : List Record) → fitting l ≡ tells m → l ≡ m
unfolding fitting
fitting-same [] m e = never e
fitting-same (r ∷ l) m e =
    split (first_wrong (version_of r) (presence_of r))
    (λ f. never (rw f at e))
    (λ f. split (eqb (wrongs l) 0) (λ g. told (rw (f, g) at e)) (λ g. never (rw (f, g) at e)))

-- the accepted list fits
pub fitting-told : (s : List ℕ) (most : ℕ) (l : List Record) → judged_image s most ≡ tells l → fitting l ≡ tells l
unfolding judged_image
fitting-told s most l e =
    by_answer (records_of s most) fitting l e (λ m f g. let q = fitting-same m l g in ap fitting (sym q) ∙ g)

module _ (s : List ℕ) (most : ℕ) where
  -- the list of so many records that fits, from a place on
  abbrev from_count : ℕ × ℕ → Told (List Record)
  from_count c = onward (list_of c.0 s c.1) fitting

  by_count : judged_at s most ≡ onward (count_of s most) (λ c. onward (from_count c) (λ m. tells (c.1, summary_of m)))
  unfolding judged_at judged_of judged_from
  by_count =
      onward_assoc (count_of s most) _ _
      ∙ onward-same (count_of s most) _ _ (λ c e.
      onward_assoc (list_of c.0 s c.1) _ _
      ∙ onward-same (list_of c.0 s c.1) _ _ (λ l f. summary_fits c.1 l)
      ∙ sym (onward_assoc (list_of c.0 s c.1) _ _))

  image-count : judged_image s most ≡ onward (count_of s most) from_count
  unfolding judged_image records_of
  image-count = onward_assoc (count_of s most) _ _

refused-before : {A B C : Type 0} (x : Told A) (g : A → Told B) (h : A → B → C) (k : ℕ)
    → onward x (λ a. onward (g a) (λ b. tells (h a b))) ≡ refused k → onward x g ≡ refused k
refused-before (refused j) g h k e = ap refused (refused-same e)
refused-before {B = B} (tells a) g h k e = inner (g a) e
  where
    inner : (y : Told B) → onward y (λ b. tells (h a b)) ≡ refused k → y ≡ refused k
    inner (tells b) f = never (sym f)
    inner (refused j) f = ap refused (refused-same f)

-- ---- the judge's answer

module _ (s : List ℕ) (most : ℕ) where
  pub judged-refused : (k : ℕ) → judged_at s most ≡ refused k → judged_image s most ≡ refused k
  judged-refused k e =
      image-count s most ∙ refused-before (count_of s most) (from_count s most) (λ c m. (c.1, summary_of m)) k (sym (by_count s most) ∙ e)

-- an accepted image: its list of records, which is read from a place on
pub record Ready (s : List ℕ) (most from : ℕ) (kept : Summary) (l : List Record) : Type 0 where
  pub image : judged_image s most ≡ tells l
  pub few : length l ≤ most
  pub same : kept ≡ summary_of l
  pub end : ℕ
  pub reads : records_from (length l) s from ≡ tells (l, end)

pub judged-ready : (s : List ℕ) (most from : ℕ) (kept : Summary) → judged_at s most ≡ tells (from, kept) → (l : List Record) × Ready s most from kept l
judged-ready s most from kept e =
    by_answer (count_of s most) _ (from, kept) (sym (by_count s most) ∙ e) (λ c f g.
    by_answer (from_count s most c) _ (from, kept) g (λ l h i.
    by_answer (list_of c.0 s c.1) fitting l h (λ m j k.
    let q : m ≡ l = fitting-same m l k in
    let p = both (told i) in
    by_list c.0 s c.1 l (j ∙ ap tells q) (λ n r w.
    let z : length l ≡ c.0 = records_length c.0 s c.1 l n r in (
      l,
      record {
        image = image-count s most ∙ ap (λ x. onward x (from_count s most)) f ∙ h;
        few = omega (arith, (count-is s most c.0 c.1 f).1);
        same = sym p.1;
        end = n;
        reads = ap (λ (k : ℕ). records_from k s from) z ∙ ap (λ (a : ℕ). records_from c.0 s a) (sym p.0) ∙ r;
      },
    )))))

-- ---- the counts

counts_in_lem : (l : List Record) → counts_in l ≡ ((summary_of l).count, (summary_of l).live)
unfolding counts_in summary_of
counts_in_lem [] = refl
counts_in_lem (r ∷ l) = refl

module _ (s : List ℕ) (most : ℕ) where
  pub counts-refused : (k : ℕ) → judged_at s most ≡ refused k → refused k ≡ judged_counts s most
  unfolding judged_counts
  counts-refused k e = rw (judged-refused s most k e)

  pub counts-told : (from : ℕ) (kept : Summary) → judged_at s most ≡ tells (from, kept) → tells (kept.count, kept.live) ≡ judged_counts s most
  unfolding judged_counts
  counts-told from kept e =
      let r = judged-ready s most from kept e in
      rw r.1.image (ap tells (ap (λ (k : Summary). (k.count, k.live)) r.1.same ∙ sym (counts_in_lem r.0)))
