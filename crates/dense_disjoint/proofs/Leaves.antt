-- What a disjoint call leaves, once the keys are marked and the marks are undone. Assumes nothing.
use mathlib.Core.Path.{◌≡◌, sym, ap, ap₂, ◌∙◌}
use mathlib.Core.Bool.{true}
use mathlib.Core.List.{List}
use Prim.Native.Nat.{ℕ, ◌≤◌, ◌<◌}
use lib.ListN.{length, get_or, take}
use Rattle.lists.specs.Put.{put}
use Rattle.table.specs.Table.{Table, has_shape}
use Rattle.table.specs.Calls.{Said, said_done, refused, Judged, place}
use Rattle.table.specs.Sweeps.{disjoint}
use Rattle.table.proofs.Places.{disjoint_barred, disjoint_short, disjoint-given}
use Rattle.table.proofs.Marking.{with, linked, linked_places, bar_of, Marked}
use Rattle.marks.specs.Marks.{marked}
use Rattle.marks.proofs.Turns.{marked_twice}
use Rattle.dense_disjoint.specs.Places.{leaves, disjointly}

module _ (t : Table) (ks out us ws : List ℕ) (m : ℕ) (a : Marked t ks us m) (w : ws ≡ marked us (take m ks)) where
  pub undone : ws ≡ t.versions
  undone = w ∙ ap (λ (l : List ℕ). marked l (take m ks)) a.turned ∙ marked_twice t.versions (take m ks)

  whole : (said : Said) (o : List ℕ) → disjoint t ks out ≡ (said, o) → leaves said o ws ≡ disjointly t ks out
  whole said o e = ap₂ (λ (x : Said × List ℕ) (l : List ℕ). (x, l)) (sym e) undone

  module _ (sh : has_shape t ≡ true) where
    -- the first key without a place came before, or is bad
    pub leaves_barred : m < length ks → (j : Judged) → place (with t ws) (get_or ks m 0) ≡ j → leaves (refused (bar_of j)) out ws ≡ disjointly t ks out
    leaves_barred h j e =
        let p : place t (get_or ks m 0) ≡ j = ap (λ (l : List ℕ). place (with t l) (get_or ks m 0)) (sym undone) ∙ e in
        whole _ _ (disjoint_barred t ks out sh (bar_of j) (a.stopped h ∙ rw p))

    module _ (h : length ks ≤ m) where
      pub leaves_short : length out < length ks → leaves (refused 6) out ws ≡ disjointly t ks out
      leaves_short l = whole _ _ (disjoint_short t ks out sh (a.whole h) l)

      pub leaves-given : length ks ≤ length out → (o : List ℕ) → o ≡ put out 0 (linked t.links ks) → leaves said_done o ws ≡ disjointly t ks out
      leaves-given l o e = whole _ _ (disjoint-given t ks out sh (a.whole h) l ∙ sym (rw (e, linked_places t ks)))
