-- No second outcome: each reading of an answer is one-to-one, so a contract that is one equation is met by one answer, and by one map with it.
-- Assumes nothing.
use mathlib.Core.Path.{◌≡◌, sym, ap, ap₂, ◌∙◌}
use mathlib.Core.Logic.{◌≢◌}
use mathlib.Core.Bool.{Bool, false}
use mathlib.Core.List.{List}
use Prim.Native.Nat.{ℕ}
use Rattle.std.specs.Prelude.{Option, Some, None, Result, Ok, Err, MatchResult}
use Rattle.refusal.specs.declared.Refusal.{Refusal}
use Rattle.refusal.specs.declared.Changed.{Changed}
use Rattle.refusal.specs.Refusals.{number_of}
use Rattle.refusal.proofs.Numbers.{number_one_to_one}
use Rattle.secondary.specs.declared.Element.{Element}
use Rattle.secondary.specs.declared.MapView.{MapView}
use Rattle.secondary.specs.declared.judged.MapShaped.{MapShaped}
use Rattle.map.specs.declared.MapHeader.{MapHeader}
use Rattle.map.specs.Map.{Map, has_shape}
use Rattle.map.specs.Calls.{Said, said_value, said_count, said_truth, said_element, refused, found, fails, Out}
use Rattle.secondary.proofs.Seen.{shape_of_view}
use Rattle.secondary.specs.Answers.{seen_map, reading, length_of, truth_of, found_of, got_of, stepped, step_of}

-- ---- the readings

module _ {A B : Type 0} (accepted : A → B) (barred : ℕ → B) where
  -- an answer's reading is one-to-one where its two functions are, and never meet
  pub reading_one_to_one : ((x y : A) → accepted x ≡ accepted y → x ≡ y) → ((n m : ℕ) → barred n ≡ barred m → n ≡ m) → ((x : A) (n : ℕ) → accepted x ≢ barred n)
      → (a b : Result A Refusal) → reading accepted barred a ≡ reading accepted barred b → a ≡ b
  reading_one_to_one one two apart (Ok x) (Ok y) e = ap Ok (one x y e)
  reading_one_to_one one two apart (Ok x) (Err q) e = absurd (apart x (number_of q) e)
  reading_one_to_one one two apart (Err r) (Ok y) e = absurd (apart y (number_of r) (sym e))
  reading_one_to_one one two apart (Err r) (Err q) e = ap Err (number_one_to_one r q (two _ _ e))

-- what is said of an answer
pub said_one_to_one : {A : Type 0} (said : A → Said) → ((x y : A) → said x ≡ said y → x ≡ y) → ((x : A) (n : ℕ) → said x ≢ refused n)
    → (a b : Result A Refusal) → reading said refused a ≡ reading said refused b → a ≡ b
said_one_to_one said one apart = reading_one_to_one said refused one (λ n m e. cc) apart

pub length_one_to_one : (a b : Result ℕ Refusal) → length_of a ≡ length_of b → a ≡ b
length_one_to_one = said_one_to_one said_count (λ x y e. cc) (λ x n e. cc)

pub truth_one_to_one : (a b : Result Bool Refusal) → truth_of a ≡ truth_of b → a ≡ b
truth_one_to_one = said_one_to_one said_truth (λ x y e. cc) (λ x n e. cc)

pub found_one_to_one : (a b : Result ℕ Refusal) → found_of a ≡ found_of b → a ≡ b
found_one_to_one = reading_one_to_one found fails (λ x y e. cc) (λ n m e. cc) (λ x n e. cc)

pub got_one_to_one : (a b : Result ℕ Refusal) → got_of a ≡ got_of b → a ≡ b
got_one_to_one = said_one_to_one said_value (λ x y e. cc) (λ x n e. cc)

-- the element that was read
element_said : Said → Option Element
element_said (said_element k x q) = Some (record { key = k; value = x; next = q })
element_said o = None

stepped_one_to_one : (x y : Option Element) → stepped x ≡ stepped y → x ≡ y
unfolding element_said
stepped_one_to_one (Some x) (Some y) e = ap element_said e
stepped_one_to_one (Some x) None e = cc
stepped_one_to_one None (Some y) e = cc
stepped_one_to_one None None e = cc

stepped_apart : (x : Option Element) (n : ℕ) → stepped x ≢ refused n
stepped_apart (Some x) n e = cc
stepped_apart None n e = cc

pub step_one_to_one : (a b : Result (Option Element) Refusal) → step_of a ≡ step_of b → a ≡ b
step_one_to_one = said_one_to_one stepped stepped_one_to_one stepped_apart

-- ---- an answer with the map after it: lookup, put, and in the crates above

-- the arrays after a call and the header that it hands back
abbrev pub map_of : List ℕ → List ℕ → MapHeader → Map
map_of vs xs h = record { versions = vs; values = xs; head = h }

pub out_only : {A : Type 0} (read : A → Said) → ((a b : A) → read a ≡ read b → a ≡ b) → (a b : A) (m n : Map) (o : Out) → ◌≡◌ {A = Out} (read a, m) o → ◌≡◌ {A = Out} (read b, n) o
    → (a ≡ b) × (m ≡ n)
out_only read one a b m n o e f =
    let q : ◌≡◌ {A = Out} (read a, m) (read b, n) = e ∙ sym f in
    (one a b (ap (λ (p : Out). p.0) q), ap (λ (p : Out). p.1) q)

-- an answer with the header that is handed back, and the arrays after the call
pub changed_only : {A : Type 0} (read : Result A Refusal → Said) → ((a b : Result A Refusal) → read a ≡ read b → a ≡ b) → (vs us xs ys : List ℕ) (o : Out) (r q : Changed MapHeader A)
    → ◌≡◌ {A = Out} (read r.answer, map_of vs xs r.header) o → ◌≡◌ {A = Out} (read q.answer, map_of us ys q.header) o → (r ≡ q) × (vs ≡ us) × (xs ≡ ys)
changed_only {A} read one vs us xs ys o r q e f =
    let p = out_only read one r.answer q.answer _ _ o e f in (
      ap₂ (λ (h : MapHeader) (a : Result A Refusal). record { header = h; answer = a }) (ap (λ (m : Map). m.head) p.1) p.0,
      ap (λ (m : Map). m.versions) p.1,
      ap (λ (m : Map). m.values) p.1,
    )

-- ---- the judgement of a map's shape

-- what `with_shape` hands back: the view, or the refusal
abbrev pub viewed : Result MapShaped Refusal → Result MapView Refusal
viewed (Ok map) = Ok map.view
viewed (Err r) = Err r

abbrev pub Shapes : MapView → Result MapShaped Refusal → Type 0
Shapes v a = MatchResult a (λ map. map.view ≡ v) (λ why. (number_of why ≡ 1) × (has_shape (seen_map v) ≡ false))

pub shaped_only : (v : MapView) (a b : Result MapShaped Refusal) → Shapes v a → Shapes v b → viewed a ≡ viewed b
shaped_only v (Ok m) (Ok n) p q = ap Ok (p ∙ sym q)
shaped_only v (Ok m) (Err q) p e = let z = sym (shape_of_view m p) ∙ e.1 in cc
shaped_only v (Err r) (Ok n) e p = let z = sym (shape_of_view n p) ∙ e.1 in cc
shaped_only v (Err r) (Err q) e f = ap Err (number_one_to_one r q (e.0 ∙ sym f.0))
