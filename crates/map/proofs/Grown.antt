-- A map grown to an index: what stands in its slots, and the loop that makes them. Assumes nothing.
use mathlib.Core.Path.{◌≡◌, sym, ap, ◌∙◌}
use mathlib.Core.List.{List}
use Prim.Native.Nat.{ℕ, suc, ◌+◌, ◌-◌, ◌≤◌, ◌<◌}
use native.Mathlib.Omega.{arith}
use lib.ListN.{length, get_or, set, replicate, length-replicate, get_or-replicate}
use borrow.Author.Tests.{lt-ltb, le-ltb}
use Rattle.lists.specs.Put.{put}
use Rattle.lists.proofs.Put.{put_nil, put_cons, get_or-put_in}
use Rattle.map.specs.Map.{Map, ver, grown_head, grown}

-- ---- slots made vacant from slot i to slot e: a turn of the loop, and its end

module _ (vs : List ℕ) (e i : ℕ) where
  pub zeros_turn : i ≤ e → i < length vs → put (set vs i 0) (i + 1) (replicate (e + 1 - (i + 1)) 0) ≡ put vs i (replicate (e + 1 - i) 0)
  zeros_turn l m =
      let n : e + 1 - i ≡ suc (e + 1 - (i + 1)) = omega arith in
      put_cons vs i 0 (replicate (e + 1 - (i + 1)) 0) m ∙ sym (ap (λ (d : ℕ). put vs i (replicate d 0)) n)

  pub zeros_end : e < i → put vs i (replicate (e + 1 - i) 0) ≡ vs
  zeros_end l =
      let n : e + 1 - i ≡ 0 = omega arith in
      ap (λ (d : ℕ). put vs i (replicate d 0)) n ∙ put_nil vs i

-- ---- the grown map

-- an index below s makes no slot
pub grown-below : (m : Map) (i : ℕ) → i < m.head.s → grown m i ≡ m
unfolding grown
grown-below m i l = rw (lt-ltb i m.head.s l)

pub grown_above : (m : Map) (i : ℕ) → m.head.s ≤ i
    → grown m i ≡ record { versions = put m.versions m.head.s (replicate (i + 1 - m.head.s) 0); values = m.values; head = grown_head m.head i }
unfolding grown
grown_above m i l = rw (le-ltb i m.head.s l)

pub grown_is : (m : Map) (i : ℕ) (vs : List ℕ) → m.head.s ≤ i → vs ≡ put m.versions m.head.s (replicate (i + 1 - m.head.s) 0)
    → record { versions = vs; values = m.values; head = grown_head m.head i } ≡ grown m i
grown_is m i vs l e =
    ap (λ (us : List ℕ). record { versions = us; values = m.values; head = grown_head m.head i }) e ∙ sym (grown_above m i l)

-- the slots that it makes are vacant
pub grown-new : (m : Map) (i j : ℕ) → i < length m.versions → m.head.s ≤ j → j ≤ i → ver (grown m i) j ≡ 0
grown-new m i j l a b =
    ap (λ (g : Map). ver g j) (grown_above m i (omega arith))
    ∙ ap (λ (n : ℕ). get_or (put m.versions m.head.s zeros) n 0) at
    ∙ get_or-put_in m.versions m.head.s zeros (j - m.head.s) (omega (arith, length-replicate {A = ℕ} (i + 1 - m.head.s) 0)) (omega arith)
    ∙ get_or-replicate (i + 1 - m.head.s) (j - m.head.s) 0 0 (omega arith)
  where
    zeros : List ℕ
    zeros = replicate (i + 1 - m.head.s) 0

    at : j ≡ m.head.s + (j - m.head.s)
    at = omega arith
