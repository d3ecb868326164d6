-- The ways that an insert goes: each says what holds of the map and the key, and what comes of it. Every insert goes one of them.
-- The laws of insert go by cases on the way. Assumes nothing.
use mathlib.Core.Path.{◌≡◌, refl, sym, ap, ◌∙◌}
use mathlib.Core.Logic.{◌≢◌, by_cases}
use mathlib.Core.Bool.{Bool, true, false}
use Prim.Native.Nat.{ℕ, ◌+◌, ◌-◌, ◌≤◌, ◌<◌}
use native.Mathlib.Omega.{arith}
use native.Mathlib.Decide.{ℕ_discrete, dec_lt}
use lib.Dec.{leb}
use lib.ListN.{length}
use borrow.Author.Tests.{leb-true, leb-false, eq-eqb, ne_eqb, lt-ltb, le-ltb}
use Rattle.lists.proofs.Tests.{split, true_false}
use Rattle.keys.specs.Keys.{is_null, key_of, version}
use Rattle.keys.specs.declared.KeyData.{KeyData}
use Rattle.keys.proofs.Keys.{version-odd}
use Rattle.map.specs.Map.{Map, ver, val, has_shape, older, grown, with_value, stored}
use Rattle.map.specs.Calls.{said_ignored, said_replaced, said_kept, said_stored, refused, Out, Fate, ignores, replaces, keeps, stores, bars, settled, fate, fated, insert_key, insert}
use Rattle.map.specs.Conditions.{Placed, Taken}
use Rattle.map.proofs.Shaped.{Shaped, shaped}
use Rattle.map.proofs.Grown.{grown-below}
use Rattle.map.proofs.Fates.{fate_unshaped, fate-null, fate_zero, fate-far, fate-below, fate_above}

-- ---- the ways

pub data Way (m : Map) (key : KeyData) : Type 0 where
  unshaped : has_shape m ≡ false → Way m key
  null : has_shape m ≡ true → is_null key ≡ true → Way m key
  at_zero : has_shape m ≡ true → is_null key ≡ false → key.idx ≡ 0 → Way m key
  too_far : has_shape m ≡ true → is_null key ≡ false → key.idx ≢ 0 → length m.versions ≤ key.idx → Way m key
  same : Placed m key → key.idx < m.head.s → ver m key.idx ≡ key.version → Way m key
  under : Taken m key → older key.version (ver m key.idx) ≡ true → Way m key
  over : Taken m key → older key.version (ver m key.idx) ≡ false → Way m key
  vacant : Placed m key → key.idx < m.head.s → ver m key.idx ≡ 0 → m.head.count < m.head.s - 1 → Way m key
  crowded : Placed m key → key.idx < m.head.s → ver m key.idx ≡ 0 → m.head.s - 1 ≤ m.head.count → Way m key
  new : Placed m key → m.head.s ≤ key.idx → m.head.count < key.idx → Way m key
  new_crowded : Placed m key → m.head.s ≤ key.idx → key.idx ≤ m.head.count → Way m key

-- every insert goes one of them
pub way : (m : Map) (key : KeyData) → Way m key
way m key =
    split (has_shape m)
    (λ sh. split (is_null key)
    (λ n. null sh n)
    (λ n. by_cases (ℕ_discrete key.idx 0)
    (λ z. at_zero sh n z)
    (λ z. split (leb (length m.versions) key.idx)
    (λ l. too_far sh n z (leb-true _ _ l))
    (λ l. on-slot m key (record { shape = sh; some = n; low = z; high = leb-false _ _ l })))))
    (λ sh. unshaped sh)
  where
    on-slot : (m : Map) (key : KeyData) → Placed m key → Way m key
    on-slot m key p =
        by_cases (dec_lt key.idx m.head.s)
        (λ l. by_cases (ℕ_discrete (ver m key.idx) key.version)
        (λ e. same p l e)
        (λ ne. by_cases (ℕ_discrete (ver m key.idx) 0)
        (λ z. by_cases (dec_lt m.head.count (m.head.s - 1)) (λ r. vacant p l z r) (λ r. crowded p l z (omega arith)))
        (λ z. let t : Taken m key = record { place = p; there = l; full = z; other = ne } in
        split (older key.version (ver m key.idx)) (λ o. under t o) (λ o. over t o))))
        (λ l. by_cases (dec_lt m.head.count key.idx) (λ r. new p (omega arith) r) (λ r. new_crowded p (omega arith) (omega arith)))

-- ---- what comes of each

settled-room : (n c w v : ℕ) → w ≡ 0 → v ≢ 0 → c < n - 1 → settled n c w v ≡ stores (c + 1)
unfolding settled
settled-room n c w v z ne r = let no : w ≢ v = λ e. omega (arith, ne) in rw (ne_eqb w v no, eq-eqb w 0 z, lt-ltb c (n - 1) r)

settled-full : (n c w v : ℕ) → w ≡ 0 → v ≢ 0 → n - 1 ≤ c → settled n c w v ≡ bars 5
unfolding settled
settled-full n c w v z ne r = let no : w ≢ v = λ e. omega (arith, ne) in rw (ne_eqb w v no, eq-eqb w 0 z, le-ltb c (n - 1) r)

unfoldable pub fate_by : {m : Map} {key : KeyData} → Way m key → Fate
fate_by (unshaped sh) = bars 1
fate_by (null sh n) = ignores
fate_by (at_zero sh n z) = bars 9
fate_by (too_far sh n z l) = bars 8
fate_by (same p l e) = replaces
fate_by (under t o) = keeps
fate_by {m} (over t o) = stores m.head.count
fate_by {m} (vacant p l z r) = stores (m.head.count + 1)
fate_by (crowded p l z r) = bars 5
fate_by {m} (new p l r) = stores (m.head.count + 1)
fate_by (new_crowded p l r) = bars 5

-- a key that was read from a number has an odd version
pub fate_way : (m : Map) (key : KeyData) → key.version ≢ 0 → (w : Way m key) → fate m key ≡ fate_by w
unfolding fate_by settled
fate_way m key od (unshaped sh) = fate_unshaped m key sh
fate_way m key od (null sh n) = fate-null m key sh n
fate_way m key od (at_zero sh n z) = fate_zero m key sh n z
fate_way m key od (too_far sh n z l) = fate-far m key sh n z l
fate_way m key od (same p l e) = fate-below m key p.shape p.some p.low p.high l ∙ rw (eq-eqb (ver m key.idx) key.version e)
fate_way m key od (under t o) =
    let p = t.place in
    fate-below m key p.shape p.some p.low p.high t.there
    ∙ rw (ne_eqb (ver m key.idx) key.version t.other, ne_eqb (ver m key.idx) 0 t.full, o)
fate_way m key od (over t o) =
    let p = t.place in
    fate-below m key p.shape p.some p.low p.high t.there
    ∙ rw (ne_eqb (ver m key.idx) key.version t.other, ne_eqb (ver m key.idx) 0 t.full, o)
fate_way m key od (vacant p l z r) = fate-below m key p.shape p.some p.low p.high l ∙ settled-room _ _ _ _ z od r
fate_way m key od (crowded p l z r) = fate-below m key p.shape p.some p.low p.high l ∙ settled-full _ _ _ _ z od r
fate_way m key od (new p l r) = fate_above m key p.shape p.some p.low p.high l ∙ settled-room (key.idx + 1) _ 0 _ refl od (omega arith)
fate_way m key od (new_crowded p l r) = fate_above m key p.shape p.some p.low p.high l ∙ settled-full (key.idx + 1) _ 0 _ refl od (omega arith)

-- the map before is m, also where the definition says the grown map: only a slot that is made grows it
unfoldable pub out_by : {m : Map} {key : KeyData} → Way m key → ℕ → Out
out_by {m} (unshaped sh) x = (refused 1, m)
out_by {m} (null sh n) x = (said_ignored, m)
out_by {m} (at_zero sh n z) x = (refused 9, m)
out_by {m} (too_far sh n z l) x = (refused 8, m)
out_by {m} {key} (same p l e) x = (said_replaced (val m key.idx), with_value m key.idx x)
out_by {m} (under t o) x = (said_kept, m)
out_by {m} {key} (over t o) x = (said_stored, stored m key.idx key.version x m.head.count)
out_by {m} {key} (vacant p l z r) x = (said_stored, stored m key.idx key.version x (m.head.count + 1))
out_by {m} (crowded p l z r) x = (refused 5, m)
out_by {m} {key} (new p l r) x = (said_stored, stored (grown m key.idx) key.idx key.version x (m.head.count + 1))
out_by {m} (new_crowded p l r) x = (refused 5, m)

pub insert_by : (m : Map) (key : KeyData) (x : ℕ) (f : Fate) → fate m key ≡ f → insert_key m key x ≡ fated m (grown m key.idx) key x f
unfolding insert_key
insert_by m key x f e = ap (fated m (grown m key.idx) key x) e

pub insert-old : (m : Map) (key : KeyData) (x : ℕ) (f : Fate) → key.idx < m.head.s → fate m key ≡ f → insert_key m key x ≡ fated m m key x f
insert-old m key x f l e = insert_by m key x f e ∙ ap (λ (g : Map). fated m g key x f) (grown-below m key.idx l)

pub insert_way : (m : Map) (key : KeyData) (x : ℕ) → key.version ≢ 0 → (w : Way m key) → insert_key m key x ≡ out_by w x
unfolding out_by fate_by
insert_way m key x od (unshaped sh) = insert_by m key x _ (fate_way m key od (unshaped sh))
insert_way m key x od (null sh n) = insert_by m key x _ (fate_way m key od (null sh n))
insert_way m key x od (at_zero sh n z) = insert_by m key x _ (fate_way m key od (at_zero sh n z))
insert_way m key x od (too_far sh n z l) = insert_by m key x _ (fate_way m key od (too_far sh n z l))
insert_way m key x od (same p l e) = insert-old m key x _ l (fate_way m key od (same p l e))
insert_way m key x od (under t o) = insert-old m key x _ t.there (fate_way m key od (under t o))
insert_way m key x od (over t o) = insert-old m key x _ t.there (fate_way m key od (over t o))
insert_way m key x od (vacant p l z r) = insert-old m key x _ l (fate_way m key od (vacant p l z r))
insert_way m key x od (crowded p l z r) = insert_by m key x _ (fate_way m key od (crowded p l z r))
insert_way m key x od (new p l r) = insert_by m key x _ (fate_way m key od (new p l r))
insert_way m key x od (new_crowded p l r) = insert_by m key x _ (fate_way m key od (new_crowded p l r))

-- ---- numbers given as keys

pub version-some : (k : ℕ) → version k ≢ 0
version-some k e = omega (arith, version-odd k)

pub read_some : (k : ℕ) {key : KeyData} → key ≡ key_of k → key.version ≢ 0
read_some k e z = version-some k (ap (λ (q : KeyData). q.version) (sym e) ∙ z)

pub insert_key_lem : (m : Map) (k x : ℕ) {key : KeyData} → key ≡ key_of k → insert_key m key x ≡ insert m k x
unfolding insert
insert_key_lem m k x e = ap (λ (q : KeyData). insert_key m q x) e

pub insert-number : (m : Map) (k x : ℕ) (w : Way m (key_of k)) → insert m k x ≡ out_by w x
unfolding insert
insert-number m k x w = insert_way m (key_of k) x (version-some k) w

-- ---- back from a fate

-- the fates of a key that comes to a slot, and those of a key that finds its slot there
abbrev pub settles : Fate → Bool
settles ignores = false
settles replaces = true
settles keeps = true
settles (stores n) = true
settles (bars r) = false

abbrev pub compares : Fate → Bool
compares ignores = false
compares replaces = true
compares keeps = true
compares (stores n) = false
compares (bars r) = false

back : (m : Map) (key : KeyData) (w : Way m key) → (settles (fate_by w) ≡ true → Placed m key) × (compares (fate_by w) ≡ true → key.idx < m.head.s)
unfolding fate_by
back m key (unshaped sh) = (λ q. true_false q refl, λ q. true_false q refl)
back m key (null sh n) = (λ q. true_false q refl, λ q. true_false q refl)
back m key (at_zero sh n z) = (λ q. true_false q refl, λ q. true_false q refl)
back m key (too_far sh n z l) = (λ q. true_false q refl, λ q. true_false q refl)
back m key (same p l _) = (λ q. p, λ q. l)
back m key (under t o) = (λ q. t.place, λ q. t.there)
back m key (over t o) = (λ q. t.place, λ q. t.there)
back m key (vacant p l z r) = (λ q. p, λ q. l)
back m key (crowded p l z r) = (λ q. p, λ q. l)
back m key (new p l r) = (λ q. p, λ q. true_false q refl)
back m key (new_crowded p l r) = (λ q. p, λ q. true_false q refl)

module _ (m : Map) (key : KeyData) (f : Fate) (od : key.version ≢ 0) where
  by_fate : fate m key ≡ f → fate_by (way m key) ≡ f
  by_fate e = sym (fate_way m key od (way m key)) ∙ e

  pub comes : settles f ≡ true → fate m key ≡ f → (Shaped m) × (key.idx < length m.versions)
  comes s e = let p = (back m key (way m key)).0 (ap settles (by_fate e) ∙ s) in (shaped m p.shape, p.high)

  pub slot-there : compares f ≡ true → fate m key ≡ f → key.idx < m.head.s
  slot-there s e = (back m key (way m key)).1 (ap compares (by_fate e) ∙ s)
