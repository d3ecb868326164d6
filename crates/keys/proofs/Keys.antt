-- Keys there and back: packing, reading, and what reading does to a number. Assumes nothing.
use Rattle.std.proofs.Common.{◌≡◌, ℕ, ◌+◌, ◌*◌, ◌/◌, ◌%◌, ◌^◌, ◌<◌, sym, refl, ap, ◌∙◌, ap₂, arith}
use lib.Bits.{bit_or, or_zero_r, or_block}
use lib.Pow.{split}
use Rattle.keys.specs.Keys.{W, odd, idx, vsn, pack, version, as_read, key_of, number_of}
use Rattle.keys.specs.declared.KeyData.{KeyData}
use Rattle.keys.proofs.Bits.{set_lowest}

-- ---- packing

pub idx-pack : (i v : ℕ) → i < W → idx (pack i v) ≡ i
idx-pack i v h = omega arith

pub vsn-pack : (i v : ℕ) → i < W → vsn (pack i v) ≡ v
vsn-pack i v h = omega arith

-- two keys of one number are one key
pub pack-same : (i j v w : ℕ) → i < W → j < W → pack i v ≡ pack j w → (i ≡ j) × (v ≡ w)
pack-same i j v w hi hj e = (omega arith, omega arith)

-- ---- reading

pub version-odd : (k : ℕ) → version k % 2 ≡ 1
unfolding version
version-odd k = omega arith

pub version_word : (k : ℕ) → version k < W
unfolding version
version_word k = omega arith

-- a 64-bit number's version is its upper half with the lowest bit set
pub version_64 : (k : ℕ) → k < 2 ^ 64 → version k ≡ odd (k / W)
unfolding version
version_64 k h = ap odd small
  where
    small : k / W % W ≡ k / W
    small = omega arith

-- a key with an odd version is read as itself
pub version-pack : (i v : ℕ) → i < W → v < W → v % 2 ≡ 1 → version (pack i v) ≡ v
unfolding version
version-pack i v hi hv od =
    let w : v % W ≡ v = omega arith in
    ap (λ (m : ℕ). odd (m % W)) (vsn-pack i v hi) ∙ ap odd w ∙ omega arith

pub read-pack : (i v : ℕ) → i < W → v < W → v % 2 ≡ 1 → as_read (pack i v) ≡ pack i v
unfolding as_read
read-pack i v hi hv od = ap (λ (m : ℕ). pack m (version (pack i v))) (idx-pack i v hi) ∙ ap (pack i) (version-pack i v hi hv od)

-- which key a number is read as
pub read_is : (k i v : ℕ) → i < W → as_read k ≡ pack i v → (idx k ≡ i) × (version k ≡ v)
unfolding as_read
read_is k i v h e = omega arith

pub is_read : (k i v : ℕ) → idx k ≡ i → version k ≡ v → as_read k ≡ pack i v
unfolding as_read
is_read k i v p q = omega arith

pub idx-read : (k : ℕ) → idx (as_read k) ≡ idx k
idx-read k = ap idx (is_read k (idx k) (version k) refl refl) ∙ idx-pack (idx k) (version k) (omega arith)

pub version-read : (k : ℕ) → version (as_read k) ≡ version k
version-read k = ap version (is_read k (idx k) (version k) refl refl) ∙ version-pack (idx k) (version k) (omega arith) (version_word k) (version-odd k)

-- reading twice is reading once
pub read-read : (k : ℕ) → as_read (as_read k) ≡ as_read k
read-read k = is_read (as_read k) _ _ (idx-read k) (version-read k) ∙ sym (is_read k _ _ refl refl)

-- ---- the key type

-- the number of the key that a number names is the number as read
pub number-key : (k : ℕ) → number_of (key_of k) ≡ as_read k
number-key k = sym (is_read k _ _ refl refl)

-- from_ffi after as_ffi: the same key, where its numbers fit and its version is odd
pub key-number : (k : KeyData) → k.idx < W → k.version < W → k.version % 2 ≡ 1 → key_of (number_of k) ≡ k
key-number k h l o =
    ap₂ (λ (i v : ℕ). record { idx = i; version = v }) (idx-pack k.idx k.version h) (version-pack k.idx k.version h l o)

-- as_ffi after from_ffi: bit 32 is set and nothing else changes, of a 64-bit number
pub number-key-bit : (k : ℕ) → k < 2 ^ 64 → number_of (key_of k) ≡ bit_or k (2 ^ 32)
number-key-bit k h =
    ap (λ (v : ℕ). pack (idx k) v) (version_64 k h)
    ∙ sym (ap (λ (x : ℕ). bit_or x (2 ^ 32)) (sym (split k 32)) ∙ or_block 32 (k / W) 1 (k % W) 0 (omega arith) (omega arith)
    ∙ ap₂ (λ (p q : ℕ). p * W + q) (set_lowest (k / W)) (or_zero_r (k % W)))
