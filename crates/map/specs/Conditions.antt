-- When each of insert's four answers is given, on any map (the rules, section "Secondary map"). Assumes nothing.
use Rattle.std.specs.Prelude.{◌≡◌, ◌≢◌, true, false, ℕ, ◌-◌, ◌≤◌, ◌<◌, length}
use Rattle.keys.specs.Keys.{idx, version, key_of, is_null}
use Rattle.keys.specs.declared.KeyData.{KeyData}
use Rattle.map.specs.Map.{Map, ver, val, has_shape, older}

-- a key that comes to a slot: it is not null, nor is its index 0 or ≥ L
pub record Placed (m : Map) (key : KeyData) : Type 0 where
  pub shape : has_shape m ≡ true
  pub some : is_null key ≡ false
  pub low : key.idx ≢ 0
  pub high : key.idx < length m.versions

-- a key whose slot is occupied, by another version
pub record Taken (m : Map) (key : KeyData) : Type 0 where
  pub place : Placed m key
  pub there : key.idx < m.head.s
  pub full : ver m key.idx ≢ 0
  pub other : ver m key.idx ≢ key.version

-- ---- the four

-- "null key: ignored"
pub record Ignores (m : Map) (k : ℕ) : Type 0 where
  pub shape : has_shape m ≡ true
  pub null_key : is_null (key_of k) ≡ true

-- "same version: replace, answer the old value"
pub record Replaces (m : Map) (k y : ℕ) : Type 0 where
  pub place : Placed m (key_of k)
  pub below : idx k < m.head.s
  pub version_same : ver m (idx k) ≡ version k
  pub old : val m (idx k) ≡ y

-- "occupied by a newer version: kept"
pub record Keeps (m : Map) (k : ℕ) : Type 0 where
  pub taken : Taken m (key_of k)
  pub newer : older (version k) (ver m (idx k)) ≡ true

-- "else stored": over an older element; or in a vacant slot or a new one, where the count has room
pub data Stores (m : Map) (k : ℕ) : Type 0 where
  over_older : Taken m (key_of k) → older (version k) (ver m (idx k)) ≡ false → Stores m k
  in_vacant : Placed m (key_of k) → idx k < m.head.s → ver m (idx k) ≡ 0 → m.head.count < m.head.s - 1 → Stores m k
  in_new : Placed m (key_of k) → m.head.s ≤ idx k → m.head.count < idx k → Stores m k
