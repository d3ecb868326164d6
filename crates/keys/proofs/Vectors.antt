-- The worked numbers of the rules. Assumes nothing.
use Rattle.std.proofs.Common.{◌≡◌, true, refl}
use Rattle.keys.specs.Keys.{version, key_of, number_of, null_key, is_null, up, odd}

-- 8589934597 reads as 5v3: its version 2 is read as 3
five_v_three : key_of 8589934597 ≡ record { idx = 5; version = 3 }
unfolding version
five_v_three = refl

-- 12884901889 is 1v3
one_v_three : number_of (record { idx = 1; version = 3 }) ≡ 12884901889
one_v_three = refl

-- null goes by the index alone
null_is_null : is_null null_key ≡ true
null_is_null = refl

null_at_five : is_null (record { idx = 4294967295; version = 5 }) ≡ true
null_at_five = refl

-- the wrap: 4,294,967,295 removed is 0, and the next insert's version is 1
wraps : up 4294967295 ≡ 0
wraps = refl

after_wrap : odd (up 4294967295) ≡ 1
after_wrap = refl
