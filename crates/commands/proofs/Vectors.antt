-- Worked lines, each computed from the definitions. Assumes nothing.
use mathlib.Core.Path.{◌≡◌, refl}
use mathlib.Core.List.{[], ◌∷◌}
use Rattle.table.specs.Steps.{c_lookup, c_insert, c_remove, c_reattach}
use Rattle.text.specs.Text.{digit_of}
use Rattle.fields.specs.Fields.{number_at, field_at}
use Rattle.commands.specs.Lines.{asks, asks_len, misread, key_in, asked}

-- `i 300`
insert : asked (105 ∷ 32 ∷ 51 ∷ 48 ∷ 48 ∷ []) ≡ asks (c_insert 300)
unfolding digit_of number_at field_at key_in asked
insert = refl

-- `r 1 1`
remove : asked (114 ∷ 32 ∷ 49 ∷ 32 ∷ 49 ∷ []) ≡ asks (c_remove 4294967297)
unfolding digit_of number_at field_at key_in asked
remove = refl

-- `g 1 0`: the number as it stands, with an even version
even : asked (103 ∷ 32 ∷ 49 ∷ 32 ∷ 48 ∷ []) ≡ asks (c_lookup 1)
unfolding digit_of number_at field_at key_in asked
even = refl

-- `a 1 1 0`
reattach : asked (97 ∷ 32 ∷ 49 ∷ 32 ∷ 49 ∷ 32 ∷ 48 ∷ []) ≡ asks (c_reattach 4294967297 0)
unfolding digit_of number_at field_at key_in asked
reattach = refl

-- `l`
len : asked (108 ∷ []) ≡ asks_len
unfolding digit_of number_at field_at key_in asked
len = refl

-- `i 07`, `i `, `i  7` with two spaces, `l ` with one after, an empty line, and `l` before a carriage return
leads : asked (105 ∷ 32 ∷ 48 ∷ 55 ∷ []) ≡ misread
unfolding digit_of number_at field_at key_in asked
leads = refl

bare : asked (105 ∷ 32 ∷ []) ≡ misread
unfolding digit_of number_at field_at key_in asked
bare = refl

spaces : asked (105 ∷ 32 ∷ 32 ∷ 55 ∷ []) ≡ misread
unfolding digit_of number_at field_at key_in asked
spaces = refl

trails : asked (108 ∷ 32 ∷ []) ≡ misread
unfolding digit_of number_at field_at key_in asked
trails = refl

empty : asked [] ≡ misread
unfolding digit_of number_at field_at key_in asked
empty = refl

return : asked (108 ∷ 13 ∷ []) ≡ misread
unfolding digit_of number_at field_at key_in asked
return = refl

-- `g 4294967296 1`: above its width
wide : asked (103 ∷ 32 ∷ 52 ∷ 50 ∷ 57 ∷ 52 ∷ 57 ∷ 54 ∷ 55 ∷ 50 ∷ 57 ∷ 54 ∷ 32 ∷ 49 ∷ []) ≡ misread
unfolding digit_of number_at field_at key_in asked
wide = refl
