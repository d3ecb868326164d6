-- Images of the rules and of their limits, at most five slots, computed. Assumes nothing.
use mathlib.Core.Path.{◌≡◌, refl}
use mathlib.Core.List.{List, [], ◌∷◌}
use Rattle.writing.specs.Told.{Told, tells, refused}
use Rattle.numbers.specs.Numbers.{take_of, read_from, number_at, groups_of, encoded}
use Rattle.records.specs.declared.Record.{Record}
use Rattle.records.specs.declared.Record.TheVariants.{Vacant, Occupied}
use Rattle.records.specs.Records.{record_at, records_from, count_of, list_of, records_of, record_bytes, list_bytes, bytes_of}

-- accepted: the image of a fresh table; after insert 7, 300; after remove 1v1; a first slot with a value; the largest value; no slot
images : List (Told (List Record))
images =
    records_of (1 ∷ 0 ∷ 0 ∷ []) 5
    ∷ records_of (3 ∷ 0 ∷ 0 ∷ 1 ∷ 1 ∷ 7 ∷ 1 ∷ 1 ∷ 0xAC ∷ 2 ∷ []) 5
    ∷ records_of (3 ∷ 0 ∷ 0 ∷ 2 ∷ 0 ∷ 1 ∷ 1 ∷ 0xAC ∷ 2 ∷ []) 5
    ∷ records_of (1 ∷ 2 ∷ 1 ∷ 5 ∷ []) 5
    ∷ records_of (1 ∷ 0 ∷ 1 ∷ 255 ∷ 255 ∷ 255 ∷ 255 ∷ 255 ∷ 255 ∷ 255 ∷ 255 ∷ 255 ∷ 1 ∷ []) 5
    ∷ records_of (0 ∷ []) 5
    ∷ []

images_are : images
    ≡ tells (Vacant 0 ∷ [])
    ∷ tells (Vacant 0 ∷ Occupied 1 7 ∷ Occupied 1 300 ∷ [])
    ∷ tells (Vacant 0 ∷ Vacant 2 ∷ Occupied 1 300 ∷ [])
    ∷ tells (Occupied 2 5 ∷ [])
    ∷ tells (Occupied 0 18446744073709551615 ∷ [])
    ∷ tells []
    ∷ []
unfolding images records_of count_of list_of records_from record_at number_at read_from take_of
images_are = refl

-- refused: 12 before 10, and a count over 32 bits is 11; a presence in two bytes is read before it is judged; 16 before what follows;
-- a presence at the end; a value that ends early; bytes after the last slot, also after none
faults : List (Told (List Record))
faults =
    records_of (6 ∷ []) 5
    ∷ records_of (255 ∷ 255 ∷ 255 ∷ 255 ∷ 16 ∷ []) 5
    ∷ records_of (1 ∷ 0x80 ∷ 0 ∷ 0 ∷ []) 5
    ∷ records_of (1 ∷ 0 ∷ 0x80 ∷ 0 ∷ []) 5
    ∷ records_of (1 ∷ 0 ∷ 0x80 ∷ 1 ∷ []) 5
    ∷ records_of (1 ∷ 0 ∷ 2 ∷ []) 5
    ∷ records_of (2 ∷ 0 ∷ 2 ∷ 0x80 ∷ 0 ∷ []) 5
    ∷ records_of (1 ∷ 0 ∷ []) 5
    ∷ records_of (1 ∷ 1 ∷ 1 ∷ 0x80 ∷ []) 5
    ∷ records_of (1 ∷ 0 ∷ 0 ∷ 9 ∷ []) 5
    ∷ records_of (0 ∷ 5 ∷ []) 5
    ∷ []

faults_are : faults ≡ refused 12 ∷ refused 11 ∷ refused 11 ∷ refused 11 ∷ refused 16 ∷ refused 16 ∷ refused 16 ∷ refused 10 ∷ refused 10 ∷ refused 15 ∷ refused 15 ∷ []
unfolding faults records_of count_of list_of records_from record_at number_at read_from take_of
faults_are = refl

-- and written
written_is : bytes_of (Vacant 0 ∷ Occupied 1 7 ∷ Occupied 1 300 ∷ []) ≡ 3 ∷ 0 ∷ 0 ∷ 1 ∷ 1 ∷ 7 ∷ 1 ∷ 1 ∷ 0xAC ∷ 2 ∷ []
unfolding bytes_of list_bytes record_bytes encoded groups_of
written_is = refl
