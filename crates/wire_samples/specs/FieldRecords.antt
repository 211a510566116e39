-- The records of fields that are left out where they have their default value.
use Rattle.std.specs.Prelude.{ℕ, ℤ, pos, negsuc, zero, suc, List, [], ◌∷◌, ◌++◌}
use Rattle.wire_codec.specs.ValueMap.{ValueMap, int32, sint64}
use Rattle.wire_codec.specs.Varint.{shortest_varint}
use Rattle.wire_codec.specs.Records.{Records, none, field, varint, bytes}

-- a number, where it is not 0
abbrev pub number_field : ValueMap ℤ → ℕ → ℤ → Records
number_field map n (pos zero) = none
number_field map n (pos (suc k)) = field n (varint (map.enc (pos (suc k)))) none
number_field map n (negsuc k) = field n (varint (map.enc (negsuc k))) none

abbrev pub int32_field : ℕ → ℤ → Records
int32_field = number_field int32

abbrev pub sint64_field : ℕ → ℤ → Records
sint64_field = number_field sint64

-- bytes, where there are any
abbrev pub bytes_field : ℕ → List ℕ → Records
bytes_field n [] = none
bytes_field n (b ∷ more) = field n (bytes (b ∷ more)) none

-- the varints of numbers, one after another
abbrev pub packed_int32 : List ℤ → List ℕ
packed_int32 [] = []
packed_int32 (v ∷ vs) = shortest_varint (int32.enc v) ++ packed_int32 vs

-- numbers in one payload, where there are any
abbrev pub packed_int32_field : ℕ → List ℤ → Records
packed_int32_field n [] = none
packed_int32_field n (v ∷ vs) = field n (bytes (packed_int32 (v ∷ vs))) none
