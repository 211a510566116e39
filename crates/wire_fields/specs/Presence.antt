-- Fields of a scalar type, by whether and how often they are present.
use Rattle.std.proofs.Common.{◌≡◌, ap, ◌∙◌, sym, List, [], ◌∷◌, ◌++◌}
use Rattle.std.specs.Prelude.{ℕ, Bool, true, false, Option, Some, None}
use Rattle.wire_codec.specs.Folds.{Step, IsSingle}
use Rattle.wire_codec.specs.Limits.{no_charge, element_of}
use Rattle.wire_codec.specs.Records.{Records, none, joined_records}
use Rattle.wire_fields.specs.Scalar.{ScalarType, scalar_record}
use Rattle.wire_fields.specs.Shape.{Lawful}

-- ---- what is written

abbrev pub unless : Bool → Records → Records
unless true rs = none
unless false rs = rs

-- the record of a value, unless it is the default
abbrev pub implicit_records : {V : Type 0} → ScalarType V → ℕ → V → Records
implicit_records t n v = unless (t.is_default v) (scalar_record t n v)

-- the record of the value, where there is one
abbrev pub optional_records : {V : Type 0} → ScalarType V → ℕ → Option V → Records
optional_records t n None = none
optional_records t n (Some v) = scalar_record t n v

-- a record for each value, in order
abbrev pub each_record : {V : Type 0} → ScalarType V → ℕ → List V → Records
each_record t n [] = none
each_record t n (v ∷ vs) = joined_records (scalar_record t n v) (each_record t n vs)

-- ---- what is taken

-- the value of the payload takes the place of the old one
abbrev pub sets : {V : Type 0} → ScalarType V → Step V
sets t m n p c z = (c ≡ no_charge) × t.Sets p z

-- the same, in the place of none too
abbrev pub sets_some : {V : Type 0} → ScalarType V → Step (Option V)
sets_some {V} t m n p c z = (c ≡ no_charge) × (v : V) × t.Sets p v × (z ≡ Some v)

-- one value more, charged for its place in memory
abbrev pub adds : {V : Type 0} → ℕ → ScalarType V → Step (List V)
adds {V} place t m n p c z = (c ≡ element_of place) × (v : V) × t.Sets p v × (z ≡ m ++ v ∷ [])

pub sets_single : {V : Type 0} (t : ScalarType V) → IsSingle (sets t)
sets_single t m u z w n p c d h k = (h.0 ∙ sym k.0, λ e. t.one p z w h.1 k.1)

pub some_single : {V : Type 0} (t : ScalarType V) → IsSingle (sets_some t)
some_single t m u z w n p c d (charged, v, has, is) (other, y, has_y, is_y) =
    (charged ∙ sym other, λ e. is ∙ ap Some (t.one p v y has has_y) ∙ sym is_y)

pub adds_single : {V : Type 0} (place : ℕ) (t : ScalarType V) → IsSingle (adds place t)
adds_single {V} place t m u z w n p c d (charged, v, has, is) (other, y, has_y, is_y) = (
  charged ∙ sym other,
  λ e. is ∙ ap (λ (x : V). m ++ x ∷ []) (t.one p v y has has_y)
      ∙ ap (λ (x : List V). x ++ y ∷ []) e ∙ sym is_y,
)

-- ---- kinds

-- left out where it has the default value
abbrev pub implicit : {V : Type 0} → ScalarType V → Lawful V
implicit t = record {
  kind = record { default = t.default; records = implicit_records t; takes = sets t };
  single = λ reading. sets_single t;
}

-- written where it is present, also with the default value
abbrev pub optional : {V : Type 0} → ScalarType V → Lawful (Option V)
optional t = record {
  kind = record { default = None; records = optional_records t; takes = sets_some t };
  single = λ reading. some_single t;
}

-- always written
abbrev pub always : {V : Type 0} → ScalarType V → Lawful V
always t = record {
  kind = record { default = t.default; records = scalar_record t; takes = sets t };
  single = λ reading. sets_single t;
}

-- as many as there are, each charged for so many bytes of memory
abbrev pub repeated : {V : Type 0} → ℕ → ScalarType V → Lawful (List V)
repeated place t = record {
  kind = record { default = []; records = each_record t; takes = adds place t };
  single = λ reading. adds_single place t;
}
