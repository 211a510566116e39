-- How many values there are, in the place of them.
use Rattle.std.proofs.Common.{◌≡◌, ap, ◌∙◌, sym}
use Rattle.std.specs.Prelude.{ℕ, ◌+◌, List, length}
use Rattle.wire_codec.specs.Folds.{Step, IsSingle}
use Rattle.wire_codec.specs.Limits.{element_of}
use Rattle.wire_codec.specs.Records.{none}
use Rattle.wire_fields.specs.Messages.{gathers, gathers_single, length_prefixed}
use Rattle.wire_fields.specs.Numbers.{in_64_bits}
use Rattle.wire_fields.specs.Scalar.{ScalarType}
use Rattle.wire_fields.specs.Shape.{Lawful, Shape}

-- how many there are, or the greatest number of 64 bits where they are more
abbrev pub count_seen : {V : Type 0} → List V → ℕ
count_seen vs = in_64_bits (length vs)

-- one more, whichever it is
abbrev pub count_more : {V : Type 0} → ℕ → V → ℕ
count_more m v = in_64_bits (m + 1)

-- a value more is counted, and charged for its place in memory
abbrev pub counts_value : {V : Type 0} → ℕ → ScalarType V → Step ℕ
counts_value {V} place t m n p c z =
    (c ≡ element_of place) × (v : V) × t.Sets p v × (z ≡ count_more m v)

pub counts_single : {V : Type 0} (place : ℕ) (t : ScalarType V) → IsSingle (counts_value place t)
counts_single place t m u z w n p c d (charged, v, has, is) (other, y, has_y, is_y) =
    (charged ∙ sym other, λ e. is ∙ ap (λ x. in_64_bits (x + 1)) e ∙ sym is_y)

-- as many values as there are, each charged for so many bytes of memory
abbrev pub repeated_count : {V : Type 0} → ℕ → ScalarType V → Lawful ℕ
repeated_count place t = record {
  kind = record { default = 0; records = λ n m. none; takes = counts_value place t };
  single = λ reading. counts_single place t;
}

-- as many embedded messages
abbrev pub embedded_count : {V : Type 0} → ℕ → Shape V → Lawful ℕ
embedded_count place s = record {
  kind = record {
    default = 0;
    records = λ n m. none;
    takes = gathers place length_prefixed s.takes s.default count_more;
  };
  single = λ reading. gathers_single length_prefixed s.takes reading (s.single reading) place
      s.default count_more;
}
