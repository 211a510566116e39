-- The record of a `Counter`, and what it makes of a record.
use Rattle.std.specs.Prelude.{◌≡◌, ◌≢◌, ℕ, zero, suc}
use Rattle.wire_codec.specs.Charge.{payload_charge}
use Rattle.wire_codec.specs.Field as grammar
use Rattle.wire_codec.specs.Limits.{Charge, no_charge, no_counts}
use Rattle.wire_codec.specs.Records.{Records, none, field, varint}
use Rattle.wire_callers.specs.declared.counter.Counter.{Counter}

-- a record of field 1, where the number is not 0
abbrev pub value_record : ℕ → Records
value_record zero = none
value_record (suc k) = field 1 (varint (suc k)) none

abbrev pub counter_records : Counter → Records
counter_records m = value_record m.value

-- what is passed over takes levels for the groups in it, and no count
abbrev pub levels_alone : grammar.Payload → Charge
levels_alone p = record { depth = (payload_charge p).depth; counts = no_counts }

-- the last record of field 1 sets the number, and has to be a varint; a record of another field is
-- passed over
pub data CounterTakes (m : Counter) (n : ℕ) (p : grammar.Payload) (c : Charge) (z : Counter)
    : Type 0 where
  value : (v : ℕ) → n ≡ 1 → p ≡ grammar.varint v → c ≡ no_charge → z ≡ record { value = v }
      → CounterTakes m n p c z
  other : n ≢ 1 → c ≡ levels_alone p → z ≡ m → CounterTakes m n p c z
