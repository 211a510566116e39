-- The records of a `Repeat`, and what it makes of a record.
use Rattle.std.specs.Prelude.{◌≡◌, ℕ, zero, suc, ◌+◌, ◌<◌, Bool, true, false}
use Rattle.wire_codec.specs.Field as grammar
use Rattle.wire_codec.specs.Limits.{Charge, no_charge}
use Rattle.wire_codec.specs.Records.{Records, none, field, varint, joined_records}
use Rattle.wire_samples.specs.declared.repeat.Repeat.{Repeat}

-- so many records of field 1
abbrev pub zeros : ℕ → Records
zeros zero = none
zeros (suc times) = field 1 (varint 0) (zeros times)

-- a record of field 2, where it is wanted
abbrev pub extra_record : Bool → Records
extra_record false = none
extra_record true = field 2 (varint 128) none

abbrev pub repeat_records : Repeat → Records
repeat_records m = joined_records (zeros m.times) (extra_record m.extra)

-- a record of field 1 counts, as far as 64 bits go, and a record of field 2 marks; each has one
-- number only
pub data RepeatTakes (m : Repeat) (n : ℕ) (p : grammar.Payload) (c : Charge) (z : Repeat)
    : Type 0 where
  counted : n ≡ 1 → p ≡ grammar.varint 0 → c ≡ no_charge → m.times < 18446744073709551615
      → z ≡ record { times = m.times + 1; extra = m.extra } → RepeatTakes m n p c z
  marked : n ≡ 2 → p ≡ grammar.varint 128 → c ≡ no_charge
      → z ≡ record { times = m.times; extra = true } → RepeatTakes m n p c z
