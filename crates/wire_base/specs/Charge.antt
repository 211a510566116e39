-- How much records take of the limits.
use Rattle.std.specs.Prelude.{ℕ, length}
use Rattle.wire_base.specs.Field.{Payload, varint, fixed64, fixed32, bytes, group, Fields, none, field}
use Rattle.wire_base.specs.Limits.{Charge, both, no_charge, one_field, bytes_charge, nested}

-- the charge of a list, where each record has the charge that is given
abbrev pub total : (ℕ → Payload → Charge) → Fields → Charge
total charge_of none = no_charge
total charge_of (field n p rest) = both (charge_of n p) (total charge_of rest)

-- What a record kept as unknown takes: one field for itself, the bytes of a length-delimited
-- payload, its length left out, and for a group what its records take one level down. `charge` is
-- the `total` of this for a list.
abbrev mutual
  pub payload_charge : Payload → Charge
  payload_charge (varint v) = one_field
  payload_charge (fixed64 v) = one_field
  payload_charge (fixed32 v) = one_field
  payload_charge (bytes b) = both one_field (bytes_charge (length b))
  payload_charge (group fs) = both one_field (nested (charge fs))

  pub charge : Fields → Charge
  charge none = no_charge
  charge (field n p rest) = both (payload_charge p) (charge rest)

-- how many records a payload counts as, those nested in groups too
abbrev pub payload_count : Payload → ℕ
payload_count p = (payload_charge p).counts.unknown_fields

abbrev pub count : Fields → ℕ
count fs = (charge fs).counts.unknown_fields
