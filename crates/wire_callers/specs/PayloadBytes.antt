-- How many bytes the length-delimited payloads of one field number are, at any nesting.
use Rattle.std.specs.Prelude.{ℕ, ◌+◌, Bool, true, length, nat_eq, if◌then◌else◌}
use Rattle.wire_base.specs.Field.{Payload, varint, fixed64, fixed32, bytes, group, Fields, none, field}
use Rattle.wire_read.specs.declared.event.Value.{Value}
use Rattle.wire_read.specs.declared.event.Value.TheVariants as values

abbrev mutual
  pub bytes_of_payload : ℕ → ℕ → Payload → ℕ
  bytes_of_payload n m (varint v) = 0
  bytes_of_payload n m (fixed64 v) = 0
  bytes_of_payload n m (fixed32 v) = 0
  bytes_of_payload n m (bytes b) = if nat_eq m n then length b else 0
  bytes_of_payload n m (group fs) = bytes_of_field n fs

  -- the records of number n, those nested in groups too
  pub bytes_of_field : ℕ → Fields → ℕ
  bytes_of_field n none = 0
  bytes_of_field n (field m p fs) = bytes_of_payload n m p + bytes_of_field n fs

-- the length of a length-delimited payload, where it is asked for
abbrev pub payload_length : Bool → Value → ℕ
payload_length true (values.Bytes b) = length b.now
payload_length asked value = 0
