-- The payloads of scalar values, as they are written.
use Rattle.std.specs.Prelude.{ℕ}
use Rattle.wire_codec.specs.Field.{Payload}
use Rattle.wire_codec.specs.Records.{Records, none, field, of_payload}
use Rattle.wire_fields.specs.Presence.{unless}
use Rattle.wire_structs.specs.declared.field_part.FieldPart.{FieldPart}
use Rattle.wire_structs.specs.declared.payload.ScalarPayload.{ScalarPayload}
use Rattle.wire_structs.specs.declared.payload.ScalarPayload.TheVariants as payloads

abbrev pub scalar_payload : ScalarPayload → Payload
scalar_payload (payloads.Varint x) = Payload.varint x
scalar_payload (payloads.Fixed64 x) = Payload.fixed64 x
scalar_payload (payloads.Fixed32 x) = Payload.fixed32 x
scalar_payload (payloads.Bytes b) = Payload.bytes b.now

-- its record
abbrev pub payload_record : ℕ → ScalarPayload → Records
payload_record n p = field n (of_payload (scalar_payload p)) none

-- the record of a field, where it is not left out
abbrev pub field_records : FieldPart → Records
field_records f = unless f.is_left_out (payload_record f.number f.payload)
