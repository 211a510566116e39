-- What events, faults and limits are as numbers.
use Rattle.std.specs.Prelude.{ℕ, length}
use Rattle.wire_base.specs.declared.error.DecodeError.{DecodeError}
use Rattle.wire_base.specs.declared.error.DecodeError.TheVariants.{UnexpectedEof, VarintTooLong, InvalidWireType, InvalidFieldNumber, MessageTooLarge, WireTypeMismatch, InvalidUtf8, RecursionLimitExceeded, InvalidEndGroup, InvalidMessageSet, UnknownFieldLimitExceeded, ElementMemoryLimitExceeded, Custom, OutOfMemory}
use Rattle.wire_base.specs.Limits.{Limits, counted, with_unknown_bytes}
use Rattle.wire_read.specs.declared.event.Fault.{Fault}
use Rattle.wire_read.specs.declared.event.Part.{Part}
use Rattle.wire_read.specs.declared.event.Part.TheVariants as parts
use Rattle.wire_read.specs.declared.event.Value.{Value}
use Rattle.wire_read.specs.declared.event.Value.TheVariants as values
use Rattle.wire_read.specs.declared.numbers.FaultNumbers.{FaultNumbers}
use Rattle.wire_read.specs.declared.numbers.LimitNumbers.{LimitNumbers}

abbrev pub context_of : LimitNumbers → Limits
context_of l = with_unknown_bytes (counted l.depth l.records) l.payload_bytes

-- the wire type
abbrev pub kind_of : Value → ℕ
kind_of (values.Varint v) = 0
kind_of (values.Fixed64 v) = 1
kind_of (values.Bytes b) = 2
kind_of values.GroupStart = 3
kind_of values.GroupEnd = 4
kind_of (values.Fixed32 v) = 5

-- the number, or the length of the payload
abbrev pub value_of : Value → ℕ
value_of (values.Varint v) = v
value_of (values.Fixed64 v) = v
value_of (values.Bytes b) = length b.now
value_of values.GroupStart = 0
value_of values.GroupEnd = 0
value_of (values.Fixed32 v) = v

abbrev pub part_of : Part → ℕ
part_of parts.Tag = 0
part_of parts.Value = 1
part_of parts.Length = 2
part_of parts.Payload = 3
part_of parts.EndTag = 4

abbrev pub status_of : DecodeError → ℕ
status_of UnexpectedEof = 2
status_of VarintTooLong = 3
status_of (InvalidWireType w) = 4
status_of InvalidFieldNumber = 5
status_of MessageTooLarge = 6
status_of (WireTypeMismatch n e a) = 7
status_of InvalidUtf8 = 8
status_of RecursionLimitExceeded = 9
status_of (InvalidEndGroup n) = 10
status_of (InvalidMessageSet t) = 11
status_of UnknownFieldLimitExceeded = 12
status_of ElementMemoryLimitExceeded = 13
status_of (Custom t) = 14
status_of OutOfMemory = 15

-- the wire type or the field number that an error names
abbrev pub detail_of : DecodeError → ℕ
detail_of (InvalidWireType w) = w
detail_of (InvalidEndGroup n) = n
detail_of e = 0

abbrev pub told_fault : Fault → FaultNumbers
told_fault f = record {
  status = status_of f.error;
  detail = detail_of f.error;
  part = part_of f.part;
  record_place = f.record_place;
  part_place = f.part_place;
}
