-- Records whose numbers fit where they are written, inside groups too.
use Rattle.std.specs.Prelude.{◌^◌, ◌<◌, length}
use Rattle.wire_base.specs.Field.{Payload, varint, fixed64, fixed32, bytes, group, Fields, none, field}
use Rattle.wire_base.specs.FieldNumber.{IsFieldNumber}

-- numbers and lengths of payloads fit their widths
abbrev mutual
  pub IsPayloadFitting : Payload → Type 0
  IsPayloadFitting (varint v) = v < 2 ^ 64
  IsPayloadFitting (fixed64 v) = v < 2 ^ 64
  IsPayloadFitting (fixed32 v) = v < 2 ^ 32
  IsPayloadFitting (bytes b) = length b < 2 ^ 64
  IsPayloadFitting (group fs) = AreFitting fs

  pub AreFitting : Fields → Type 0
  AreFitting none = Unit {0}
  AreFitting (field n p rest) = IsPayloadFitting p × AreFitting rest

-- field numbers are numbers that a field may have
abbrev mutual
  pub IsPayloadNumbered : Payload → Type 0
  IsPayloadNumbered (varint v) = Unit {0}
  IsPayloadNumbered (fixed64 v) = Unit {0}
  IsPayloadNumbered (fixed32 v) = Unit {0}
  IsPayloadNumbered (bytes b) = Unit {0}
  IsPayloadNumbered (group fs) = AreNumbered fs

  pub AreNumbered : Fields → Type 0
  AreNumbered none = Unit {0}
  AreNumbered (field n p rest) = IsFieldNumber n × IsPayloadNumbered p × AreNumbered rest
