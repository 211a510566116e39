-- The test of equality of records, and what they feed a hasher.
use Rattle.std.specs.Prelude.{Bool, true, false, ◌==◌, ◌&&◌, [], ◌++◌}
use Rattle.std.specs.Str.{bytes_eq}
use Rattle.std.specs.Hash as fed
use Rattle.wire_base.specs.Field.{Payload, varint, fixed64, fixed32, bytes, group, Fields, none, field, count_top}

abbrev mutual
  pub payload_eq : Payload → Payload → Bool
  payload_eq (varint v) (varint w) = v == w
  payload_eq (fixed64 v) (fixed64 w) = v == w
  payload_eq (fixed32 v) (fixed32 w) = v == w
  payload_eq (bytes b) (bytes c) = bytes_eq b c
  payload_eq (group fs) (group gs) = fields_eq fs gs
  payload_eq _ _ = false

  -- the same records in the same order
  pub fields_eq : Fields → Fields → Bool
  fields_eq none none = true
  fields_eq (field n p fs) (field m q gs) = (n == m) && (payload_eq p q && fields_eq fs gs)
  fields_eq _ _ = false

-- a mark for the kind, and then the number or the bytes or how many records and each of them
abbrev mutual
  pub payload_writes : Payload → fed.HashWrites
  payload_writes (varint v) = fed.u8 0 ++ fed.u64 v
  payload_writes (fixed64 v) = fed.u8 1 ++ fed.u64 v
  payload_writes (fixed32 v) = fed.u8 2 ++ fed.u32 v
  payload_writes (bytes b) = fed.u8 3 ++ fed.slice fed.u8 b
  payload_writes (group fs) = fed.u8 4 ++ (fed.usize (count_top fs) ++ each_writes fs)

  -- each record in turn, with no count
  pub each_writes : Fields → fed.HashWrites
  each_writes none = []
  each_writes (field n p rest) = (fed.u32 n ++ payload_writes p) ++ each_writes rest

abbrev pub fields_writes : Fields → fed.HashWrites
fields_writes fs = fed.usize (count_top fs) ++ each_writes fs
