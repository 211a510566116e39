-- Why unknown fields are not decoded: a fault of the bytes, or want of memory for what stands there
-- as a whole.
use Rattle.std.specs.Prelude.{◌≡◌, ◌≢◌, ◌⊎◌, ℕ, ◌<◌, List}
use Rattle.wire_base.specs.declared.error.DecodeError.{DecodeError}
use Rattle.wire_base.specs.declared.error.DecodeError.TheVariants.{OutOfMemory}
use Rattle.wire_base.specs.declared.tag.WireType.{WireType}
use Rattle.wire_base.specs.declared.tag.WireType.TheVariants as types
use Rattle.wire_base.specs.Charge.{payload_charge, charge}
use Rattle.wire_base.specs.Delimited.{IsDelimited}
use Rattle.wire_base.specs.Ending.{Ending}
use Rattle.wire_base.specs.Fault.{PayloadFault, ListFault}
use Rattle.wire_base.specs.Field.{Payload, Fields, none}
use Rattle.wire_base.specs.Limits.{Limits, Fits, one_field, left_after, inner}
use Rattle.wire_base.specs.Read.{Reads}
use Rattle.wire_base.specs.Tag.{IsTagSpelling}
use Rattle.wire_base.specs.Taken.{TakesFields}

mutual
  -- Memory is wanted behind a tag of this wire type, within the limits.
  pub data PayloadWantsMemory : Limits → WireType → List ℕ → Type 0 where
    -- a payload that is copied stands there, within the limits
    for_bytes : {l : Limits} {bytes : List ℕ} (payload rest : List ℕ)
        → Fits (payload_charge (Payload.bytes payload)) l → Reads bytes (IsDelimited payload) rest
        → PayloadWantsMemory l types.LengthDelimited bytes
    in_group : {l : Limits} {bytes : List ℕ}
        → Fits one_field l → 0 < l.depth → FieldsWantMemory (inner (left_after l one_field)) bytes
        → PayloadWantsMemory l types.StartGroup bytes

  -- Memory is wanted in a list of records.
  pub data FieldsWantMemory : Limits → List ℕ → Type 0 where
    -- a record that is kept stands there, within the limits
    for_field : {l : Limits} {bytes : List ℕ} (fs : Fields) (rest : List ℕ)
        → fs ≢ none → TakesFields (charge fs) l fs bytes rest → FieldsWantMemory l bytes
    -- or the first of the records wants it
    for_payload : {l : Limits} {bytes : List ℕ} (n : ℕ) (w : WireType) (behind : List ℕ)
        → Reads bytes (IsTagSpelling n w) behind → PayloadWantsMemory l w behind
        → FieldsWantMemory l bytes

-- no payload is decoded behind a tag (n, w)
abbrev pub PayloadRefusal : Limits → ℕ → WireType → List ℕ → DecodeError → Type 0
PayloadRefusal l n w bytes e =
    PayloadFault l n w bytes e ⊎ ((e ≡ OutOfMemory) × PayloadWantsMemory l w bytes)

-- no list is decoded that ends so
abbrev pub ListRefusal : Limits → Ending → List ℕ → DecodeError → Type 0
ListRefusal l ending bytes e =
    ListFault l ending bytes e ⊎ ((e ≡ OutOfMemory) × FieldsWantMemory l bytes)
