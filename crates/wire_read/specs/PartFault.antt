-- Which part of a record is at fault: no record and no end of the list stands at some bytes, the
-- part begins at others, and this is the error. What stands inside a group is not looked at.
use Rattle.std.specs.Prelude.{◌≡◌, ◌≢◌, ℕ, ◌<◌, ◌≤◌, List, length}
use Rattle.wire_base.specs.declared.error.DecodeError.{DecodeError}
use Rattle.wire_base.specs.declared.error.DecodeError.TheVariants.{UnexpectedEof, InvalidWireType, RecursionLimitExceeded, InvalidEndGroup, UnknownFieldLimitExceeded}
use Rattle.wire_base.specs.declared.tag.WireType.{WireType}
use Rattle.wire_base.specs.declared.tag.WireType.TheVariants as types
use Rattle.wire_base.specs.Ending.{Ending, by_limit, by_tag, IsRecordTag}
use Rattle.wire_base.specs.Limits.{Limits, Fits, one_field, bytes_charge, left_after}
use Rattle.wire_base.specs.Read.{Reads}
use Rattle.wire_base.specs.Tag.{IsTagSpelling, TagFault}
use Rattle.wire_base.specs.Varint.{IsSpelling, VarintFault}
use Rattle.wire_read.specs.declared.event.Part.{Part}
use Rattle.wire_read.specs.declared.event.Part.TheVariants as parts

-- behind a tag of this wire type, for which there was a slot
pub data PayloadPart : Limits → WireType → List ℕ → Part → List ℕ → DecodeError → Type 0 where
  bad_varint : {l : Limits} {bytes : List ℕ} {e : DecodeError} → VarintFault bytes e
      → PayloadPart l types.Varint bytes parts.Value bytes e
  short_fixed64 : {l : Limits} {bytes : List ℕ} → length bytes < 8
      → PayloadPart l types.Fixed64 bytes parts.Value bytes UnexpectedEof
  short_fixed32 : {l : Limits} {bytes : List ℕ} → length bytes < 4
      → PayloadPart l types.Fixed32 bytes parts.Value bytes UnexpectedEof
  bad_length : {l : Limits} {bytes : List ℕ} {e : DecodeError} → VarintFault bytes e
      → PayloadPart l types.LengthDelimited bytes parts.Length bytes e
  short_payload : {l : Limits} {bytes : List ℕ} (len : ℕ) (payload : List ℕ)
      → Reads bytes (IsSpelling len) payload → length payload < len
      → PayloadPart l types.LengthDelimited bytes parts.Payload payload UnexpectedEof
  no_room : {l : Limits} {bytes : List ℕ} (len : ℕ) (payload : List ℕ)
      → Reads bytes (IsSpelling len) payload → len ≤ length payload
      → ¬ Fits (bytes_charge len) (left_after l one_field)
      → PayloadPart l types.LengthDelimited bytes parts.Payload payload UnknownFieldLimitExceeded

pub data PartFault : Limits → Ending → List ℕ → Part → List ℕ → DecodeError → Type 0 where
  bad_tag : {l : Limits} {ending : Ending} {bytes : List ℕ} {e : DecodeError}
      → TagFault bytes e → PartFault l ending bytes parts.Tag bytes e
  no_slot : {l : Limits} {ending : Ending} {bytes : List ℕ}
      (n : ℕ) (w : WireType) (behind : List ℕ)
      → Reads bytes (IsTagSpelling n w) behind → IsRecordTag ending w → ¬ Fits one_field l
      → PartFault l ending bytes parts.Tag bytes UnknownFieldLimitExceeded
  no_level : {l : Limits} {ending : Ending} {bytes : List ℕ} (n : ℕ) (behind : List ℕ)
      → Reads bytes (IsTagSpelling n types.StartGroup) behind → Fits one_field l → l.depth ≡ 0
      → PartFault l ending bytes parts.Tag bytes RecursionLimitExceeded
  end_outside : {l : Limits} {most : ℕ} {bytes : List ℕ} (n : ℕ) (behind : List ℕ)
      → Reads bytes (IsTagSpelling n types.EndGroup) behind → Fits one_field l
      → PartFault l (by_limit most) bytes parts.EndTag bytes (InvalidWireType 4)
  other_end : {l : Limits} {n : ℕ} {bytes : List ℕ} (k : ℕ) (behind : List ℕ)
      → Reads bytes (IsTagSpelling k types.EndGroup) behind → k ≢ n
      → PartFault l (by_tag n) bytes parts.EndTag bytes (InvalidEndGroup k)
  in_payload : {l : Limits} {ending : Ending} {bytes : List ℕ} {e : DecodeError}
      (n : ℕ) (w : WireType) (behind : List ℕ) (part : Part) (place : List ℕ)
      → Reads bytes (IsTagSpelling n w) behind → Fits one_field l
      → PayloadPart l w behind part place e → PartFault l ending bytes part place e
