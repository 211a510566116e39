-- Why bytes are not what they should be: the first fault from the left, with its error.
use Rattle.std.specs.Prelude.{◌≡◌, ◌≢◌, ℕ, ◌<◌, List, length, None}
use Rattle.wire_base.specs.declared.error.DecodeError.{DecodeError}
use Rattle.wire_base.specs.declared.error.DecodeError.TheVariants.{UnexpectedEof, InvalidWireType, RecursionLimitExceeded, InvalidEndGroup, UnknownFieldLimitExceeded}
use Rattle.wire_base.specs.declared.tag.WireType.{WireType}
use Rattle.wire_base.specs.declared.tag.WireType.TheVariants as types
use Rattle.wire_base.specs.Charge.{charge}
use Rattle.wire_base.specs.Delimited.{IsDelimited, DelimitedFault}
use Rattle.wire_base.specs.Ending.{Ending, by_tag, GoesOn, IsRecordTag}
use Rattle.wire_base.specs.Field.{Fields}
use Rattle.wire_base.specs.Limits.{Limits, Fits, one_field, bytes_charge, left_after, inner}
use Rattle.wire_base.specs.Read.{Reads}
use Rattle.wire_base.specs.Tag.{IsTagSpelling, TagFault}
use Rattle.wire_base.specs.Taken.{TakesFields}
use Rattle.wire_base.specs.Varint.{VarintFault}

-- Neither the tag of a record nor the end of the list stands here.
pub data NextTagFault : Ending → List ℕ → DecodeError → Type 0 where
  bad_tag : {ending : Ending} {bytes : List ℕ} {e : DecodeError}
      → TagFault bytes e → NextTagFault ending bytes e
  other_end : {n : ℕ} {bytes : List ℕ} (k : ℕ) (behind : List ℕ)
      → Reads bytes (IsTagSpelling k types.EndGroup) behind → k ≢ n
      → NextTagFault (by_tag n) bytes (InvalidEndGroup k)

mutual
  -- Behind a tag (n, w) no payload stands within the limits. A slot is taken before all else, a
  -- level before what stands inside the group, and bytes where they are known to be there.
  pub data PayloadFault : Limits → ℕ → WireType → List ℕ → DecodeError → Type 0 where
    no_slot : {l : Limits} {n : ℕ} {w : WireType} {bytes : List ℕ}
        → ¬ Fits one_field l → PayloadFault l n w bytes UnknownFieldLimitExceeded
    no_varint : {l : Limits} {n : ℕ} {bytes : List ℕ} {e : DecodeError}
        → Fits one_field l → VarintFault bytes e → PayloadFault l n types.Varint bytes e
    short_fixed64 : {l : Limits} {n : ℕ} {bytes : List ℕ}
        → Fits one_field l → length bytes < 8 → PayloadFault l n types.Fixed64 bytes UnexpectedEof
    short_fixed32 : {l : Limits} {n : ℕ} {bytes : List ℕ}
        → Fits one_field l → length bytes < 4 → PayloadFault l n types.Fixed32 bytes UnexpectedEof
    no_bytes : {l : Limits} {n : ℕ} {bytes : List ℕ} {e : DecodeError}
        → Fits one_field l → DelimitedFault None bytes e
        → PayloadFault l n types.LengthDelimited bytes e
    no_room : {l : Limits} {n : ℕ} {bytes : List ℕ} (payload rest : List ℕ)
        → Fits one_field l → Reads bytes (IsDelimited payload) rest
        → ¬ Fits (bytes_charge (length payload)) (left_after l one_field)
        → PayloadFault l n types.LengthDelimited bytes UnknownFieldLimitExceeded
    end_outside : {l : Limits} {n : ℕ} {bytes : List ℕ}
        → Fits one_field l → PayloadFault l n types.EndGroup bytes (InvalidWireType 4)
    no_level : {l : Limits} {n : ℕ} {bytes : List ℕ}
        → Fits one_field l → l.depth ≡ 0
        → PayloadFault l n types.StartGroup bytes RecursionLimitExceeded
    in_group : {l : Limits} {n : ℕ} {bytes : List ℕ} {e : DecodeError}
        → Fits one_field l → 0 < l.depth
        → ListFault (inner (left_after l one_field)) (by_tag n) bytes e
        → PayloadFault l n types.StartGroup bytes e

  -- Neither a record within the limits nor the end of the list stands here.
  pub data RecordFault : Limits → Ending → List ℕ → DecodeError → Type 0 where
    no_tag : {l : Limits} {ending : Ending} {bytes : List ℕ} {e : DecodeError}
        → NextTagFault ending bytes e → RecordFault l ending bytes e
    bad_payload : {l : Limits} {ending : Ending} {bytes : List ℕ} {e : DecodeError}
        (n : ℕ) (w : WireType) (behind : List ℕ)
        → Reads bytes (IsTagSpelling n w) behind → IsRecordTag ending w
        → PayloadFault l n w behind e → RecordFault l ending bytes e

  -- Records within the limits, and then a fault where the list goes on.
  pub data ListFault : Limits → Ending → List ℕ → DecodeError → Type 0 where
    past : {l : Limits} {ending : Ending} {bytes : List ℕ} {e : DecodeError}
        (fs : Fields) (rest : List ℕ) → TakesFields (charge fs) l fs bytes rest
        → GoesOn ending rest → RecordFault (left_after l (charge fs)) ending rest e
        → ListFault l ending bytes e
