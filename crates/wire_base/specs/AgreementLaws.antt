-- What decoding and skipping say of the same bytes, and what a fault tells of bytes to come. Each
-- statement is proved as the contract of a law of src/laws.rt.
use Rattle.std.specs.Prelude.{◌≡◌, ◌≢◌, ℕ, ◌+◌, ◌-◌, ◌⊎◌, List, [], ◌++◌, length}
use Rattle.wire_base.specs.declared.error.DecodeError.{DecodeError}
use Rattle.wire_base.specs.declared.error.DecodeError.TheVariants.{UnexpectedEof, UnknownFieldLimitExceeded}
use Rattle.wire_base.specs.declared.tag.WireType.{WireType}
use Rattle.wire_base.specs.declared.tag.WireType.TheVariants.{StartGroup}
use Rattle.wire_base.specs.Charge.{payload_charge, charge}
use Rattle.wire_base.specs.Ending.{Ending, by_tag}
use Rattle.wire_base.specs.Fault.{PayloadFault, ListFault}
use Rattle.wire_base.specs.Field.{Payload, Fields, group}
use Rattle.wire_base.specs.Limits.{Limits, HasRoom, uncounted}
use Rattle.wire_base.specs.Taken.{TakesPayload, TakesUntil}

-- what is decoded is skipped with as many levels
abbrev pub SkippedWhereDecoded : Type 0
SkippedWhereDecoded =
    (l : Limits) (n : ℕ) (w : WireType) (p : Payload) (old new : List ℕ)
    → TakesPayload (payload_charge p) l n w p old new
    → TakesPayload (payload_charge p) (uncounted l.depth) n w p old new

-- a fault that is no want of slots or of bytes is the fault of skipping
abbrev pub RefusedAlike : Type 0
RefusedAlike =
    (l : Limits) (n : ℕ) (w : WireType) (bytes : List ℕ) (e : DecodeError)
    → PayloadFault l n w bytes e → e ≢ UnknownFieldLimitExceeded
    → PayloadFault (uncounted l.depth) n w bytes e

-- there are more slots than bytes, and as many bytes may be kept
pub record HasRoomFor (l : Limits) (bytes : List ℕ) : Type 0 where
  pub unknown_fields : HasRoom l.counts.unknown_fields (length bytes + 1)
  pub unknown_bytes : HasRoom l.counts.unknown_bytes (length bytes)

-- with room for the bytes decoding agrees with skipping: it never wants for room, takes what
-- skipping takes, and refuses what skipping refuses
pub record RoomSuffices : Type 0 where
  pub none_wanted : (l : Limits) (n : ℕ) (w : WireType) (bytes : List ℕ) → HasRoomFor l bytes
      → PayloadFault l n w bytes UnknownFieldLimitExceeded → ⊥
  pub taken : (l : Limits) (n : ℕ) (w : WireType) (p : Payload) (old new : List ℕ)
      → HasRoomFor l old → TakesPayload (payload_charge p) (uncounted l.depth) n w p old new
      → TakesPayload (payload_charge p) l n w p old new
  pub refused : (l : Limits) (n : ℕ) (w : WireType) (bytes : List ℕ) (e : DecodeError)
      → HasRoomFor l bytes → PayloadFault (uncounted l.depth) n w bytes e
      → PayloadFault l n w bytes e

-- of a group that is decoded, the body and its end tag are a list with one level less
abbrev pub BodyWhereDecoded : Type 0
BodyWhereDecoded =
    (l : Limits) (n : ℕ) (fs : Fields) (old new : List ℕ)
    → TakesPayload (payload_charge (group fs)) l n StartGroup (group fs) old new
    → TakesUntil (charge fs) (uncounted (l.depth - 1)) (by_tag n) fs old new

-- a fault says that bytes are missing, or stays the same whatever bytes follow
pub record FaultsStay : Type 0 where
  pub payload : (l : Limits) (n : ℕ) (w : WireType) (bytes more : List ℕ) (e : DecodeError)
      → PayloadFault l n w bytes e
      → (e ≡ UnexpectedEof) ⊎ PayloadFault l n w (bytes ++ more) e
  pub list : (l : Limits) (ending : Ending) (bytes more : List ℕ) (e : DecodeError)
      → ListFault l ending bytes e
      → (e ≡ UnexpectedEof) ⊎ ListFault l ending (bytes ++ more) e

-- where a payload is cut off before its end, bytes are missing
abbrev pub CutIsShort : Type 0
CutIsShort =
    (l : Limits) (n : ℕ) (w : WireType) (p : Payload) (front more : List ℕ) → more ≢ []
    → TakesPayload (payload_charge p) l n w p (front ++ more) []
    → PayloadFault l n w front UnexpectedEof
