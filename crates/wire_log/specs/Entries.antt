-- Frames of a log whose payloads are records, and those whose are not.
use Rattle.std.specs.Prelude.{◌≡◌, ℕ, ◌-◌, ◌<◌, List, ◌++◌, length}
use Rattle.wire_base.specs.Charge.{charge}
use Rattle.wire_base.specs.Field.{Fields}
use Rattle.wire_base.specs.Limits.{Limits, Fits, counted}
use Rattle.wire_base.specs.Read.{Reads}
use Rattle.wire_base.specs.Spells.{Spells}
use Rattle.wire_frames.specs.declared.error.FrameError.{FrameError}
use Rattle.wire_frames.specs.declared.frame.Frame.{Frame}
use Rattle.wire_frames.specs.declared.frame.FrameText.{FrameText}
use Rattle.wire_frames.specs.declared.frame.Framing.{Framing}
use Rattle.wire_frames.specs.Frames.{frame_of, IsFrame, IsWhole, HoldsFrame, FrameFault}
use Rattle.wire_frames.specs.Stream.{Stream, unread, left}
use Rattle.wire_log.specs.declared.entry.Broken.{Broken}
use Rattle.wire_log.specs.declared.entry.LogReader.{LogReader}
use Rattle.wire_log.specs.declared.entry.Stop.{Stop}
use Rattle.wire_log.specs.declared.entry.Stop.TheVariants as stops
use Rattle.wire_read.specs.Faults.{IsFault}
use Rattle.wire_run.specs.declared.frame_place.FramePlace.{FramePlace}

-- the limits of one payload
abbrev pub entry_limits : Limits
entry_limits = counted 100 1000000

-- the payload is these records, within the limits
pub record SpellsEntry (fields : Fields) (payload : List ℕ) : Type 0 where
  pub spelled : Spells fields payload
  pub within : Fits (charge fields) entry_limits

-- the payload is some records within the limits
abbrev pub HoldsRecords : List ℕ → Type 0
HoldsRecords payload = (fields : Fields) × SpellsEntry fields payload

-- how many frames stand before the next one, and the byte of the log at which it begins
abbrev pub frame_place : LogReader → FramePlace
frame_place log = record { number = log.taken; start = log.fed - length (unread log.decoder) }

-- a frame of records is taken off as it stands
pub record TakesEntry (old new : Stream) (whole : FrameText) : Type 0 where
  pub frame : IsWhole old.framing old.limit whole
  pub parts : unread old ≡ whole.text ++ unread new
  pub rest : new ≡ left old (unread new)
  pub records : HoldsRecords (frame_of whole).payload

-- the payload of a frame is no records within the limits, and this is told of it
pub record IsBroken (whole : FrameText) (broken : Broken) : Type 0 where
  pub no_records : HoldsRecords (frame_of whole).payload → ⊥
  pub fault : IsFault entry_limits (frame_of whole).payload broken.fault
  pub prefix : broken.prefix ≡ whole.prefix

-- a frame whose payload is no records is taken off
pub record LeavesOut (old new : LogReader) (broken : Broken) : Type 0 where
  pub whole : FrameText
  pub frame : IsWhole old.decoder.framing old.decoder.limit whole
  pub parts : unread old.decoder ≡ whole.text ++ unread new.decoder
  pub rest : new.decoder ≡ left old.decoder (unread new.decoder)
  pub shorter : length (unread new.decoder) < length (unread old.decoder)
  pub is_broken : IsBroken whole broken
  pub place : broken.place ≡ frame_place old

-- a frame of records stands at the front
abbrev pub HoldsEntry : Framing → ℕ → List ℕ → Type 0
HoldsEntry form limit bytes = (frame : Frame) × (rest : List ℕ) × (fields : Fields)
    × Reads bytes (IsFrame form limit frame) rest × SpellsEntry fields frame.payload

-- why none is taken off
pub data StopsHere (form : Framing) (limit : ℕ) (bytes : List ℕ) (e : Stop) : Type 0 where
  no_frame : (why : FrameError) → FrameFault form limit bytes why → e ≡ stops.Frame why
      → StopsHere form limit bytes e
  no_records : (frame : Frame) (rest : List ℕ) (broken : Broken)
      → Reads bytes (IsFrame form limit frame) rest
      → IsFault entry_limits frame.payload broken.fault → e ≡ stops.Records broken
      → StopsHere form limit bytes e
  -- no fault of the log: memory ran out for a frame that stands there as a whole
  no_memory : HoldsFrame form limit bytes → e ≡ stops.OutOfMemory → StopsHere form limit bytes e
