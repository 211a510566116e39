-- Messages in frames.
use Rattle.std.specs.Prelude.{◌≡◌, ◌≢◌, ◌<◌, ◌≤◌, true, false, length}
use Rattle.wire_base.specs.declared.error.DecodeError.{DecodeError}
use Rattle.wire_base.specs.declared.error.DecodeError.TheVariants.{MessageTooLarge, OutOfMemory}
use Rattle.wire_base.specs.Read.{Reads}
use Rattle.wire_codec.specs.Folds.{Step}
use Rattle.wire_codec.specs.Options.{Options, limits_of}
use Rattle.wire_codec.specs.Taking.{Decodes, NotDecoded}
use Rattle.wire_frames.specs.declared.error.FrameError.{FrameError}
use Rattle.wire_frames.specs.declared.frame.Frame.{Frame}
use Rattle.wire_frames.specs.declared.message.MessageError.{MessageError}
use Rattle.wire_frames.specs.declared.message.MessageError.TheVariants as errors
use Rattle.wire_frames.specs.Frames.{IsFrame, FrameRefusal}
use Rattle.wire_frames.specs.Stream.{Stream, unread, left}

-- the payload is not compressed, and all of it is taken within the limits and makes this value
pub record IsMessage {V : Type 0} (takes : Step V) (options : Options) (default : V)
    (frame : Frame) (value : V) : Type 0 where
  pub plain : frame.compressed ≡ false
  pub short : length frame.payload ≤ options.max_message_size
  pub decodes : Decodes takes (limits_of options) default frame.payload value

-- why a frame is no message
pub data MessageFault {V : Type 0} (takes : Step V) (options : Options) (default : V)
    (frame : Frame) (e : MessageError) : Type 0 where
  compressed : frame.compressed ≡ true → e ≡ errors.Compressed
      → MessageFault takes options default frame e
  too_large : frame.compressed ≡ false → options.max_message_size < length frame.payload
      → e ≡ errors.Decode MessageTooLarge → MessageFault takes options default frame e
  -- the payload is not taken, or memory is refused
  not_decoded : (why : DecodeError) → frame.compressed ≡ false
      → length frame.payload ≤ options.max_message_size
      → (why ≢ OutOfMemory → NotDecoded takes (limits_of options) default frame.payload)
      → e ≡ errors.Decode why → MessageFault takes options default frame e

-- a frame is taken off, and it is a message of this value
pub record ReadsMessage {V : Type 0} (takes : Step V) (options : Options) (default : V)
    (old new : Stream) (value : V) : Type 0 where
  pub frame : Frame
  pub taken : Reads (unread old) (IsFrame old.framing old.limit frame) (unread new)
  pub rest : new ≡ left old (unread new)
  pub message : IsMessage takes options default frame value

-- no frame is taken off, and nothing changes; or one is, which is no message
pub data MessageRefusal {V : Type 0} (takes : Step V) (options : Options) (default : V)
    (old new : Stream) (e : MessageError) : Type 0 where
  no_frame : (why : FrameError) → FrameRefusal old.framing old.limit (unread old) why
      → new ≡ old → e ≡ errors.Frame why → MessageRefusal takes options default old new e
  no_message : (frame : Frame)
      → Reads (unread old) (IsFrame old.framing old.limit frame) (unread new)
      → new ≡ left old (unread new)
      → MessageFault takes options default frame e → MessageRefusal takes options default old new e
