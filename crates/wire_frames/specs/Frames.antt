-- Frames one after another, under a limit on the bytes of a payload, and what stands where no
-- further one does.
use Rattle.std.specs.Prelude.{◌≡◌, ◌≢◌, ℕ, ◌<◌, ◌≤◌, ◌⊎◌, Bool, List, [], ◌∷◌, ◌++◌, length, drop}
use Rattle.wire_base.specs.Read.{Reads}
use Rattle.wire_frames.specs.declared.error.FrameError.{FrameError}
use Rattle.wire_frames.specs.declared.error.FrameError.TheVariants.{FrameTooLarge, Truncated, OutOfMemory}
use Rattle.wire_frames.specs.declared.frame.Frame.{Frame}
use Rattle.wire_frames.specs.declared.frame.FrameText.{FrameText}
use Rattle.wire_frames.specs.declared.frame.Framing.{Framing}
use Rattle.wire_frames.specs.Prefix.{IsPrefix, IsBegun, PrefixFault}

-- the text is a prefix, and then the payload, of as many bytes as it tells and of no more than the
-- limit
pub record IsFrame (form : Framing) (limit : ℕ) (frame : Frame) (text : List ℕ) : Type 0 where
  pub prefix : List ℕ
  pub parts : text ≡ prefix ++ frame.payload
  pub tells : IsPrefix form frame.compressed (length frame.payload) prefix
  pub within : length frame.payload ≤ limit

-- the frame of a text that begins with so many bytes of prefix
abbrev pub frame_of : FrameText → Frame
frame_of whole = record {
  compressed = whole.compressed;
  payload = drop whole.prefix whole.text;
}

-- the text is a frame, and so many of its bytes are the prefix
pub record IsWhole (form : Framing) (limit : ℕ) (whole : FrameText) : Type 0 where
  pub frame : IsFrame form limit (frame_of whole) whole.text
  pub prefix : whole.prefix ≤ length whole.text

-- old is these frames, one after another, and then new
abbrev pub Frames : Framing → ℕ → List Frame → List ℕ → List ℕ → Type 0
Frames form limit [] old new = old ≡ new
Frames form limit (frame ∷ frames) old new =
    (mid : List ℕ) × Reads old (IsFrame form limit frame) mid × Frames form limit frames mid new

-- a whole frame stands at the front
abbrev pub HoldsFrame : Framing → ℕ → List ℕ → Type 0
HoldsFrame form limit bytes =
    (frame : Frame) × (rest : List ℕ) × Reads bytes (IsFrame form limit frame) rest

-- no whole frame yet, and nothing is wrong: the bytes end inside of a prefix, or inside of a
-- payload that is within the limit
pub data IsUnfinished (form : Framing) (limit : ℕ) (bytes : List ℕ) : Type 0 where
  in_prefix : IsBegun form bytes → IsUnfinished form limit bytes
  in_payload : (compressed : Bool) (len : ℕ) (behind : List ℕ)
      → Reads bytes (IsPrefix form compressed len) behind → len ≤ limit → length behind < len
      → IsUnfinished form limit bytes

-- no frame stands at the front, whatever follows, with the error that says why
pub data FrameFault (form : Framing) (limit : ℕ) (bytes : List ℕ) (e : FrameError) : Type 0 where
  no_prefix : PrefixFault form bytes e → FrameFault form limit bytes e
  -- the prefix is complete, and tells a length above the limit
  too_large : (compressed : Bool) (len : ℕ) (behind : List ℕ)
      → Reads bytes (IsPrefix form compressed len) behind → limit < len → e ≡ FrameTooLarge len
      → FrameFault form limit bytes e

-- the fault, or want of memory for a frame that stands there as a whole
pub data FrameRefusal (form : Framing) (limit : ℕ) (bytes : List ℕ) (e : FrameError)
    : Type 0 where
  fault : FrameFault form limit bytes e → FrameRefusal form limit bytes e
  memory : HoldsFrame form limit bytes → e ≡ OutOfMemory → FrameRefusal form limit bytes e

-- the same where the bytes are the end of the input: some are left, and wait for more
pub data EndRefusal (form : Framing) (limit : ℕ) (bytes : List ℕ) (e : FrameError) : Type 0 where
  next : FrameRefusal form limit bytes e → EndRefusal form limit bytes e
  cut_short : IsUnfinished form limit bytes → bytes ≢ [] → e ≡ Truncated
      → EndRefusal form limit bytes e

-- a whole frame or a fault stands at the front
abbrev pub HasNext : Framing → ℕ → List ℕ → Type 0
HasNext form limit bytes =
    HoldsFrame form limit bytes ⊎ ((e : FrameError) × FrameFault form limit bytes e)
