-- What holds of frames. Each statement is proved as the contract of a law.
use Rattle.std.specs.Prelude.{◌≡◌, ℕ, ◌+◌, ◌^◌, ◌<◌, ◌≤◌, ◌⊎◌, false, List, [], ◌∷◌, ◌++◌, length}
use Rattle.wire_base.specs.Delimited.{delimited_text}
use Rattle.wire_base.specs.Read.{Reads}
use Rattle.wire_frames.specs.declared.error.FrameError.{FrameError}
use Rattle.wire_frames.specs.declared.frame.Frame.{Frame}
use Rattle.wire_frames.specs.declared.frame.Framing.{Framing}
use Rattle.wire_frames.specs.declared.frame.Framing.TheVariants.{Delimited, Grpc}
use Rattle.wire_frames.specs.Encoding.{grpc_text}
use Rattle.wire_frames.specs.Frames.{IsFrame, Frames, HoldsFrame, IsUnfinished, FrameFault, HasNext}

-- ---- one frame

abbrev pub OneFrame : Type 0
OneFrame = (form : Framing) (limit : ℕ) (x y : Frame) (bytes r s : List ℕ)
    → Reads bytes (IsFrame form limit x) r → Reads bytes (IsFrame form limit y) s
    → (x ≡ y) × (r ≡ s)

abbrev pub OneFrameFault : Type 0
OneFrameFault = (form : Framing) (limit : ℕ) (bytes : List ℕ) (e f : FrameError)
    → FrameFault form limit bytes e → FrameFault form limit bytes f → e ≡ f

abbrev pub NoFrameBesideFault : Type 0
NoFrameBesideFault = (form : Framing) (limit : ℕ) (bytes : List ℕ) (e : FrameError)
    → HoldsFrame form limit bytes → FrameFault form limit bytes e → ⊥

abbrev pub UnfinishedHasNoNext : Type 0
UnfinishedHasNoNext = (form : Framing) (limit : ℕ) (bytes : List ℕ)
    → IsUnfinished form limit bytes → HasNext form limit bytes → ⊥

abbrev pub NextOrUnfinished : Type 0
NextOrUnfinished = (form : Framing) (limit : ℕ) (bytes : List ℕ)
    → HasNext form limit bytes ⊎ IsUnfinished form limit bytes

-- a frame takes a byte at least, so that a loop over frames ends
abbrev pub FrameMovesOn : Type 0
FrameMovesOn = (form : Framing) (limit : ℕ) (x : Frame) (bytes rest : List ℕ)
    → Reads bytes (IsFrame form limit x) rest → length rest < length bytes

-- what waits for more is less than a prefix and a payload
abbrev pub UnfinishedIsShort : Type 0
UnfinishedIsShort = (form : Framing) (limit : ℕ) (bytes : List ℕ)
    → IsUnfinished form limit bytes → length bytes < 10 + limit

-- ---- frames one after another, in chunks

-- no bytes behind change a frame or a fault
pub record BytesBehind : Type 0 where
  pub frames : (form : Framing) (limit : ℕ) (xs : List Frame) (old new more : List ℕ)
      → Frames form limit xs old new → Frames form limit xs (old ++ more) (new ++ more)
  pub fault : (form : Framing) (limit : ℕ) (bytes more : List ℕ) (e : FrameError)
      → FrameFault form limit bytes e → FrameFault form limit (bytes ++ more) e

-- one frame more, and frames behind frames
pub record FramesAddUp : Type 0 where
  pub one_more : (form : Framing) (limit : ℕ) (xs : List Frame) (x : Frame)
      (old mid new : List ℕ) → Frames form limit xs old mid
      → Reads mid (IsFrame form limit x) new → Frames form limit (xs ++ x ∷ []) old new
  pub joined : (form : Framing) (limit : ℕ) (xs ys : List Frame) (old mid new : List ℕ)
      → Frames form limit xs old mid → Frames form limit ys mid new
      → Frames form limit (xs ++ ys) old new

-- up to a place where no whole frame stands, the frames are one list
abbrev pub OneFrameList : Type 0
OneFrameList = (form : Framing) (limit : ℕ) (xs ys : List Frame) (bytes r s : List ℕ)
    → Frames form limit xs bytes r → Frames form limit ys bytes s
    → (HoldsFrame form limit r → ⊥) → (HoldsFrame form limit s → ⊥)
    → (xs ≡ ys) × (r ≡ s)

-- ---- what is written is read, whatever follows

abbrev pub delimited_frame : List ℕ → Frame
delimited_frame payload = record { compressed = false; payload = payload }

pub record WrittenIsRead : Type 0 where
  pub delimited : (limit : ℕ) (payload more : List ℕ)
      → length payload ≤ limit → length payload < 2 ^ 64
      → Reads (delimited_text payload ++ more)
      (IsFrame Delimited limit (delimited_frame payload)) more
  pub grpc : (limit : ℕ) (frame : Frame) (more : List ℕ)
      → length frame.payload ≤ limit → length frame.payload < 2 ^ 32
      → Reads (grpc_text frame.compressed frame.payload ++ more) (IsFrame Grpc limit frame) more
