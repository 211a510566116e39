-- Where the frames of a whole input stop.
use Rattle.std.specs.Prelude.{ℕ, List}
use Rattle.wire_frames.specs.declared.error.FrameError.{FrameError}
use Rattle.wire_frames.specs.declared.frame.Frame.{Frame}
use Rattle.wire_frames.specs.declared.frame.Framing.{Framing}
use Rattle.wire_frames.specs.Frames.{Frames, EndRefusal}

-- frames stand at the front of all bytes, and behind them a frame is refused
pub record StopsAt (form : Framing) (limit : ℕ) (all : List ℕ) (e : FrameError) : Type 0 where
  pub frames : List Frame
  pub rest : List ℕ
  pub read : Frames form limit frames all rest
  pub refused : EndRefusal form limit rest e
