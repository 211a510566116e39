-- What is kept of a log where the frames whose payload is no records are left out.
use Rattle.std.specs.Prelude.{◌≡◌, ◌≢◌, ℕ, ◌-◌, List, [], ◌∷◌, ◌++◌, length}
use Rattle.wire_frames.specs.declared.frame.FrameText.{FrameText}
use Rattle.wire_frames.specs.declared.frame.Framing.{Framing}
use Rattle.wire_frames.specs.Frames.{frame_of, IsWhole}
use Rattle.wire_frames.specs.Stream.{unread}
use Rattle.wire_log.specs.declared.entry.Broken.{Broken}
use Rattle.wire_log.specs.declared.entry.LogReader.{LogReader}
use Rattle.wire_log.specs.declared.entry.Stop.{Stop}
use Rattle.wire_log.specs.declared.entry.Stop.TheVariants as stops
use Rattle.wire_log.specs.Entries.{HoldsRecords, IsBroken, StopsHere}

-- Frames stand at the front of the bytes, one after another, up to a rest. The text is of those
-- whose payload is records within the limits, each as it stands, in order; the list tells of all
-- others, in order. The bytes are the last of so many that were fed, so that places are told.
pub data Keeps : ℕ → Framing → ℕ → List ℕ → List ℕ → List ℕ → List Broken → Type 0 where
  no_frame : {fed : ℕ} {form : Framing} {limit : ℕ} {bytes rest text : List ℕ}
      {left_out : List Broken}
      → bytes ≡ rest → text ≡ [] → left_out ≡ [] → Keeps fed form limit bytes rest text left_out
  -- one frame more, which is kept
  kept : {fed : ℕ} {form : Framing} {limit : ℕ} {bytes rest text : List ℕ}
      {left_out : List Broken} (whole : FrameText) (mid before : List ℕ)
      → Keeps fed form limit bytes mid before left_out
      → IsWhole form limit whole → mid ≡ whole.text ++ rest
      → HoldsRecords (frame_of whole).payload → text ≡ before ++ whole.text
      → Keeps fed form limit bytes rest text left_out
  -- one frame more, which is left out
  dropped : {fed : ℕ} {form : Framing} {limit : ℕ} {bytes rest text : List ℕ}
      {left_out : List Broken} (whole : FrameText) (mid : List ℕ) (before : List Broken)
      (broken : Broken)
      → Keeps fed form limit bytes mid text before
      → IsWhole form limit whole → mid ≡ whole.text ++ rest
      → IsBroken whole broken → broken.place.start ≡ fed - length mid
      → left_out ≡ before ++ broken ∷ []
      → Keeps fed form limit bytes rest text left_out

-- what is kept of the front of what is unread, up to this rest, is put, and the others are told of
pub record PutsKept (was : LogReader) (rest old new : List ℕ) (told tells : List Broken)
    : Type 0 where
  pub text : List ℕ
  pub left_out : List Broken
  pub put : new ≡ old ++ text
  pub tell : tells ≡ told ++ left_out
  pub keeps : Keeps was.fed was.decoder.framing was.decoder.limit (unread was.decoder) rest text
      left_out

-- so is such a front, behind which no frame stands, or memory ran out for one that does
pub record StopsKeeping (was : LogReader) (old new : List ℕ) (told tells : List Broken) (e : Stop)
    : Type 0 where
  pub rest : List ℕ
  pub front : PutsKept was rest old new told tells
  pub stop : StopsHere was.decoder.framing was.decoder.limit rest e
  pub no_records : (broken : Broken) → e ≢ stops.Records broken
