-- The longest front of a log that is frames of records.
use Rattle.std.specs.Prelude.{◌≡◌, ◌≢◌, ℕ, ◌≤◌, List, [], ◌∷◌, ◌++◌, length}
use Rattle.wire_frames.specs.declared.frame.Frame.{Frame}
use Rattle.wire_frames.specs.declared.frame.Framing.{Framing}
use Rattle.wire_frames.specs.Frames.{Frames}
use Rattle.wire_frames.specs.Stream.{Stream, unread}
use Rattle.wire_log.specs.declared.entry.Stop.{Stop}
use Rattle.wire_log.specs.declared.entry.Stop.TheVariants as stops
use Rattle.wire_log.specs.Entries.{HoldsRecords, StopsHere}

-- each payload is records within the limits
abbrev pub HaveRecords : List Frame → Type 0
HaveRecords [] = Unit {0}
HaveRecords (frame ∷ frames) = HoldsRecords frame.payload × HaveRecords frames

-- frames of records stand at the front, one after another, up to this rest
pub record ReadsEntries (form : Framing) (limit : ℕ) (bytes rest : List ℕ) : Type 0 where
  pub frames : List Frame
  pub read : Frames form limit frames bytes rest
  pub records : HaveRecords frames

-- no frames of records at the front reach further than to this rest
abbrev pub IsLongest : Framing → ℕ → List ℕ → List ℕ → Type 0
IsLongest form limit bytes rest =
    (other : List ℕ) → ReadsEntries form limit bytes other → length rest ≤ length other

-- frames of records stand at the front of what is unread, up to this rest, and are put as they are
pub record PutsFront (was : Stream) (rest old new : List ℕ) : Type 0 where
  pub text : List ℕ
  pub parts : unread was ≡ text ++ rest
  pub put : new ≡ old ++ text
  pub entries : ReadsEntries was.framing was.limit (unread was) rest

-- such a front is put, and why no more; but for want of memory it is the longest
pub record StopsBehind (was : Stream) (old new : List ℕ) (e : Stop) : Type 0 where
  pub rest : List ℕ
  pub front : PutsFront was rest old new
  pub stop : StopsHere was.framing was.limit rest e
  pub longest : e ≢ stops.OutOfMemory → IsLongest was.framing was.limit (unread was) rest
