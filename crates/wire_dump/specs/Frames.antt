-- What a dump prints of the frames of a log.
use Rattle.std.specs.Prelude.{◌≡◌, ℕ, ◌+◌, Bool, List, ◌++◌, length, codes, decimal}
use Rattle.wire_base.specs.Limits.{Limits}
use Rattle.wire_dump.specs.declared.layout.Layout.{Layout}
use Rattle.wire_dump.specs.Dumped.{IsDumped}
use Rattle.wire_dump.specs.Lines.{end_line}
use Rattle.wire_dump.specs.Places.{range_text}

-- the line before the records of the frame with this number
abbrev pub frame_opening : ℕ → List ℕ
frame_opening index = codes "frame " ++ (decimal index ++ codes " {\n")

-- the line of the frame's prefix, behind what was put
abbrev pub frame_opened : Bool → ℕ → ℕ → ℕ → List ℕ → List ℕ
frame_opened offsets index place payload_place old =
    old ++ (range_text offsets place payload_place ++ frame_opening index)

-- All of the payload spells records within the limits, and their lines are put between that of the
-- prefix and one of no bytes.
pub record IsDumpedFrame (layout : Layout) (index place payload_place : ℕ) (l : Limits)
    (payload old new : List ℕ) : Type 0 where
  pub inner : List ℕ
  pub records : IsDumped layout payload_place l payload
      (frame_opened layout.has_offsets index place payload_place old) inner
  pub closed : new ≡ inner ++ (range_text layout.has_offsets (payload_place + length payload)
      (payload_place + length payload) ++ end_line 0)
