-- What is put behind what was put.
use Rattle.std.specs.Prelude.{◌≡◌, ℕ, ◌+◌, ◌-◌, List, ◌++◌, length}
use Rattle.wire_base.specs.Charge.{charge}
use Rattle.wire_base.specs.Field.{Payload, Fields}
use Rattle.wire_base.specs.Items.{Item, start, end, whole}
use Rattle.wire_base.specs.Limits.{Limits, Fits}
use Rattle.wire_base.specs.Spells.{Spells}
use Rattle.wire_read.specs.declared.event.Fault.{Fault}
use Rattle.wire_dump.specs.declared.layout.Layout.{Layout}
use Rattle.wire_dump.specs.Dumps.{Dumps, DumpsOpen, DumpsRecord}
use Rattle.wire_dump.specs.Lines.{opening, end_line}
use Rattle.wire_dump.specs.Places.{Line, line_of, printed, all_width}
use Rattle.wire_dump.specs.Refused.{BreaksAt}

-- All of the bytes, which begin at this place of the input, spell records within the limits, and
-- their lines are put. Each byte is of one line.
pub record IsDumped (layout : Layout) (place : ℕ) (l : Limits) (all old new : List ℕ) : Type 0 where
  pub fields : Fields
  pub lines : List Line
  pub spelled : Spells fields all
  pub fits : Fits (charge fields) l
  pub dumped : Dumps layout.budget layout.level fields all lines
  pub covers : all_width lines ≡ length all
  pub written : new ≡ old ++ printed layout.has_offsets place lines

-- The bytes have this fault, and the lines of what stands before it are put.
pub record IsDumpedFront (layout : Layout) (place : ℕ) (l : Limits) (all : List ℕ) (fault : Fault)
    (groups : List ℕ) (old new : List ℕ) : Type 0 where
  pub refused : BreaksAt l all fault groups
  pub front : List ℕ
  pub lines : List Line
  pub parts : all ≡ front ++ refused.is.rest
  pub dumped : DumpsOpen layout.budget layout.level refused.is.levels refused.is.fields front lines
  pub covers : all_width lines ≡ length front
  pub written : new ≡ old ++ printed layout.has_offsets place lines

-- lines of these bytes are put, each of which is of one of the lines
pub record Prints (layout : Layout) (place : ℕ) (IsLines : List Line → Type 0)
    (text old new : List ℕ) : Type 0 where
  pub lines : List Line
  pub are : IsLines lines
  pub covers : all_width lines ≡ length text
  pub written : new ≡ old ++ printed layout.has_offsets place lines

-- a layout so many levels further in
abbrev pub further_in : ℕ → Layout → Layout
further_in count layout =
    record layout { level = layout.level + count; budget = layout.budget - count }

-- the lines of a record
abbrev pub RecordLines : Layout → ℕ → Payload → List ℕ → List Line → Type 0
RecordLines layout n p text lines = DumpsRecord layout.budget layout.level n p text lines

-- the lines of an item, behind which so many groups are open
abbrev pub ItemLines : Layout → ℕ → Item → List ℕ → List Line → Type 0
ItemLines layout count (start n) text lines =
    lines ≡ line_of text (opening (layout.level + (count - 1)) n)
ItemLines layout count (end n) text lines = lines ≡ line_of text (end_line (layout.level + count))
ItemLines layout count (whole n p) text lines = RecordLines (further_in count layout) n p text lines
