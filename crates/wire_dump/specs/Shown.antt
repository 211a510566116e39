-- What is put with a schema behind what was put.
use Rattle.std.specs.Prelude.{◌≡◌, ◌≢◌, ℕ, ◌+◌, ◌-◌, Bool, true, false, ◌||◌, List, [], ◌∷◌, ◌++◌, length, Option, Some}
use Rattle.wire_base.specs.Charge.{charge}
use Rattle.wire_base.specs.declared.tag.WireType.TheVariants.{StartGroup}
use Rattle.wire_base.specs.Field.{Fields, Payload, varint, fixed64, fixed32, bytes, group, none, type_of}
use Rattle.wire_base.specs.Items.{Item, start, end, whole}
use Rattle.wire_base.specs.Limits.{Limits, Fits}
use Rattle.wire_base.specs.Spells.{Spells}
use Rattle.wire_read.specs.declared.event.Fault.{Fault}
use Rattle.wire_read.specs.declared.event.Value.{Value}
use Rattle.wire_read.specs.declared.event.Value.TheVariants as values
use Rattle.wire_dynamic.specs.declared.field.Field.{Field}
use Rattle.wire_dynamic.specs.declared.schema.Schema.{Schema}
use Rattle.wire_dump.specs.declared.output.Output.{Output}
use Rattle.wire_dump.specs.declared.output.Typed.{Typed}
use Rattle.wire_dump.specs.Dumps.{SpellsRecord}
use Rattle.wire_dump.specs.Lines.{end_line}
use Rattle.wire_dump.specs.Places.{range_text}
use Rattle.wire_dump.specs.Refused.{BreaksAt}
use Rattle.wire_dump.specs.Shows.{FitsField, Shows, ShowsOpen, ShowsRecord, Span, group_opening, guesses, line_span}

-- each line of bytes from the first place to before the second, behind these places
abbrev pub each_printed : Bool → ℕ → ℕ → List (List ℕ) → List ℕ
each_printed offsets place behind [] = []
each_printed offsets place behind (text ∷ texts) =
    range_text offsets place behind ++ (text ++ each_printed offsets place behind texts)

-- the text of lines of the bytes from this place
abbrev pub shown : Bool → ℕ → List Span → List ℕ
shown offsets place [] = []
shown offsets place (s ∷ spans) =
    each_printed offsets place (place + s.width) s.texts ++ shown offsets (place + s.width) spans

-- how many bytes all of the lines are of
abbrev pub width_of : List Span → ℕ
width_of [] = 0
width_of (s ∷ spans) = s.width + width_of spans

-- whether a line says that a record does not fit its field
abbrev pub has_note : List Span → Bool
has_note [] = false
has_note (s ∷ spans) = s.has_note || has_note spans

-- Lines of these bytes are put, and it is kept whether one of them has a note, which none has where
-- that is not allowed.
pub record PutsText (t : Typed) (place : ℕ) (AreSpans : List Span → Type 0) (text : List ℕ)
    (old : List ℕ) (before : Bool) (new : List ℕ) (behind : Bool) : Type 0 where
  pub spans : List Span
  pub are : AreSpans spans
  pub covers : width_of spans ≡ length text
  pub written : new ≡ old ++ shown t.has_offsets place spans
  pub kept : behind ≡ (before || has_note spans)
  pub strict : t.is_strict ≡ true → has_note spans ≡ false

abbrev pub PutsSpans : Typed → ℕ → (List Span → Type 0) → List ℕ → List ℕ → Bool → Output → Type 0
PutsSpans t place AreSpans text old before new =
    PutsText t place AreSpans text old before new.text.items new.has_note

-- the lines of all of these bytes, which spell records of a message within the limits
pub record AreRecords (s : Schema) (depth level root : ℕ) (l : Limits) (all : List ℕ)
    (spans : List Span) : Type 0 where
  pub fields : Fields
  pub spelled : Spells fields all
  pub fits : Fits (charge fields) l
  pub shown : Shows s depth guesses level (Some root) fields all spans

-- the payload of an event that is a record
abbrev pub event_payload : Value → Payload
event_payload (values.Varint v) = varint v
event_payload (values.Fixed64 v) = fixed64 v
event_payload (values.Fixed32 v) = fixed32 v
event_payload (values.Bytes b) = bytes b.now
event_payload _ = group none

-- the text is a record that is no group
pub record IsRecord (n : ℕ) (p : Payload) (text : List ℕ) : Type 0 where
  pub flat : type_of p ≢ StartGroup
  pub spelled : SpellsRecord n p text

-- the record does not fit its field, and what was put stands behind what there was
pub record IsUnfit (depth : ℕ) (f : Field) (p : Payload) (old : List ℕ) (new : Output) : Type 0 where
  pub never : FitsField depth f p → ⊥
  pub more : List ℕ
  pub written : new.text.items ≡ old ++ more

-- the lines of an item of a message, behind which so many groups are open, for its field
abbrev pub ItemSpans : Schema → ℕ → ℕ → ℕ → ℕ → Option Field → Item → List ℕ → List Span → Type 0
ItemSpans s depth budget level count found (start n) text spans =
    spans ≡ group_opening s (level + (count - 1)) n found text
ItemSpans s depth budget level count found (end n) text spans =
    spans ≡ line_span text (end_line (level + count))
ItemSpans s depth budget level count found (whole n p) text spans =
    ShowsRecord s (depth - count) budget (level + count) found n p text spans

-- the lines of what stands before the fault of the bytes
pub record AreFront (s : Schema) (depth level root : ℕ) (l : Limits) (all : List ℕ)
    (fault : Fault) (groups : List ℕ) (front : List ℕ) (spans : List Span) : Type 0 where
  pub refused : BreaksAt l all fault groups
  pub parts : all ≡ front ++ refused.is.rest
  pub shown : ShowsOpen s depth level root refused.is.levels refused.is.fields front spans

-- the bytes have this fault, and the lines of what stands before it are put
pub record IsFrontText (t : Typed) (depth level root place : ℕ) (l : Limits) (all : List ℕ)
    (fault : Fault) (old : List ℕ) (before : Bool) (new : List ℕ) (behind : Bool) : Type 0 where
  pub groups : List ℕ
  pub front : List ℕ
  pub puts : PutsText t place (AreFront t.schema.now depth level root l all fault groups front)
      front old before new behind

abbrev pub IsShownFront : Typed → ℕ → ℕ → ℕ → ℕ → Limits → List ℕ → Fault → List ℕ → Bool → Output
    → Type 0
IsShownFront t depth level root place l all fault old before new =
    IsFrontText t depth level root place l all fault old before new.text.items new.has_note
