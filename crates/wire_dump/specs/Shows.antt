-- What a dump prints of the records of a message whose type a schema has.
use Rattle.std.specs.Prelude.{◌≡◌, ◌≢◌, ℕ, suc, ◌+◌, ◌-◌, ◌<◌, Bool, true, false, List, [], ◌∷◌, ◌++◌, length, map, take, Option, None, Some, option_and_then, codes}
use Rattle.std.specs.List.{AllZip}
use Rattle.std.specs.Str.{IsUtf8}
use Rattle.wire_base.specs.declared.tag.WireType.TheVariants.{StartGroup, EndGroup}
use Rattle.wire_base.specs.Charge.{charge}
use Rattle.wire_base.specs.Field.{Payload, bytes, group, Fields, none, field, type_of}
use Rattle.wire_base.specs.Limits.{Fits, uncounted}
use Rattle.wire_base.specs.Spells.{Spells}
use Rattle.wire_base.specs.Tag.{IsTagSpelling}
use Rattle.wire_read.specs.Opened.{Group, numbers}
use Rattle.wire_scalar.specs.Packed.{SpellsEach}
use Rattle.wire_dynamic.specs.declared.field.Field.{Field}
use Rattle.wire_dynamic.specs.declared.field.Kind.{Kind}
use Rattle.wire_dynamic.specs.declared.field.Kind.TheVariants as kinds
use Rattle.wire_dynamic.specs.declared.schema.Schema.{Schema}
use Rattle.wire_dynamic.specs.Walks.{field_in, type_of_group, innermost, unknown_groups}
use Rattle.wire_dump.specs.Dumps.{DumpsRecord, SpellsRecord}
use Rattle.wire_dump.specs.Lines.{end_line, escaped, indented, number_line, opening}
use Rattle.wire_dump.specs.Names.{field_name, shown_name}
use Rattle.wire_dump.specs.Numbers.{IsNumber, ShowsNumber, is_known, number_in, number_type}
use Rattle.wire_dump.specs.Places.{Line}

-- ---- lines

-- Lines of the same bytes: of how many, the texts, and whether one of them says that a record does
-- not fit its field.
pub record Span : Type 0 where
  pub width : ℕ
  pub texts : List (List ℕ)
  pub has_note : Bool

abbrev pub span_of : Line → Span
span_of l = record { width = l.width; texts = l.text ∷ []; has_note = false }

-- one line of these bytes
abbrev pub line_span : List ℕ → List ℕ → List Span
line_span of_bytes text =
    record { width = length of_bytes; texts = text ∷ []; has_note = false } ∷ []

-- a note stands before the end of a line
abbrev pub with_note : List ℕ → List ℕ → List ℕ
with_note note text = take (length text - 1) text ++ note

-- lines of which the last has a note
abbrev pub noted : List ℕ → List Line → List Span
noted note [] = []
noted note (l ∷ []) =
    record { width = l.width; texts = with_note note l.text ∷ []; has_note = true } ∷ []
noted note (l ∷ (m ∷ lines)) = span_of l ∷ noted note (m ∷ lines)

-- the note that a record does not fit this field, for a cause
abbrev pub note_of : Field → List ℕ → List ℕ
note_of f cause = codes "  # " ++ (shown_name f ++ (codes ": " ++ (cause ++ codes "\n")))

abbrev pub type_cause : List ℕ
type_cause = codes "no value of its type"

-- the line of a value of a field
abbrev pub value_line : Schema → ℕ → Field → List ℕ → List ℕ
value_line s level f text =
    indented level ++ (field_name s f ++ (codes ": " ++ (text ++ codes "\n")))

abbrev pub string_value : List ℕ → List ℕ
string_value b = codes "\"" ++ (escaped b ++ codes "\"")

-- the line before what stands in a message or a group of a field
abbrev pub field_opening : Schema → ℕ → Field → List ℕ
field_opening s level f = indented level ++ (field_name s f ++ codes " {\n")

-- the line of a number of a field: one that a closed enum lacks stands under the field's number
pub record IsNumberLine (s : Schema) (level n : ℕ) (f : Field) (x : ℕ) (line : List ℕ)
    : Type 0 where
  pub known : is_known s f.kind x ≡ true
      → (text : List ℕ) × ShowsNumber s f.kind x text × (line ≡ value_line s level f text)
  pub unknown : is_known s f.kind x ≡ false → line ≡ number_line level n x

-- the line before what stands in a group with this number, for its field, if it has one
abbrev pub group_line : Schema → ℕ → ℕ → Kind → Field → List ℕ → List Span
group_line s level n (kinds.Group place) f start = line_span start (field_opening s level f)
group_line s level n _ f start =
    record {
      width = length start;
      texts = with_note (note_of f type_cause) (opening level n) ∷ [];
      has_note = true;
    } ∷ []

abbrev pub group_opening : Schema → ℕ → ℕ → Option Field → List ℕ → List Span
group_opening s level n None start = line_span start (opening level n)
group_opening s level n (Some f) start = group_line s level n f.kind f start

-- the place of the type of a group, for its field
abbrev pub type_in : Option Field → Option ℕ
type_in found = option_and_then (λ (f : Field). type_of_group f.kind) found

-- ---- records that fit their fields

-- these bytes are a message with so many levels in it
pub record IsMessageWithin (depth : ℕ) (payload : List ℕ) : Type 0 where
  pub allowed : 0 < depth
  pub fields : Fields
  pub spelled : Spells fields payload
  pub within : Fits (charge fields) (uncounted (depth - 1))

abbrev pub IsQuoted : Kind → Type 0
IsQuoted kinds.Text = Unit {0}
IsQuoted kinds.Blob = Unit {0}
IsQuoted _ = ⊥

-- a kind of which bytes are at most a packed list
abbrev pub IsNoString : Kind → Type 0
IsNoString kinds.Text = ⊥
IsNoString kinds.Blob = ⊥
IsNoString (kinds.Message place) = ⊥
IsNoString _ = Unit {0}

-- these bytes are a packed list of numbers of a kind
abbrev pub IsPackedOf : Kind → List ℕ → List ℕ → Type 0
IsPackedOf kind xs payload =
    (w : _) × (number_type kind ≡ Some w) × SpellsEach (IsNumber w) xs payload

-- bytes fit a field of this kind
abbrev pub BytesFit : ℕ → Field → Kind → List ℕ → Type 0
BytesFit depth f (kinds.Message place) b = IsMessageWithin depth b
BytesFit depth f kinds.Text b = f.is_checked ≡ true → IsUtf8 b
BytesFit depth f kinds.Blob b = Unit {0}
BytesFit depth f kind b = (f.is_repeated ≡ true) × ((xs : List ℕ) × IsPackedOf kind xs b)

-- a record that is no group fits its field: it is a value of it, or a packed list of numbers
abbrev pub FitsField : ℕ → Field → Payload → Type 0
FitsField depth f (bytes b) = BytesFit depth f f.kind b
FitsField depth f p = number_type f.kind ≡ Some (type_of p)

-- ---- payloads that have no field

-- how deep payloads are read as messages in a message whose type the schema tells
abbrev pub guesses : ℕ
guesses = 10

-- how deep in a group, whose type is that at this place, if the schema tells it: else one less than
-- around it
abbrev pub guesses_in : Option ℕ → ℕ → ℕ
guesses_in None budget = budget - 1
guesses_in (Some place) budget = guesses

-- how deep where groups of these numbers are open, the innermost first
abbrev pub budget_at : Schema → ℕ → List ℕ → ℕ
budget_at s root groups = guesses - unknown_groups s root groups

-- ---- records

mutual
  -- The lines of a record with number n in a message, which these bytes spell, for its field, if it
  -- has one. So many levels may stand in the message, and a budget says how deep payloads that have
  -- no field are read as messages.
  pub data ShowsRecord : Schema → ℕ → ℕ → ℕ → Option Field → ℕ → Payload → List ℕ → List Span
      → Type 0 where
    guessed : {s : Schema} {depth budget level n : ℕ} {p : Payload} {text : List ℕ} {spans : List Span}
        (lines : List Line)
        → type_of p ≢ StartGroup → DumpsRecord budget level n p text lines
        → spans ≡ map span_of lines
        → ShowsRecord s depth budget level None n p text spans
    unfit : {s : Schema} {depth budget level n : ℕ} {f : Field} {p : Payload} {text : List ℕ}
        {spans : List Span} (lines : List Line) (cause : List ℕ)
        → type_of p ≢ StartGroup → (FitsField depth f p → ⊥)
        → DumpsRecord budget level n p text lines → spans ≡ noted (note_of f cause) lines
        → ShowsRecord s depth budget level (Some f) n p text spans
    number : {s : Schema} {depth budget level n x : ℕ} {f : Field} {p : Payload} {text : List ℕ}
        {spans : List Span} (line : List ℕ)
        → SpellsRecord n p text → FitsField depth f p → number_in p ≡ Some x
        → IsNumberLine s level n f x line → spans ≡ line_span text line
        → ShowsRecord s depth budget level (Some f) n p text spans
    packed : {s : Schema} {depth budget level n : ℕ} {f : Field} {payload text : List ℕ}
        {spans : List Span} (xs : List ℕ) (texts : List (List ℕ))
        → SpellsRecord n (bytes payload) text → f.is_repeated ≡ true
        → IsPackedOf f.kind xs payload → AllZip (IsNumberLine s level n f) xs texts
        → spans ≡ record { width = length text; texts = texts; has_note = false } ∷ []
        → ShowsRecord s depth budget level (Some f) n (bytes payload) text spans
    string : {s : Schema} {depth budget level n : ℕ} {f : Field} {payload text : List ℕ}
        {spans : List Span}
        → SpellsRecord n (bytes payload) text → IsQuoted f.kind
        → BytesFit depth f f.kind payload
        → spans ≡ line_span text (value_line s level f (string_value payload))
        → ShowsRecord s depth budget level (Some f) n (bytes payload) text spans
    message : {s : Schema} {depth budget level n place : ℕ} {f : Field} {payload text : List ℕ}
        {spans : List Span} (fs : Fields) (head : List ℕ) (inside : List Span)
        → SpellsRecord n (bytes payload) text → text ≡ head ++ payload
        → f.kind ≡ kinds.Message place → IsMessageWithin depth payload
        → Shows s (depth - 1) guesses (level + 1) (Some place) fs payload inside
        → spans ≡ line_span head (field_opening s level f)
        ++ (inside ++ line_span [] (end_line level))
        → ShowsRecord s depth budget level (Some f) n (bytes payload) text spans
    block : {s : Schema} {depth budget level n : ℕ} {found : Option Field} {fs : Fields}
        {text : List ℕ} {spans : List Span} (start body end : List ℕ) (inside : List Span)
        → IsTagSpelling n StartGroup start
        → Shows s (depth - 1) (guesses_in (type_in found) budget) (level + 1) (type_in found) fs
        body inside
        → IsTagSpelling n EndGroup end → text ≡ start ++ (body ++ end)
        → spans ≡ group_opening s level n found start ++ (inside ++ line_span end (end_line level))
        → ShowsRecord s depth budget level found n (group fs) text spans

  -- the lines of records, which these bytes spell, in a message of the type at this place, if the
  -- schema tells it
  pub data Shows : Schema → ℕ → ℕ → ℕ → Option ℕ → Fields → List ℕ → List Span → Type 0 where
    nothing : {s : Schema} {depth budget level : ℕ} {place : Option ℕ} {text : List ℕ}
        {spans : List Span}
        → text ≡ [] → spans ≡ [] → Shows s depth budget level place none text spans
    more : {s : Schema} {depth budget level n : ℕ} {place : Option ℕ} {p : Payload} {others : Fields}
        {text : List ℕ} {spans : List Span} (first rest : List ℕ) (above below : List Span)
        → ShowsRecord s depth budget level (field_in s n place) n p first above
        → Shows s depth budget level place others rest below
        → text ≡ first ++ rest → spans ≡ above ++ below
        → Shows s depth budget level place (field n p others) text spans

-- the lines of records where groups are open, the innermost first
abbrev pub ShowsOpen : Schema → ℕ → ℕ → ℕ → List Group → Fields → List ℕ → List Span → Type 0
ShowsOpen s depth level root [] fs text spans =
    Shows s depth guesses level (Some root) fs text spans
ShowsOpen s depth level root (g ∷ outside) fs text spans =
    (before start body : List ℕ) × (above inside : List Span)
    × ShowsOpen s depth level root outside g.before before above
    × IsTagSpelling g.number StartGroup start
    × Shows s (depth - suc (length outside)) (budget_at s root (numbers (g ∷ outside)))
    (level + suc (length outside)) (innermost s root (numbers (g ∷ outside))) fs body inside
    × (text ≡ before ++ (start ++ body))
    × (spans ≡ above ++ (group_opening s (level + length outside) g.number
    (field_in s g.number (innermost s root (numbers outside))) start ++ inside))
