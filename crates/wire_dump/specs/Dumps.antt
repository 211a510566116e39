-- What a dump prints of records, and of which bytes each line is. A budget says how deep payloads
-- are still read as messages: it is one less inside a group or a message.
use Rattle.std.specs.Prelude.{◌≡◌, ◌≢◌, ℕ, suc, ◌+◌, ◌-◌, ◌<◌, List, [], ◌∷◌, ◌++◌, length}
use Rattle.wire_base.specs.declared.tag.WireType.TheVariants.{StartGroup, EndGroup}
use Rattle.wire_base.specs.Charge.{charge}
use Rattle.wire_base.specs.Field.{Payload, varint, fixed64, fixed32, bytes, group, Fields, none, field}
use Rattle.wire_base.specs.Limits.{Fits, uncounted}
use Rattle.wire_base.specs.Spells.{Spells}
use Rattle.wire_base.specs.Tag.{IsTagSpelling}
use Rattle.wire_read.specs.Opened.{Group}
use Rattle.wire_dump.specs.Lines.{number_line, fixed_line, string_line, opening, end_line}
use Rattle.wire_dump.specs.Places.{Line, line_of}

-- A payload is printed as a message of these records: it is not empty, and spells them, with no
-- more groups inside one another than the budget.
pub record IsGuessedMessage (budget : ℕ) (payload : List ℕ) (fs : Fields) : Type 0 where
  pub allowed : 0 < budget
  pub nonempty : payload ≢ []
  pub spelled : Spells fs payload
  pub within : Fits (charge fs) (uncounted budget)

-- these bytes spell one record
abbrev pub SpellsRecord : ℕ → Payload → List ℕ → Type 0
SpellsRecord n p text = Spells (field n p none) text

mutual
  -- The lines of a record with number n, which these bytes spell. The line before a message is of
  -- the tag and the length, and the one behind it of no bytes; those of a group are of its tags.
  pub data DumpsRecord : ℕ → ℕ → ℕ → Payload → List ℕ → List Line → Type 0 where
    number : {budget level n v : ℕ} {text : List ℕ} {lines : List Line}
        → SpellsRecord n (varint v) text → lines ≡ line_of text (number_line level n v)
        → DumpsRecord budget level n (varint v) text lines
    eight_bytes : {budget level n v : ℕ} {text : List ℕ} {lines : List Line}
        → SpellsRecord n (fixed64 v) text → lines ≡ line_of text (fixed_line level n 16 v)
        → DumpsRecord budget level n (fixed64 v) text lines
    four_bytes : {budget level n v : ℕ} {text : List ℕ} {lines : List Line}
        → SpellsRecord n (fixed32 v) text → lines ≡ line_of text (fixed_line level n 8 v)
        → DumpsRecord budget level n (fixed32 v) text lines
    message : {budget level n : ℕ} {payload text : List ℕ} {lines : List Line} (fs : Fields)
        (head : List ℕ) (inside : List Line)
        → SpellsRecord n (bytes payload) text → text ≡ head ++ payload
        → IsGuessedMessage budget payload fs → Dumps (budget - 1) (level + 1) fs payload inside
        → lines ≡ line_of head (opening level n) ++ (inside ++ line_of [] (end_line level))
        → DumpsRecord budget level n (bytes payload) text lines
    string : {budget level n : ℕ} {payload text : List ℕ} {lines : List Line}
        → SpellsRecord n (bytes payload) text
        → ((fs : Fields) → IsGuessedMessage budget payload fs → ⊥)
        → lines ≡ line_of text (string_line level n payload)
        → DumpsRecord budget level n (bytes payload) text lines
    block : {budget level n : ℕ} {fs : Fields} {text : List ℕ} {lines : List Line}
        (start body end : List ℕ) (inside : List Line)
        → IsTagSpelling n StartGroup start → Dumps (budget - 1) (level + 1) fs body inside
        → IsTagSpelling n EndGroup end → text ≡ start ++ (body ++ end)
        → lines ≡ line_of start (opening level n) ++ (inside ++ line_of end (end_line level))
        → DumpsRecord budget level n (group fs) text lines

  -- the lines of records, which these bytes spell, at this level of indentation
  pub data Dumps : ℕ → ℕ → Fields → List ℕ → List Line → Type 0 where
    nothing : {budget level : ℕ} {text : List ℕ} {lines : List Line}
        → text ≡ [] → lines ≡ [] → Dumps budget level none text lines
    more : {budget level n : ℕ} {p : Payload} {others : Fields} {text : List ℕ}
        {lines : List Line} (first rest : List ℕ) (above below : List Line)
        → DumpsRecord budget level n p first above → Dumps budget level others rest below
        → text ≡ first ++ rest → lines ≡ above ++ below
        → Dumps budget level (field n p others) text lines

-- the lines of records where groups are open, the innermost first
abbrev pub DumpsOpen : ℕ → ℕ → List Group → Fields → List ℕ → List Line → Type 0
DumpsOpen budget level [] fs text lines = Dumps budget level fs text lines
DumpsOpen budget level (g ∷ outside) fs text lines =
    (before start body : List ℕ) × (above inside : List Line)
    × DumpsOpen budget level outside g.before before above
    × IsTagSpelling g.number StartGroup start
    × Dumps (budget - suc (length outside)) (level + suc (length outside)) fs body inside
    × (text ≡ before ++ (start ++ body))
    × (lines ≡ above ++ (line_of start (opening (level + length outside) g.number) ++ inside))
