-- Records at the front of bytes that are guessed to be a message.
use Rattle.std.specs.Prelude.{◌≡◌, ◌≢◌, ℕ, ◌+◌, ◌<◌, ◌≤◌, List, ◌++◌, length, take}
use Rattle.wire_base.specs.declared.tag.WireType.TheVariants.{StartGroup}
use Rattle.wire_base.specs.Charge.{charge}
use Rattle.wire_base.specs.Field.{Payload, Fields, type_of}
use Rattle.wire_base.specs.Limits.{Fits, uncounted}
use Rattle.wire_base.specs.Spells.{Spells}
use Rattle.wire_dump.specs.declared.layout.Layout.{Layout}
use Rattle.wire_dump.specs.Dumps.{Dumps, SpellsRecord}
use Rattle.wire_dump.specs.Dumped.{Prints, RecordLines}
use Rattle.wire_dump.specs.Places.{Line, printed, all_width}

-- this text is a record that is no group, and its lines are put
pub record PutsRecord (layout : Layout) (place : ℕ) (text old new : List ℕ) : Type 0 where
  pub number : ℕ
  pub payload : Payload
  pub flat : type_of payload ≢ StartGroup
  pub spelled : SpellsRecord number payload text
  pub puts : Prints layout place (RecordLines layout number payload text) text old new

-- the lines of a record of so many bytes at the front are put; of 0 bytes, nothing
pub record PrintsRecord (layout : Layout) (place : ℕ) (bytes : List ℕ) (count : ℕ)
    (old new : List ℕ) : Type 0 where
  pub within : count ≤ length bytes
  pub none : count ≡ 0 → new ≡ old
  pub some : 0 < count → PutsRecord layout place (take count bytes) old new

-- so many bytes at the front spell records of which none is a group, and their lines are put
pub record PrintsFront (layout : Layout) (place : ℕ) (bytes : List ℕ) (count : ℕ)
    (old new : List ℕ) : Type 0 where
  pub within : count ≤ length bytes
  pub fields : Fields
  pub lines : List Line
  pub spelled : Spells fields (take count bytes)
  pub flat : (charge fields).depth ≡ 0
  pub dumped : Dumps layout.budget layout.level fields (take count bytes) lines
  pub covers : all_width lines ≡ count
  pub written : new ≡ old ++ printed layout.has_offsets place lines

-- The bytes spell no records with at most one more group inside one another than the budget, and
-- what was put stands behind what there was.
pub record IsNoGuess (layout : Layout) (bytes old new : List ℕ) : Type 0 where
  pub never : (fs : Fields) → Spells fs bytes → Fits (charge fs) (uncounted (layout.budget + 1)) → ⊥
  pub more : List ℕ
  pub written : new ≡ old ++ more
