-- The shortest text of the records that bytes spell.
use Rattle.std.specs.Prelude.{◌≡◌, ℕ, List, []}
use Rattle.wire_base.specs.Field.{Fields}
use Rattle.wire_base.specs.Limits.{Limits}
use Rattle.wire_base.specs.Shortest.{WritesShortest}
use Rattle.wire_base.specs.Text.{text_of}
use Rattle.wire_write.specs.Shortest.{SpellsIn}

-- all of the bytes spell records within the limits, and the other bytes are their shortest text
pub record IsShortened (l : Limits) (all text : List ℕ) : Type 0 where
  pub fields : Fields
  pub decodes : SpellsIn l fields all
  pub is : text ≡ text_of fields
  pub shortest : WritesShortest fields [] text
