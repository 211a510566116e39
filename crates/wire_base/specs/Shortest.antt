-- What is written is the shortest text.
use Rattle.std.specs.Prelude.{◌≡◌, ℕ, ◌+◌, ◌<◌, ◌≤◌, List, ◌++◌, length, All}
use Rattle.wire_base.specs.Field.{Fields}
use Rattle.wire_base.specs.Spells.{Spells}

-- What new has behind old is no longer than any text of the records, and a text of bytes that is as
-- long is the same text. Of a number that is no byte a spelling tells only what it is modulo 128.
pub record WritesShortest (fs : Fields) (old new : List ℕ) : Type 0 where
  pub no_longer : (text : List ℕ) → Spells fs text → length new ≤ length old + length text
  pub no_other : (text : List ℕ) → All (λ b. b < 256) text → Spells fs text
      → length new ≡ length old + length text → new ≡ old ++ text
