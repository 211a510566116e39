-- What holds of the definitions themselves. Each statement is proved as the contract of a law of
-- src/laws.rt.
use Rattle.std.specs.Prelude.{◌≡◌, ℕ, ◌^◌, ◌<◌, ◌≤◌, List, [], ◌++◌, length, All}
use Rattle.wire_base.specs.Field.{Fields}
use Rattle.wire_base.specs.InRange.{AreFitting}
use Rattle.wire_base.specs.Spells.{Spells}
use Rattle.wire_codec.specs.Records.{Records, plain, text, text_size, joined_records, of_fields}
use Rattle.wire_codec.specs.Sizes.{sizes, cut_sizes}
use Rattle.wire_codec.specs.Tape.{Tape, NextAre, blank, recorded, advanced}
pub use Rattle.wire_base.specs.WriteLaws.{PieceByPiece}

abbrev pub NoSizeIsAboveTheWhole : Type 0
NoSizeIsAboveTheWhole = (rs : Records) → All (λ n. n ≤ text_size rs) (sizes rs)

abbrev pub SmallSizesAreUncut : Type 0
SmallSizesAreUncut = (rs : Records) → text_size rs < 2 ^ 32 → cut_sizes rs ≡ sizes rs

-- a blank tape that a small message was measured with has the sizes that it is written with
abbrev pub MeasuredAreNext : Type 0
MeasuredAreNext = (rs : Records) (t : Tape) → t ≡ recorded blank (cut_sizes rs)
    → text_size rs ≤ 2147483647 → NextAre (sizes rs) t

-- records one behind another
pub record JoinedTextsAndSizes : Type 0 where
  pub text : (rs qs : Records) → text (joined_records rs qs) ≡ text rs ++ text qs
  pub sizes : (rs qs : Records) → sizes (joined_records rs qs) ≡ sizes rs ++ sizes qs

-- records of the grammar stand for themselves
pub record FieldsArePlain : Type 0 where
  pub plain : (fs : Fields) → plain (of_fields fs) ≡ fs
  pub sizes : (fs : Fields) → sizes (of_fields fs) ≡ []

-- what bytes spell has numbers and lengths in range
abbrev pub SpelledAreFitting : Type 0
SpelledAreFitting =
    (fs : Fields) (text : List ℕ) → All (λ b. b < 256) text → Spells fs text → AreFitting fs

-- a message with no embedded message leaves the tape as it is
pub record FlatKeepsTheTape : Type 0 where
  pub measured : (rs : Records) (t : Tape) → sizes rs ≡ [] → t ≡ recorded t (cut_sizes rs)
  pub written : (rs : Records) (t : Tape) → sizes rs ≡ [] → t ≡ advanced t (length (sizes rs))
