-- The fields that a `Person` does not know, as spans of its text.
use Rattle.std.specs.Prelude.{◌≡◌, ℕ, ◌≤◌, Bool, nat_le, ◌&&◌, if◌then◌else◌, List, [], ◌∷◌, ◌++◌}
use Rattle.wire_codec.specs.Charge.{charge}
use Rattle.wire_codec.specs.Field.{Fields, none, field}
use Rattle.wire_codec.specs.Limits.{Limits, HaveRoom}
use Rattle.wire_codec.specs.Spells.{Spells}

-- the numbers that the type knows
abbrev pub is_known_number : ℕ → Bool
is_known_number n = nat_le 1 n && nat_le n 3

-- the records that the type does not know, in order; those inside groups stay as they are
abbrev pub others_of : Fields → Fields
others_of none = none
others_of (field n p rest) =
    if is_known_number n then others_of rest else field n p (others_of rest)

-- the text is these records, one behind another, and the spans are the texts of those that the type
-- does not know, in order
abbrev pub OthersAre : Fields → List (List ℕ) → List ℕ → Type 0
OthersAre none spans text = (spans ≡ []) × (text ≡ [])
OthersAre (field n p rest) spans text =
    (own : List ℕ) × (behind : List ℕ) × (others : List (List ℕ))
    × Spells (field n p none) own × (text ≡ own ++ behind) × OthersAre rest others behind
    × (spans ≡ (if is_known_number n then others else own ∷ others))

-- the bytes spell these records, of which none nests too deep, and there is room for those that the
-- type does not know
pub record HasOthers (l : Limits) (bytes : List ℕ) (fs : Fields) : Type 0 where
  pub spelled : Spells fs bytes
  pub depth : (charge fs).depth ≤ l.depth
  pub slots : HaveRoom l.counts (charge (others_of fs)).counts
