-- Numbers of a fixed width.
use Rattle.std.specs.Prelude.{◌≡◌, ℕ, List, length}
use Rattle.std.specs.Int.{Width, byte_len, from_le_bytes}

-- the text is x in so many bytes, the lowest first
abbrev pub IsFixed : Width → ℕ → List ℕ → Type 0
IsFixed width x text = (length text ≡ byte_len width) × (from_le_bytes width text ≡ x)
