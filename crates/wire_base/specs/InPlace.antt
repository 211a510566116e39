-- Bytes in which a varint is read at once.
use Rattle.std.specs.Prelude.{ℕ, ◌-◌, ◌<◌, ◌⊎◌, List, length, get_or}

-- there are more than ten, or the last of them ends a varint
abbrev pub HoldsVarint : List ℕ → Type 0
HoldsVarint bytes =
    (10 < length bytes) ⊎ ((0 < length bytes) × (get_or bytes (length bytes - 1) 0 < 128))
