-- How much is left of what is counted, as a number.
use Rattle.std.specs.Prelude.{◌≡◌, ℕ, ◌-◌, ◌^◌, Option, Some, None, min, nat_eq, if◌then◌else◌}
use Rattle.wire_base.specs.Limits.{Limits, HasRoom, less}

-- so much is left; `usize::MAX` is no limit
abbrev pub budget : ℕ → Option ℕ
budget left = if nat_eq left (2 ^ 64 - 1) then None else Some left

-- so much is taken of one number, and leaves the other
abbrev pub Spends : ℕ → ℕ → ℕ → Type 0
Spends count left new = HasRoom (budget left) count × (budget new ≡ less (budget left) count)

-- the same limit, where `usize::MAX` is none
abbrev pub budget_of : Option ℕ → Option ℕ
budget_of None = None
budget_of (Some left) = budget left

-- what a reader takes of limits: at most 100 levels, and none for elements
abbrev pub read_limits : Limits → Limits
read_limits l = record {
  depth = min l.depth 100;
  counts = record {
    unknown_fields = budget_of l.counts.unknown_fields;
    element_memory = None;
    unknown_bytes = budget_of l.counts.unknown_bytes;
  };
}
