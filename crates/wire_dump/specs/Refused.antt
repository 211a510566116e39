-- Bytes that are refused, and where.
use Rattle.std.specs.Prelude.{◌≡◌, ℕ, List}
use Rattle.wire_base.specs.Limits.{Limits}
use Rattle.wire_read.specs.declared.event.Fault.{Fault}
use Rattle.wire_read.specs.Faults.{IsFault}
use Rattle.wire_read.specs.Opened.{numbers}

-- the fault of the bytes, and the groups that it stands in, the innermost first
pub record BreaksAt (l : Limits) (all : List ℕ) (fault : Fault) (groups : List ℕ) : Type 0 where
  pub is : IsFault l all fault
  pub groups_are : groups ≡ numbers is.levels
