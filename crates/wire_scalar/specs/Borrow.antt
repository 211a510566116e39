-- A group's body as a part of a slice.
use Rattle.std.specs.Prelude.{◌≡◌, ℕ, List, [], ◌++◌}
use Rattle.wire_base.specs.Charge.{charge}
use Rattle.wire_base.specs.Ending.{by_tag, Ends}
use Rattle.wire_base.specs.Field.{Fields}
use Rattle.wire_base.specs.Limits.{Limits}
use Rattle.wire_base.specs.Taken.{TakesFields}

-- old is the body, the end tag of n, and new; all of the body is records within the limits
pub record BorrowsBody (l : Limits) (n : ℕ) (body old new : List ℕ) : Type 0 where
  pub fields : Fields
  pub end : List ℕ
  pub parts : old ≡ body ++ end
  pub taken : TakesFields (charge fields) l fields body []
  pub ended : Ends (by_tag n) end new
