-- The payload of an embedded message, from its length to its end.
use Rattle.std.specs.Prelude.{◌≡◌, ℕ, ◌<◌, ◌≤◌, List, ◌++◌, length}
use Rattle.wire_codec.specs.Delimited.{IsDelimited}
use Rattle.wire_codec.specs.Ending.{by_limit}
use Rattle.wire_codec.specs.Folds.{Step}
use Rattle.wire_codec.specs.Limits.{Limits, Charge, inner}
use Rattle.wire_codec.specs.Read.{Reads}
use Rattle.wire_codec.specs.Taking.{TakesList}

-- There is a level, and it was taken. A length was read, of at most 2147483647: so long a payload
-- stands at `now`, and `rest` bytes stand behind it.
pub record Enters (l k : Limits) (old now : List ℕ) (rest : ℕ) : Type 0 where
  pub level : 0 < l.depth
  pub inside : k ≡ inner l
  pub payload : List ℕ
  pub behind : List ℕ
  pub read : Reads old (IsDelimited payload) behind
  pub short : length payload ≤ 2147483647
  pub parts : now ≡ payload ++ behind
  pub rest_is : rest ≡ length behind

-- a list of records up to a limit, the last of which does not run past it
pub record TakesWithin {V : Type 0} (takes : Step V) (l : Limits) (rest : ℕ) (m : V)
    (now : List ℕ) (c : Charge) (z : V) (new : List ℕ) : Type 0 where
  pub list : TakesList takes l (by_limit rest) m now c z new
  pub within : rest ≤ length new
