-- What a table has of a list of declarations.
use Rattle.std.specs.Prelude.{Bool, List, Option, None, Some, find}

-- one tells of the other, where there is one, and there is no other where there is none
abbrev pub Matches : {D F : Type 0} → (D → F → Type 0) → Option D → Option F → Type 0
Matches Tells None None = Unit {0}
Matches Tells None (Some f) = ⊥
Matches Tells (Some d) None = ⊥
Matches Tells (Some d) (Some f) = Tells d f

-- At each key the table has what the first of the list says that passes the key's test, and nothing
-- where none passes it.
abbrev pub IsTableOf : {K D F : Type 0} → (K → D → Bool) → (D → F → Type 0) → List D
    → (K → Option F) → Type 0
IsTableOf {K} test Tells ds table = (k : K) → Matches Tells (find (test k) ds) (table k)
