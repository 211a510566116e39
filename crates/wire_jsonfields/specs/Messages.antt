-- What an object says of a message, and what is written of one.
use Rattle.std.specs.Prelude.{◌≡◌, ◌≢◌, ◌⊎◌, ℕ, Bool, true, false, List, [], ◌∷◌, ◌++◌}
use Rattle.wire_json.specs.Json.{Json, null, boolean, number, string, array, object, Members, no_member, member}
use Rattle.wire_json.specs.Written.{written, written_name}

-- the members of an object say this of a value
abbrev pub ObjectMeans : {V : Type 0} → (Members → V → Type 0) → Json → V → Type 0
ObjectMeans Say (object ms) value = Say ms value
ObjectMeans Say null value = ⊥
ObjectMeans Say (boolean b) value = ⊥
ObjectMeans Say (number text) value = ⊥
ObjectMeans Say (string bytes) value = ⊥
ObjectMeans Say (array es) value = ⊥

-- ---- what is written

-- members, and others behind them
abbrev pub members_joined : Members → Members → Members
members_joined no_member others = others
members_joined (member name e ms) others = member name e (members_joined ms others)

abbrev pub is_no_member : Members → Bool
is_no_member no_member = true
is_no_member (member name e ms) = false

-- the text of members behind others
abbrev pub text_behind : Members → List ℕ
text_behind no_member = []
text_behind (member name e ms) = 44 ∷ (written_name name ++ (written e ++ text_behind ms))

-- what stands before a member or an element
abbrev pub comma_unless : Bool → List ℕ
comma_unless true = []
comma_unless false = 44 ∷ []

-- the text of members, which may be the first of their object
abbrev pub text_of_members : Bool → Members → List ℕ
text_of_members false ms = text_behind ms
text_of_members true no_member = []
text_of_members true (member name e ms) = written_name name ++ (written e ++ text_behind ms)

-- the member of a field, where it is not as it is without one
abbrev pub IsFieldTree : {V : Type 0} → V → (V → Json → Type 0) → List ℕ → V → Members → Type 0
IsFieldTree absent Tree name value ms =
    ((value ≡ absent) × (ms ≡ no_member))
    ⊎ ((value ≢ absent) × ((e : Json) × Tree value e × (ms ≡ member name e no_member)))

-- the object of these members
abbrev pub IsObjectTree : {V : Type 0} → (V → Members → Type 0) → V → Json → Type 0
IsObjectTree Trees value json = (ms : Members) × Trees value ms × (json ≡ object ms)
