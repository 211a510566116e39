-- Maps: an object with a member for each entry.
use Rattle.std.specs.Prelude.{◌≡◌, ℕ, List, [], ◌∷◌, map, None}
use Rattle.std.specs.BTreeMap.{insert_entry, is_at}
use Rattle.std.specs.Map.{lookup}
use Rattle.std.specs.declared.cmp.Ordering.{Ordering}
use Rattle.wire_json.specs.Json.{Json, object, Members, no_member, member}
use Rattle.wire_jsonfields.specs.Messages.{ObjectMeans}

-- the entries as contracts see them
abbrev pub entries_seen : {S T K V : Type 0} → (S → K) → (T → V) → List (S × T) → List (K × V)
entries_seen key value = map (λ e. (key e.0, value e.1))

-- the entries have no such key
abbrev pub IsNewKey : {K V : Type 0} → (K → K → Ordering) → K → List (K × V) → Type 0
IsNewKey order k m = lookup (is_at (order k)) m ≡ None

-- each member has a key that the entries before it do not have, and its entry goes to its place in
-- their order
abbrev pub MembersPut : {K V : Type 0} → (K → K → Ordering) → (List ℕ → K → Type 0)
    → (Json → V → Type 0) → Members → List (K × V) → List (K × V) → Type 0
MembersPut order Key Means no_member before after = after ≡ before
MembersPut {K} {V} order Key Means (member name e ms) before after =
    (k : K) × (v : V) × Key name k × Means e v × IsNewKey order k before
    × MembersPut order Key Means ms (insert_entry order before k v) after

abbrev pub MapMeans : {K V : Type 0} → (K → K → Ordering) → (List ℕ → K → Type 0)
    → (Json → V → Type 0) → Json → List (K × V) → Type 0
MapMeans order Key Means = ObjectMeans (λ ms m. MembersPut order Key Means ms [] m)

-- ---- what is written

-- a member for each entry, in their order
abbrev pub AreEntryTrees : {K V : Type 0} → (K → List ℕ) → (V → Json → Type 0) → List (K × V)
    → Members → Type 0
AreEntryTrees name Tree [] no_member = Unit {0}
AreEntryTrees name Tree (e ∷ es) (member text json ms) =
    (text ≡ name e.0) × Tree e.1 json × AreEntryTrees name Tree es ms
AreEntryTrees name Tree [] (member text json ms) = ⊥
AreEntryTrees name Tree (e ∷ es) no_member = ⊥

abbrev pub IsMapTree : {K V : Type 0} → (K → List ℕ) → (V → Json → Type 0) → List (K × V) → Json
    → Type 0
IsMapTree name Tree m json = (ms : Members) × AreEntryTrees name Tree m ms × (json ≡ object ms)
