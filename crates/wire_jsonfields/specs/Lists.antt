-- Lists of values.
use Rattle.std.specs.Prelude.{◌≡◌, ℕ, Bool, true, false, List, [], ◌∷◌, ◌++◌}
use Rattle.wire_json.specs.Json.{Json, null, boolean, number, string, array, object, Elements, no_element, element}
use Rattle.wire_json.specs.Written.{written}

-- each element means a value
abbrev pub EachMeans : {V : Type 0} → (Json → V → Type 0) → Elements → List V → Type 0
EachMeans Means no_element [] = Unit {0}
EachMeans Means (element e es) (v ∷ vs) = Means e v × EachMeans Means es vs
EachMeans Means no_element (v ∷ vs) = ⊥
EachMeans Means (element e es) [] = ⊥

abbrev pub ListMeans : {V : Type 0} → (Json → V → Type 0) → Json → List V → Type 0
ListMeans Means (array es) vs = EachMeans Means es vs
ListMeans Means null vs = ⊥
ListMeans Means (boolean b) vs = ⊥
ListMeans Means (number text) vs = ⊥
ListMeans Means (string bytes) vs = ⊥
ListMeans Means (object ms) vs = ⊥

-- ---- what is written

-- an element for each value
abbrev pub AreTrees : {V : Type 0} → (V → Json → Type 0) → List V → Elements → Type 0
AreTrees Tree [] no_element = Unit {0}
AreTrees Tree (v ∷ vs) (element e es) = Tree v e × AreTrees Tree vs es
AreTrees Tree [] (element e es) = ⊥
AreTrees Tree (v ∷ vs) no_element = ⊥

abbrev pub IsListTree : {V : Type 0} → (V → Json → Type 0) → List V → Json → Type 0
IsListTree Tree vs json = (es : Elements) × AreTrees Tree vs es × (json ≡ array es)

-- elements, and others behind them
abbrev pub elements_joined : Elements → Elements → Elements
elements_joined no_element others = others
elements_joined (element e es) others = element e (elements_joined es others)

abbrev pub is_no_element : Elements → Bool
is_no_element no_element = true
is_no_element (element e es) = false

-- the text of elements behind others
abbrev pub elements_behind : Elements → List ℕ
elements_behind no_element = []
elements_behind (element e es) = 44 ∷ (written e ++ elements_behind es)

-- the text of elements from the first on
abbrev pub elements_text : Elements → List ℕ
elements_text no_element = []
elements_text (element e es) = written e ++ elements_behind es
