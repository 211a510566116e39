-- `Value`, `Struct` and `ListValue` as kinds of value.
use Rattle.std.proofs.Common.{◌≡◌, ◌≢◌, List, [], refl, subst}
use Rattle.wire_json.specs.Json.{Json, object, no_member}
use Rattle.wire_jsonfields.specs.Back.{ComesBack}
use Rattle.wire_jsonfields.specs.OneValues.{IsOneValued}
use Rattle.wire_well_known_json.specs.Nullable.{TreesMean}
use Rattle.wire_well_known_json.specs.OnePlain.{one_plain, same_fields, same_values}
use Rattle.wire_well_known_json.specs.Structs.{Plain, null_value, struct_value, list_value, values_of, struct_fields, Plain-Fields, MeansValue, IsValueTree}

-- a tree says of a struct and of a list what it says of the value that they are
abbrev pub MeansStruct : Json → Plain-Fields → Type 0
MeansStruct json fields = MeansValue json (struct_value (struct_fields fields))

abbrev pub IsStructTree : Plain-Fields → Json → Type 0
IsStructTree fields = IsValueTree (struct_value (struct_fields fields))

abbrev pub MeansListValue : Json → List Plain → Type 0
MeansListValue json values = MeansValue json (list_value (values_of values))

abbrev pub IsListValueTree : List Plain → Json → Type 0
IsListValueTree values = IsValueTree (list_value (values_of values))

-- whatever tree there is of it is read as it
abbrev pub IsAnyStruct : Plain-Fields → Type 0
IsAnyStruct fields = Unit {0}

abbrev pub IsAnyList : List Plain → Type 0
IsAnyList values = Unit {0}

-- a field that is `null` is absent, so `null` is no value of it
abbrev pub IsNotNull : Plain → Type 0
IsNotNull v = v ≢ null_value

-- where `null` is a value, each tree that there is of a value is read as it
abbrev pub IsAnyValue : Plain → Type 0
IsAnyValue v = Unit {0}

pub one_struct : IsOneValued MeansStruct
one_struct json m n p q =
    same_fields m n (one_plain json (struct_value (struct_fields m)) (struct_value (struct_fields n)) p q)

pub one_list_value : IsOneValued MeansListValue
one_list_value json vs ws p q =
    same_values vs ws (one_plain json (list_value (values_of vs)) (list_value (values_of ws)) p q)

pub value_back : (v : Plain) → IsNotNull v → ComesBack MeansValue IsValueTree v
value_back v there json (lawful, means) = record {
  lawful = lawful;
  means = means;
  present = λ is. there (subst (λ (j : Json). MeansValue j v) is means);
}

pub nullable_value_back : (v : Plain) → IsAnyValue v → TreesMean MeansValue IsValueTree v
nullable_value_back v any json tree = tree

no_null_struct : (m : Plain-Fields) → struct_value (struct_fields m) ≡ null_value → ⊥
no_null_struct m h = absurd cc

no_null_list : (vs : List Plain) → list_value (values_of vs) ≡ null_value → ⊥
no_null_list vs h = absurd cc

pub struct_back : (m : Plain-Fields) → IsAnyStruct m → ComesBack MeansStruct IsStructTree m
struct_back m any json (lawful, means) = record {
  lawful = lawful;
  means = means;
  present = λ is. no_null_struct m (subst (λ (j : Json). MeansStruct j m) is means);
}

pub list_value_back : (vs : List Plain) → IsAnyList vs
    → ComesBack MeansListValue IsListValueTree vs
list_value_back vs any json (lawful, means) = record {
  lawful = lawful;
  means = means;
  present = λ is. no_null_list vs (subst (λ (j : Json). MeansListValue j vs) is means);
}

-- an object without members is a struct without fields
pub no_fields_meant : MeansStruct (object no_member) []
no_fields_meant = ([], refl, refl)
