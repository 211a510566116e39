-- What a tree of JSON says as a `google.protobuf.Value`, and what is written of one.
use Rattle.std.specs.Prelude.{◌≡◌, ℕ, suc, max, Bool, IsTrue, List, [], ◌∷◌, Option, None, Some, map, option_map, box_value, from_bits, string_bytes, String}
use Rattle.std.specs.declared.alloc.Global.{Global}
use Rattle.std.specs.BTreeMap.{insert_entry}
use Rattle.std.specs.Cmp.Lexicographic.{slice_cmp}
use Rattle.std.specs.Float.{Float, binary64, float_is_finite}
use Rattle.std.specs.Float.Parse.{parse_float}
use Rattle.std.specs.Ordering.{nat_cmp}
use Rattle.std.specs.declared.cmp.Ordering.{Ordering}
use Rattle.wire_json.specs.Json.{Json, null, boolean, number, string, array, object, IsLawful}
use Rattle.wire_json.specs.Json.{Elements, no_element, element, Members, no_member, member}
use Rattle.wire_jsonfields.specs.Maps.{IsNewKey}
use Rattle.wire_well_known.specs.declared.list_value.ListValue.{ListValue, ListValue-F, fold-ListValue}
use Rattle.wire_well_known.specs.declared.struct_.Struct.{Struct, Struct-F, fold-Struct}
use Rattle.wire_well_known.specs.declared.struct_fields_entry.StructFieldsEntry.{StructFieldsEntry, StructFieldsEntry-F, fold-StructFieldsEntry}
use Rattle.wire_well_known.specs.declared.value.Value.{Value, Value-F, fold-Value}
use Rattle.wire_well_known.specs.declared.value_kind.ValueKind.{ValueKind, ValueKind-F, fold-ValueKind}
use Rattle.wire_well_known.specs.declared.value_kind.ValueKind.TheOpen as kinds

mutual
  -- A value, apart from how it is held: it has no kind, or one of six. A struct has its fields in
  -- the order of their names.
  pub data Plain : Type 0 where
    nothing : Plain
    null_value : Plain
    number_value : Float → Plain
    string_value : List ℕ → Plain
    bool_value : Bool → Plain
    struct_value : Fields → Plain
    list_value : Values → Plain

  pub data Values : Type 0 where
    no_value : Values
    value : Plain → Values → Values

  pub data Fields : Type 0 where
    no_field : Fields
    field : List ℕ → Plain → Fields → Fields

abbrev pub values_of : List Plain → Values
values_of [] = no_value
values_of (v ∷ vs) = value v (values_of vs)

abbrev pub struct_fields : List (List ℕ × Plain) → Fields
struct_fields [] = no_field
struct_fields (e ∷ es) = field e.0 e.1 (struct_fields es)

abbrev mutual
  -- how many lists and structs stand in one another
  pub nesting : Plain → ℕ
  nesting nothing = 0
  nesting null_value = 0
  nesting (number_value x) = 0
  nesting (string_value s) = 0
  nesting (bool_value b) = 0
  nesting (struct_value fs) = suc (fields_nesting fs)
  nesting (list_value vs) = suc (values_nesting vs)

  pub values_nesting : Values → ℕ
  values_nesting no_value = 0
  values_nesting (value v vs) = max (nesting v) (values_nesting vs)

  pub fields_nesting : Fields → ℕ
  fields_nesting no_field = 0
  fields_nesting (field k v fs) = max (nesting v) (fields_nesting fs)

-- names by their bytes
abbrev pub name_order : List ℕ → List ℕ → Ordering
name_order = slice_cmp nat_cmp

-- a name is a key itself
abbrev pub IsName : List ℕ → List ℕ → Type 0
IsName text key = text ≡ key

abbrev pub Plain-Fields : Type 0
Plain-Fields = List (List ℕ × Plain)

abbrev mutual
  -- a number is the double nearest to it, where that is finite; of an object no two members have
  -- one name
  pub MeansValue : Json → Plain → Type 0
  MeansValue null v = v ≡ null_value
  MeansValue (boolean b) v = v ≡ bool_value b
  MeansValue (number text) v =
      (x : Float) × (parse_float binary64 text ≡ Some x) × IsTrue (float_is_finite x)
      × (v ≡ number_value x)
  MeansValue (string bytes) v = v ≡ string_value bytes
  MeansValue (array es) v = (vs : List Plain) × MeanValues es vs × (v ≡ list_value (values_of vs))
  MeansValue (object ms) v =
      (fields : Plain-Fields) × MeanFields ms [] fields × (v ≡ struct_value (struct_fields fields))

  pub MeanValues : Elements → List Plain → Type 0
  MeanValues no_element [] = Unit {0}
  MeanValues (element e es) (v ∷ vs) = MeansValue e v × MeanValues es vs
  MeanValues no_element (v ∷ vs) = ⊥
  MeanValues (element e es) [] = ⊥

  -- a field for each member goes to its place among those before it
  pub MeanFields : Members → Plain-Fields → Plain-Fields → Type 0
  MeanFields no_member before fields = fields ≡ before
  MeanFields (member name e ms) before fields =
      (v : Plain) × MeansValue e v × IsNewKey name_order name before
      × MeanFields ms (insert_entry name_order before name v) fields

-- what is written of a value: a tree that is read as it, where there is one
abbrev pub IsValueTree : Plain → Json → Type 0
IsValueTree v json = IsLawful json × MeansValue json v

-- ---- as it is held

-- of entries with one name the last one counts
abbrev pub put_fields : Plain-Fields → List (List ℕ × Plain) → Plain-Fields
put_fields before [] = before
put_fields before (e ∷ es) = put_fields (insert_entry name_order before e.0 e.1) es

abbrev pub or_nothing : Option Plain → Plain
or_nothing None = nothing
or_nothing (Some v) = v

abbrev pub value_kind-step : ValueKind-F Plain (List Plain) Plain-Fields (List ℕ × Plain) Plain
    → Plain
value_kind-step (kinds.NullValue_ x) = null_value
value_kind-step (kinds.NumberValue x) = number_value (from_bits binary64 x.bits)
value_kind-step (kinds.StringValue x) = string_value (string_bytes x)
value_kind-step (kinds.BoolValue x) = bool_value x
value_kind-step (kinds.StructValue x) = struct_value (struct_fields (box_value x))
value_kind-step (kinds.ListValue x) = list_value (values_of (box_value x))

abbrev pub list_value-step : ListValue-F Plain (List Plain) Plain-Fields (List ℕ × Plain) Plain
    → List Plain
list_value-step m = m.values.items

abbrev pub struct-step : Struct-F Plain (List Plain) Plain-Fields (List ℕ × Plain) Plain
    → Plain-Fields
struct-step m = put_fields [] m.fields.items

abbrev pub entry-step : StructFieldsEntry-F Plain (List Plain) Plain-Fields (List ℕ × Plain) Plain
    → List ℕ × Plain
entry-step m = (string_bytes m.key, or_nothing (option_map box_value m.value))

abbrev pub value-step : Value-F Plain (List Plain) Plain-Fields (List ℕ × Plain) Plain
    → Plain
value-step m = or_nothing m.kind

abbrev pub value-plain : Value → Plain
value-plain =
    fold-Value Plain (List Plain) Plain-Fields (List ℕ × Plain) Plain value_kind-step
    list_value-step struct-step entry-step value-step

abbrev pub value_kind-plain : ValueKind → Plain
value_kind-plain =
    fold-ValueKind Plain (List Plain) Plain-Fields (List ℕ × Plain) Plain value_kind-step
    list_value-step struct-step entry-step value-step

abbrev pub list_value-plain : ListValue → List Plain
list_value-plain =
    fold-ListValue Plain (List Plain) Plain-Fields (List ℕ × Plain) Plain value_kind-step
    list_value-step struct-step entry-step value-step

abbrev pub struct-plain : Struct → Plain-Fields
struct-plain =
    fold-Struct Plain (List Plain) Plain-Fields (List ℕ × Plain) Plain value_kind-step
    list_value-step struct-step entry-step value-step

abbrev pub entry-plain : StructFieldsEntry → List ℕ × Plain
entry-plain =
    fold-StructFieldsEntry Plain (List Plain) Plain-Fields (List ℕ × Plain) Plain value_kind-step
    list_value-step struct-step entry-step value-step

-- names as they are held
abbrev pub held_order : String Global → String Global → Ordering
held_order x y = name_order (string_bytes x) (string_bytes y)

-- of a struct's entries
abbrev pub held_fields : List StructFieldsEntry → Plain-Fields
held_fields entries = put_fields [] (map entry-plain entries)
