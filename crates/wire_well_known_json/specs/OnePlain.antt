-- A tree means one value at most, and a list and a struct are one value each.
use Rattle.std.proofs.Common.{◌≡◌, ℕ, List, [], ◌∷◌, Some, refl, sym, ap, ◌∙◌, subst}
use Rattle.std.specs.BTreeMap.{insert_entry}
use Rattle.std.specs.Float.{Float}
use Rattle.wire_json.specs.Json.{Json, null, boolean, number, string, array, object}
use Rattle.wire_json.specs.Json.{Elements, no_element, element, Members, no_member, member}
use Rattle.wire_well_known_json.specs.Structs.{Plain, nothing, null_value, number_value, string_value, bool_value, struct_value, list_value, Values, no_value, value, Fields, no_field, field, values_of, struct_fields, Plain-Fields, name_order, IsName, MeansValue, MeanValues, MeanFields}

one_float : (x y : Float) → Some x ≡ Some y → x ≡ y
one_float x y h = cc

mutual
  pub one_plain : (json : Json) (v w : Plain) → MeansValue json v → MeansValue json w → v ≡ w
  one_plain null v w p q = p ∙ sym q
  one_plain (boolean b) v w p q = p ∙ sym q
  one_plain (string s) v w p q = p ∙ sym q
  one_plain (number t) v w (x, parses, finite, is) (y, again, fine, same) =
      is ∙ ap number_value (one_float x y (sym parses ∙ again)) ∙ sym same
  one_plain (array es) v w (vs, means, is) (ws, again, same) =
      is ∙ ap (λ (l : List Plain). list_value (values_of l)) (one_list es vs ws means again)
      ∙ sym same
  one_plain (object ms) v w (m, means, is) (n, again, same) =
      is ∙ ap (λ (l : Plain-Fields). struct_value (struct_fields l)) (one_fields ms [] m n means again)
      ∙ sym same

  pub one_list : (es : Elements) (vs ws : List Plain) → MeanValues es vs → MeanValues es ws
      → vs ≡ ws
  one_list no_element [] [] p q = refl
  one_list no_element [] (w ∷ ws) p q = absurd q
  one_list no_element (v ∷ vs) ws p q = absurd p
  one_list (element e es) [] ws p q = absurd p
  one_list (element e es) (v ∷ vs) [] p q = absurd q
  one_list (element e es) (v ∷ vs) (w ∷ ws) p q =
      ap (λ (x : Plain). x ∷ vs) (one_plain e v w p.0 q.0)
      ∙ ap (λ (l : List Plain). w ∷ l) (one_list es vs ws p.1 q.1)

  pub one_fields : (ms : Members) (before m n : Plain-Fields) → MeanFields ms before m
      → MeanFields ms before n → m ≡ n
  one_fields no_member before m n p q = p ∙ sym q
  one_fields (member name e ms) before m n (v, a, new, p) (w, b, again, q) =
      let P : Plain → Type 0 = λ z. MeanFields ms (insert_entry name_order before name z) n in
      one_fields ms (insert_entry name_order before name v) m n p
      (subst P (sym (one_plain e v w a b)) q)

-- a name is one key
pub one_field_name : (text j k : List ℕ) → IsName text j → IsName text k → j ≡ k
one_field_name text j k p q = sym p ∙ q

-- ---- a value has one list of values and one of fields

abbrev list_of : Values → List Plain
list_of no_value = []
list_of (value v vs) = v ∷ list_of vs

list_back : (vs : List Plain) → list_of (values_of vs) ≡ vs
list_back [] = refl
list_back (v ∷ vs) = ap (λ (l : List Plain). v ∷ l) (list_back vs)

abbrev entries_of : Fields → Plain-Fields
entries_of no_field = []
entries_of (field k v fs) = (k, v) ∷ entries_of fs

entries_back : (es : Plain-Fields) → entries_of (struct_fields es) ≡ es
entries_back [] = refl
entries_back (e ∷ es) = ap (λ (l : Plain-Fields). e ∷ l) (entries_back es)

abbrev listed : Plain → List Plain
listed (list_value vs) = list_of vs
listed nothing = []
listed null_value = []
listed (number_value x) = []
listed (string_value s) = []
listed (bool_value b) = []
listed (struct_value fs) = []

abbrev entered : Plain → Plain-Fields
entered (struct_value fs) = entries_of fs
entered nothing = []
entered null_value = []
entered (number_value x) = []
entered (string_value s) = []
entered (bool_value b) = []
entered (list_value vs) = []

pub same_values : (vs ws : List Plain) → list_value (values_of vs) ≡ list_value (values_of ws)
    → vs ≡ ws
same_values vs ws h = sym (list_back vs) ∙ ap listed h ∙ list_back ws

pub same_fields : (es fs : Plain-Fields) → struct_value (struct_fields es) ≡ struct_value (struct_fields fs)
    → es ≡ fs
same_fields es fs h = sym (entries_back es) ∙ ap entered h ∙ entries_back fs
