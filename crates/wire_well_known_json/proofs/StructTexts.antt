-- The text of a value is read as it.
use Rattle.std.proofs.Common.{◌≡◌, ℕ, suc, ◌≤◌, List, [], ◌∷◌, Some, None, cond, max, refl, sym, ap, ◌∙◌, arith}
use Rattle.std.specs.BTreeMap.{insert_entry, is_at}
use Rattle.std.specs.Map.{lookup}
use Rattle.std.specs.Ordering.{is_eq, match_ordering}
use Rattle.std.specs.declared.cmp.Ordering.{Ordering}
use Rattle.std.specs.declared.cmp.Ordering.TheVariants.{Less, Equal, Greater}
use Rattle.wire_json.specs.Json.{Json, null, boolean, number, string, array, object, depth, elements_depth, members_depth}
use Rattle.wire_json.specs.Json.{Elements, no_element, element, Members, no_member, member}
use Rattle.wire_json.specs.Written.{written}
use Rattle.wire_json.proofs.OneReading.{one_reading_lemma}
use Rattle.wire_json.proofs.WrittenLaws.{written_spells_lemma}
use Rattle.wire_jsonfields.specs.Levels.{IsReadFrom, SpellsWithin}
use Rattle.wire_jsonfields.specs.ListsBack.{one_spelled}
use Rattle.wire_jsonfields.specs.Maps.{IsNewKey}
use Rattle.wire_well_known_json.specs.OnePlain.{one_plain}
use Rattle.wire_well_known_json.specs.StructLaws.{TextsAreOneValue, ValuesAreReadBack}
use Rattle.wire_well_known_json.specs.Structs.{Plain, struct_value, values_of, struct_fields, Plain-Fields, name_order, MeansValue, MeanValues, MeanFields, IsValueTree, nesting, values_nesting, fields_nesting}

-- ---- how deep

placed : (e : List ℕ × Plain) (es : Plain-Fields) (k : List ℕ) (v : Plain) (o : Ordering)
    → cond (is_eq o) (Some e.1) (lookup (is_at (name_order k)) es) ≡ None
    → fields_nesting (struct_fields (insert_entry name_order es k v))
    ≡ max (nesting v) (fields_nesting (struct_fields es))
    → fields_nesting (struct_fields (match_ordering o ((k, v) ∷ e ∷ es) ((e.0, v) ∷ es)
    (e ∷ insert_entry name_order es k v)))
    ≡ max (nesting v) (fields_nesting (struct_fields (e ∷ es)))
placed e es k v Less new more = refl
placed e es k v Equal new more = absurd cc
placed e es k v Greater new more = omega (arith, more)

-- a field with a new name adds what it nests
put_deep : (es : Plain-Fields) (k : List ℕ) (v : Plain) → IsNewKey name_order k es
    → fields_nesting (struct_fields (insert_entry name_order es k v))
    ≡ max (nesting v) (fields_nesting (struct_fields es))
put_deep [] k v new = refl
put_deep (e ∷ es) k v new =
    placed e es k v (name_order k e.0) new (put_deep es k v (later (name_order k e.0) new))
  where
    later : (o : Ordering) → cond (is_eq o) (Some e.1) (lookup (is_at (name_order k)) es) ≡ None
        → lookup (is_at (name_order k)) es ≡ None
    later Less h = h
    later Equal h = absurd cc
    later Greater h = h

mutual
  value_depth : (json : Json) (v : Plain) → MeansValue json v → depth json ≡ nesting v
  value_depth null v is = sym (ap nesting is)
  value_depth (boolean b) v is = sym (ap nesting is)
  value_depth (string s) v is = sym (ap nesting is)
  value_depth (number t) v (x, parses, finite, is) = sym (ap nesting is)
  value_depth (array es) v (vs, means, is) = ap suc (list_depth es vs means) ∙ sym (ap nesting is)
  value_depth (object ms) v (m, means, is) =
      let deep = struct_depth ms [] m means in
      let whole : suc (members_depth ms) ≡ nesting (struct_value (struct_fields m)) = omega (arith, deep) in
      whole ∙ sym (ap nesting is)

  list_depth : (es : Elements) (vs : List Plain) → MeanValues es vs
      → elements_depth es ≡ values_nesting (values_of vs)
  list_depth no_element [] h = refl
  list_depth (element e es) (v ∷ vs) h =
      let one = value_depth e v h.0 in
      let more = list_depth es vs h.1 in
      omega (arith, one, more)
  list_depth no_element (v ∷ vs) h = absurd h
  list_depth (element e es) [] h = absurd h

  struct_depth : (ms : Members) (before m : Plain-Fields) → MeanFields ms before m
      → max (fields_nesting (struct_fields before)) (members_depth ms) ≡ fields_nesting (struct_fields m)
  struct_depth no_member before m is =
      let same = ap (λ (l : Plain-Fields). fields_nesting (struct_fields l)) is in
      omega (arith, same)
  struct_depth (member name e ms) before m (v, means, new, rest) =
      let one = value_depth e v means in
      let more = struct_depth ms (insert_entry name_order before name v) m rest in
      let put = put_deep before name v new in
      omega (arith, one, more, put)

-- ---- texts

read_back : (json : Json) (v : Plain) → IsValueTree v json → IsReadFrom MeansValue json v
read_back json v (lawful, means) levels = (
  λ fits. (json, written_spells_lemma json lawful, fits, means),
  λ w read. small w read,
)
  where
    small : (w : Plain) → SpellsWithin levels MeansValue (written json) w → depth json ≤ levels
    small w (other, spelled, fits, meant) =
        let same = one_reading_lemma (written json) json other
        (written_spells_lemma json lawful) spelled in
        let deep : depth json ≡ depth other = ap depth same in
        omega (arith, fits, deep)

pub values_are_read_back : ValuesAreReadBack
values_are_read_back v json tree = record {
  read = read_back json v tree;
  levels = value_depth json v tree.1;
}

pub texts_are_one_value : TextsAreOneValue
texts_are_one_value = one_spelled MeansValue one_plain
