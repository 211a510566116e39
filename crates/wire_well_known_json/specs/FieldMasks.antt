-- Field masks as lists of paths.
use Rattle.std.proofs.Common.{◌≡◌, Some, sym, ◌∙◌, subst}
use Rattle.std.specs.Prelude.{List, map, string_bytes, ℕ}
use Rattle.wire_json.specs.Json.{Json, null, boolean, number, string, array, object, IsLawful}
use Rattle.wire_jsonfields.specs.Back.{ComesBack}
use Rattle.wire_jsonfields.specs.OneValues.{IsOneValued}
use Rattle.wire_well_known.specs.declared.field_mask.FieldMask.{FieldMask}
use Rattle.wire_well_known_json.specs.Masks.{IsMaskTree, MeansMask}

abbrev pub field_mask-json : FieldMask → List (List ℕ)
field_mask-json m = map string_bytes m.paths.items

-- whatever text there is of a mask is read as it
abbrev pub IsAnyMask : List (List ℕ) → Type 0
IsAnyMask paths = Unit {0}

pub one_mask : IsOneValued MeansMask
one_mask (string bytes) v w p q = same (sym p ∙ q)
  where
    same : Some v ≡ Some w → v ≡ w
    same h = cc
one_mask null v w p q = absurd p
one_mask (boolean b) v w p q = absurd p
one_mask (number text) v w p q = absurd p
one_mask (array es) v w p q = absurd p
one_mask (object ms) v w p q = absurd p

pub mask_back : (v : List (List ℕ)) → IsAnyMask v → ComesBack MeansMask IsMaskTree v
mask_back v any json (text, utf8, means, is) = record {
  lawful = subst IsLawful (sym is) utf8;
  means = as_string;
  present = λ nothing. no_mask json nothing as_string;
}
  where
    as_string : MeansMask json v
    as_string = subst (λ (j : Json). MeansMask j v) (sym is) means

    no_mask : (e : Json) → e ≡ null → MeansMask e v → ⊥
    no_mask e none means = rw none at means
