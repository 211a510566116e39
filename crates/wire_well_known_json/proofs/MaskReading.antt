-- What is refused as a string is refused as a mask.
use Rattle.std.proofs.Common.{◌≡◌, ℕ, List, Some, None, refl, sym, ap, ◌∙◌}
use Rattle.wire_json.specs.Json.{Json, null, boolean, number, string, array, object}
use Rattle.wire_jsontimes.proofs.Reading.{IsOfStrings}
use Rattle.wire_protojson.specs.Decided.{decided}
use Rattle.wire_protojson.specs.Laws.{IsDecided}
use Rattle.wire_protojson.specs.Scalars.{MeansString}
use Rattle.wire_well_known_json.specs.FieldMasks.{one_mask}
use Rattle.wire_well_known_json.specs.Masks.{MeansMask, mask_of}

pub mask_decided : IsDecided MeansMask
mask_decided = decided MeansMask one_mask (λ es v m. absurd m) (λ ms v m. absurd m)

pub mask_is_string : IsOfStrings MeansMask
mask_is_string (string bytes) v means = (bytes, refl)
mask_is_string null v means = absurd means
mask_is_string (boolean b) v means = absurd means
mask_is_string (number text) v means = absurd means
mask_is_string (array es) v means = absurd means
mask_is_string (object ms) v means = absurd means

pub no_mask : (json : Json) (bytes : List ℕ) → MeansString json bytes → mask_of bytes ≡ None
    → (v : List (List ℕ)) → MeansMask json v → ⊥
no_mask (string text) bytes is none v means =
    absurd (unlike (sym means ∙ ap mask_of is ∙ none))
  where
    unlike : Some v ≡ None → ⊥
    unlike h = absurd cc
no_mask null bytes is none v means = means
no_mask (boolean b) bytes is none v means = means
no_mask (number text) bytes is none v means = means
no_mask (array es) bytes is none v means = means
no_mask (object ms) bytes is none v means = means
