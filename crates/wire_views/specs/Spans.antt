-- Unknown fields that stay where they were read, as records.
use Rattle.std.specs.Prelude.{ℕ, ℤ, List, [], ◌∷◌, Option, Some, None}
use Rattle.wire_base.specs.Field.{Fields, none, field, push, varint}
use Rattle.wire_base.specs.TagView.{tag_number}
use Rattle.wire_codec.specs.ValueMap.{int32}
use Rattle.wire_views.specs.declared.span.UnknownSpan.{UnknownSpan}

-- the records that the spans are
abbrev pub span_fields : List UnknownSpan → Fields
span_fields [] = none
span_fields (s ∷ spans) = field (tag_number s.tag) s.spelled.0 (span_fields spans)

-- the records and the one of a number, a varint, where a closed enum lacks it
abbrev pub with_number : {E : Type 0} → ℕ → ℕ → Fields → Option E → Fields
with_number n x u None = push u n (varint x)
with_number n x u (Some e) = u

-- the same of numbers, one after another
abbrev pub with_numbers : {E : Type 0} → (ℤ → Option E) → ℕ → Fields → List ℕ → Fields
with_numbers of_number n u [] = u
with_numbers of_number n u (x ∷ xs) =
    with_numbers of_number n (with_number n x u (of_number (int32.dec x))) xs
