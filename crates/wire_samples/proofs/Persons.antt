-- The text of a `Person`, field by field.
use Rattle.std.proofs.Common.{◌≡◌, ℕ, ◌+◌, ◌^◌, ◌<◌, ◌≤◌, List, [], ◌∷◌, ◌++◌, length, ap, ◌∙◌, arith}
use Rattle.std.proofs.Common.{length-append}
use Rattle.std.specs.Prelude.{ℤ}
use Rattle.wire_codec.specs.Field.{Fields}
use Rattle.wire_codec.specs.Laws.{JoinedTextsAndSizes, FieldsArePlain}
use Rattle.wire_codec.specs.Records as records
use Rattle.wire_codec.specs.Records.{Records, text, text_size, joined_records, of_fields}
use Rattle.wire_codec.specs.Tag.{tag_text}
use Rattle.wire_codec.specs.Text.{text_of}
use Rattle.wire_codec.specs.Varint.{shortest_varint}
use Rattle.wire_codec.specs.WireType.TheVariants.{LengthDelimited}
use Rattle.wire_samples.specs.FieldRecords.{int32_field, bytes_field, packed_int32}
use Rattle.wire_samples.specs.FieldRecords.{packed_int32_field}
use Rattle.wire_samples.specs.Person.{PersonValue, person_records}

-- a payload is no longer than its field
within : (n : ℕ) (payload : List ℕ)
    → length payload ≤ text_size (records.field n (records.bytes payload) records.none)
within n payload =
    let tag = tag_text n LengthDelimited in
    let len = shortest_varint (length payload) in
    omega (
      arith,
      length-append tag ((len ++ payload) ++ []),
      length-append (len ++ payload) [],
      length-append len payload,
    )

scores_within : (n : ℕ) (values : List ℤ)
    → length (packed_int32 values) ≤ text_size (packed_int32_field n values)
scores_within n [] = omega arith
scores_within n (v ∷ vs) = within n (packed_int32 (v ∷ vs))

bytes_within : (n : ℕ) (value : List ℕ) → length value ≤ text_size (bytes_field n value)
bytes_within n [] = omega arith
bytes_within n (b ∷ more) = within n (b ∷ more)

-- four lists of records, the last of the grammar
four_texts : JoinedTextsAndSizes → FieldsArePlain → (a b c : Records) (fs : Fields)
    → text (joined_records a (joined_records b (joined_records c (of_fields fs))))
    ≡ text a ++ (text b ++ (text c ++ text_of fs))
four_texts joins same a b c fs =
    joins.text a (joined_records b (joined_records c (of_fields fs)))
    ∙ ap (λ (t : List ℕ). text a ++ t) (joins.text b (joined_records c (of_fields fs)))
    ∙ ap (λ (t : List ℕ). text a ++ (text b ++ t)) (joins.text c (of_fields fs))
    ∙ ap (λ (gs : Fields). text a ++ (text b ++ (text c ++ text_of gs))) (same.plain fs)

-- the packed scores and the name are no longer than the whole
pub parts_fit : JoinedTextsAndSizes → FieldsArePlain → (p : PersonValue)
    → length (text (bytes_field 2 p.name)) + length (text (packed_int32_field 3 p.scores))
    ≤ text_size (person_records p)
parts_fit joins same p =
    let id = text (int32_field 1 p.id) in
    let name = text (bytes_field 2 p.name) in
    let scores = text (packed_int32_field 3 p.scores) in
    let unknown = text_of p.unknown in
    omega (
      arith,
      ap length (four_texts joins same (int32_field 1 p.id) (bytes_field 2 p.name)
          (packed_int32_field 3 p.scores) p.unknown),
      length-append id (name ++ (scores ++ unknown)),
      length-append name (scores ++ unknown),
      length-append scores unknown,
    )

pub scores_fit : JoinedTextsAndSizes → FieldsArePlain → (p : PersonValue)
    → text_size (person_records p) ≤ 2147483647 → length (packed_int32 p.scores) < 2 ^ 64
scores_fit joins same p small =
    omega (arith, scores_within 3 p.scores, parts_fit joins same p)

pub name_fits : JoinedTextsAndSizes → FieldsArePlain → (p : PersonValue)
    → text_size (person_records p) ≤ 2147483647 → length p.name < 2 ^ 64
name_fits joins same p small =
    omega (arith, bytes_within 2 p.name, parts_fit joins same p)
