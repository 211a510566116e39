-- Numbers of four or eight bytes each, one behind another.
use Rattle.std.proofs.Common.{◌≡◌, ℕ, zero, suc, ◌+◌, ◌*◌, ◌/◌, ◌%◌, ◌≢◌, ◌≤◌, List, [], ◌∷◌, ◌++◌, length, take, drop, refl, sym, ap, ◌∙◌, arith, length-append, suc-mul}
use Rattle.std.proofs.lemmas.List.{drop-drop, length-drop, length-take-le, take-append-drop}
use Rattle.std.proofs.Math.Seq.{take-append_seam, drop-append_seam}
use Rattle.std.specs.Int.{Width, byte_len, from_le_bytes, w32, w64}
use Rattle.std.proofs.lemmas.Option.{slice_get_past}
use Rattle.std.specs.Prelude.{slice_get, None}
use Rattle.wire_codec.specs.Fixed.{IsFixed}
use Rattle.wire_codec.specs.Packed.{SpellsEach}
use Rattle.wire_codec.specs.Read.{Reads}
use Rattle.wire_codec.specs.Reading.{ReadsValue}
use Rattle.wire_codec.specs.ValueMap.{fixed32, fixed64}
use Rattle.wire_fields.specs.declared.form.Form.TheVariants.{Fixed64, Fixed32}
use Rattle.wire_views.specs.FixedNumbers.{numbers_of, numbers_in}

pub as_many : (width : Width) (n : ℕ) (bytes : List ℕ) → length (numbers_of width n bytes) ≡ n
as_many width zero bytes = refl
as_many width (suc n) bytes = ap suc (as_many width n (drop (byte_len width) bytes))

-- a number in front of others
one_more : (width : Width) (n x : ℕ) (old new : List ℕ) → Reads old (IsFixed width x) new
    → numbers_of width (suc n) old ≡ x ∷ numbers_of width n new
one_more width n x old new h =
    let front : take (byte_len width) old ≡ h.text =
    ap (take (byte_len width)) h.parts
    ∙ ap (λ k. take k (h.text ++ new)) (sym h.spelled.0) ∙ take-append_seam h.text new in
    let rest : drop (byte_len width) old ≡ new =
    ap (drop (byte_len width)) h.parts
    ∙ ap (λ k. drop k (h.text ++ new)) (sym h.spelled.0) ∙ drop-append_seam h.text new in
    ap (λ (t : List ℕ). from_le_bytes width t ∷ numbers_of width n (drop (byte_len width) old)) front
    ∙ ap (λ (y : ℕ). y ∷ numbers_of width n (drop (byte_len width) old)) h.spelled.1
    ∙ ap (λ (t : List ℕ). x ∷ numbers_of width n t) rest

pub fixed64_in_front : (x v : ℕ) (old new : List ℕ) → ReadsValue (IsFixed w64) fixed64 old v new
    → x ≡ v → numbers_in Fixed64 old ≡ x ∷ numbers_in Fixed64 new
fixed64_in_front x v old new h is =
    let more : length old / 8 ≡ suc (length new / 8) =
    omega (arith, ap length h.read.parts, length-append h.read.text new, h.read.spelled.0) in
    ap (λ n. numbers_of w64 n old) more ∙ one_more w64 (length new / 8) h.number old new h.read
    ∙ ap (λ (y : ℕ). y ∷ numbers_in Fixed64 new) (sym (is ∙ h.is))

pub fixed32_in_front : (x v : ℕ) (old new : List ℕ) → ReadsValue (IsFixed w32) fixed32 old v new
    → x ≡ v → numbers_in Fixed32 old ≡ x ∷ numbers_in Fixed32 new
fixed32_in_front x v old new h is =
    let more : length old / 4 ≡ suc (length new / 4) =
    omega (arith, ap length h.read.parts, length-append h.read.text new, h.read.spelled.0) in
    ap (λ n. numbers_of w32 n old) more ∙ one_more w32 (length new / 4) h.number old new h.read
    ∙ ap (λ (y : ℕ). y ∷ numbers_in Fixed32 new) (sym (is ∙ h.is))

-- ---- from a place on

at_place : (width : Width) (i n all : ℕ) (bytes : List ℕ) → all ≡ i + n
    → slice_get (numbers_of width all bytes) i
    ≡ slice_get (numbers_of width n (drop (i * byte_len width) bytes)) 0
at_place width zero n all bytes is =
    let same : all ≡ n = omega (arith, is) in
    let here : 0 ≡ 0 * byte_len width = omega arith in
    ap (λ k. slice_get (numbers_of width k bytes) 0) same
    ∙ ap (λ k. slice_get (numbers_of width n (drop k bytes)) 0) here
at_place width (suc i) n zero bytes is = absurd (omega (arith, is))
at_place width (suc i) n (suc all) bytes is =
    let behind : byte_len width + i * byte_len width ≡ suc i * byte_len width =
    omega (arith, suc-mul i (byte_len width)) in
    at_place width i n all (drop (byte_len width) bytes) (omega (arith, is))
    ∙ ap (λ t. slice_get (numbers_of width n t) 0)
    (drop-drop (i * byte_len width) (byte_len width) bytes ∙ ap (λ k. drop k bytes) behind)

pub fixed64_from : (i : ℕ) (bytes : List ℕ) → i * 8 ≤ length bytes
    → slice_get (numbers_in Fixed64 bytes) i
    ≡ slice_get (numbers_in Fixed64 (drop (i * 8) bytes)) 0
fixed64_from i bytes within =
    at_place w64 i (length (drop (i * 8) bytes) / 8) (length bytes / 8) bytes
    (omega (arith, length-drop (i * 8) bytes))

pub fixed32_from : (i : ℕ) (bytes : List ℕ) → i * 4 ≤ length bytes
    → slice_get (numbers_in Fixed32 bytes) i
    ≡ slice_get (numbers_in Fixed32 (drop (i * 4) bytes)) 0
fixed32_from i bytes within =
    at_place w32 i (length (drop (i * 4) bytes) / 4) (length bytes / 4) bytes
    (omega (arith, length-drop (i * 4) bytes))

pub fixed64_past : (i : ℕ) (bytes : List ℕ) → length bytes / 8 ≤ i
    → slice_get (numbers_in Fixed64 bytes) i ≡ None
fixed64_past i bytes past =
    slice_get_past _ i (omega (arith, past, as_many w64 (length bytes / 8) bytes))

pub fixed32_past : (i : ℕ) (bytes : List ℕ) → length bytes / 4 ≤ i
    → slice_get (numbers_in Fixed32 bytes) i ≡ None
fixed32_past i bytes past =
    slice_get_past _ i (omega (arith, past, as_many w32 (length bytes / 4) bytes))

-- ---- whole numbers

whole_spelled : (width : Width) (n : ℕ) (bytes : List ℕ) → length bytes ≡ n * byte_len width
    → SpellsEach (IsFixed width) (numbers_of width n bytes) bytes
whole_spelled width zero [] is = refl
whole_spelled width zero (b ∷ bytes) is = absurd (omega (arith, is))
whole_spelled width (suc n) bytes is =
    let all : length bytes ≡ n * byte_len width + byte_len width =
    is ∙ suc-mul n (byte_len width) in (
      take (byte_len width) bytes,
      drop (byte_len width) bytes,
      sym (take-append-drop (byte_len width) bytes),
      (length-take-le (byte_len width) bytes (omega (arith, all)), refl),
      whole_spelled width n (drop (byte_len width) bytes)
          (omega (arith, all, length-drop (byte_len width) bytes)),
    )

spelled_len : (width : Width) (numbers bytes : List ℕ) → SpellsEach (IsFixed width) numbers bytes
    → length bytes ≡ length numbers * byte_len width
spelled_len width [] bytes none = ap length none ∙ omega arith
spelled_len width (x ∷ numbers) bytes (one, more, parts, is, others) =
    omega (
      arith,
      ap length parts,
      length-append one more,
      is.0,
      spelled_len width numbers more others,
      suc-mul (length numbers) (byte_len width),
    )

pub whole_fixed64 : (bytes : List ℕ) → length bytes % 8 ≡ 0
    → SpellsEach (IsFixed w64) (numbers_in Fixed64 bytes) bytes
whole_fixed64 bytes whole = whole_spelled w64 (length bytes / 8) bytes (omega (arith, whole))

pub whole_fixed32 : (bytes : List ℕ) → length bytes % 4 ≡ 0
    → SpellsEach (IsFixed w32) (numbers_in Fixed32 bytes) bytes
whole_fixed32 bytes whole = whole_spelled w32 (length bytes / 4) bytes (omega (arith, whole))

pub no_fixed64s : (bytes : List ℕ) → length bytes % 8 ≢ 0 → (numbers : List ℕ)
    → SpellsEach (IsFixed w64) numbers bytes → ⊥
no_fixed64s bytes part numbers h = absurd (omega (arith, part, spelled_len w64 numbers bytes h))

pub no_fixed32s : (bytes : List ℕ) → length bytes % 4 ≢ 0 → (numbers : List ℕ)
    → SpellsEach (IsFixed w32) numbers bytes → ⊥
no_fixed32s bytes part numbers h = absurd (omega (arith, part, spelled_len w32 numbers bytes h))
