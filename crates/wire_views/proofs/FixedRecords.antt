-- Records of packed numbers that stay where they stand.
use Rattle.std.proofs.Common.{◌≡◌, ◌≢◌, ℕ, ◌*◌, ◌/◌, inl, inr, List, [], ◌∷◌, ◌++◌, length, refl, sym, ap, subst, ◌∙◌, arith, length-append}
use Rattle.std.proofs.lemmas.Bool.Decides.{eqb_tells}
use Rattle.std.proofs.lemmas.List.{length-map}
use Rattle.std.specs.Int.{to_le_bytes, w32, w64}
use Rattle.std.specs.Prelude.{false, ◌==◌, map}
use Rattle.wire_codec.specs.Delimited.{IsDelimited}
use Rattle.wire_codec.specs.Field.{bytes}
use Rattle.wire_codec.specs.Limits.{Limits, no_charge}
use Rattle.wire_codec.specs.LimitsLaws.{LimitsAddUp}
use Rattle.wire_codec.specs.Packed.{SpellsEach}
use Rattle.wire_codec.specs.Read.{Reads}
use Rattle.wire_codec.specs.Taking.{TakesRecord, IsCharged}
use Rattle.wire_codec.specs.ValueMap.{ValueMap}
use Rattle.wire_codec.specs.WireType.{WireType}
use Rattle.wire_codec.specs.WireType.TheVariants.{LengthDelimited}
use Rattle.wire_fields.specs.declared.form.Form.{Form}
use Rattle.wire_fields.specs.declared.form.Form.TheVariants.{Varint, Fixed64, Fixed32}
use Rattle.wire_fields.specs.Packed.{IsNumberText, adds_numbers, number_text, packed_text}
use Rattle.wire_views.specs.FixedNumbers.{numbers_in, values_in}
use Rattle.wire_views.proofs.FixedWidths.{as_many}

-- no bytes are no numbers
pub none_in : {T : Type 0} (form : Form) (values : ValueMap T) (payload : List ℕ)
    → length payload ≡ 0 → values_in form values payload ≡ []
none_in Varint values [] none = refl
none_in Fixed64 values [] none = refl
none_in Fixed32 values [] none = refl
none_in form values (b ∷ payload) none = absurd (omega (arith, none))

-- a payload of whole numbers is taken where there are none yet
pub in_place_taken : {T : Type 0} (form : Form) (values : ValueMap T) (l : Limits) (n : ℕ)
    (w : WireType) (m : List T) (old payload new : List ℕ) → LimitsAddUp → w ≡ LengthDelimited
    → Reads old (IsDelimited payload) new
    → SpellsEach (IsNumberText form) (numbers_in form payload) payload → m ≡ []
    → IsCharged l l (λ c. TakesRecord (adds_numbers form values) l n w m old c
    (values_in form values payload) new)
in_place_taken {T} form values l n w m old payload new limits is read whole none = record {
  charge = no_charge;
  taken = record {
    payload = bytes payload;
    read = record {
      read = record {
        text = read.text;
        parts = read.parts;
        spelled = record { kind = sym is; spelled = read.spelled };
      };
      fits = limits.nothing_fits l;
    };
    step = (
      refl,
      inr (record {
        payload = payload;
        is = refl;
        appends = record {
          numbers = numbers_in form payload;
          spelled = whole;
          appended = ap (λ (front : List T). front ++ values_in form values payload) (sym none);
        };
      }),
    );
  };
  left = sym (limits.left_after_nothing l);
}

-- ---- written

module _ {T : Type 0} (values : ValueMap T) where
  fixed64_texts : (vs : List T) → length (packed_text Fixed64 values vs) ≡ length vs * 8
  fixed64_texts [] = refl
  fixed64_texts (v ∷ vs) =
      let one : length (to_le_bytes w64 (values.enc v)) ≡ 8 = refl in
      omega (
        arith,
        one,
        length-append (to_le_bytes w64 (values.enc v)) (packed_text Fixed64 values vs),
        fixed64_texts vs,
      )

  fixed32_texts : (vs : List T) → length (packed_text Fixed32 values vs) ≡ length vs * 4
  fixed32_texts [] = refl
  fixed32_texts (v ∷ vs) =
      let one : length (to_le_bytes w32 (values.enc v)) ≡ 4 = refl in
      omega (
        arith,
        one,
        length-append (to_le_bytes w32 (values.enc v)) (packed_text Fixed32 values vs),
        fixed32_texts vs,
      )

  pub fixed64_len : (payload : List ℕ)
      → length (packed_text Fixed64 values (values_in Fixed64 values payload))
      ≡ length payload / 8 * 8
  fixed64_len payload =
      omega (
        arith,
        fixed64_texts (values_in Fixed64 values payload),
        length-map (numbers_in Fixed64 payload) values.dec,
        as_many w64 (length payload / 8) payload,
      )

  pub fixed32_len : (payload : List ℕ)
      → length (packed_text Fixed32 values (values_in Fixed32 values payload))
      ≡ length payload / 4 * 4
  fixed32_len payload =
      omega (
        arith,
        fixed32_texts (values_in Fixed32 values payload),
        length-map (numbers_in Fixed32 payload) values.dec,
        as_many w32 (length payload / 4) payload,
      )

  not_equal : (n : ℕ) → n ≢ 0 → (n == 0) ≡ false
  not_equal n more = elim (eqb_tells n 0) [
    | inl same ↦ absurd (more same.1)
    | inr other ↦ other.0
  ]

  -- there are numbers
  pub some_values : (form k : Form) (payload : List ℕ) (count : ℕ) → form ≡ k
      → count ≡ length (numbers_in form payload) → count ≢ 0
      → (length (values_in k values payload) == 0) ≡ false
  some_values form k payload count same is more =
      let all : length (values_in k values payload) ≡ count =
      length-map (numbers_in k payload) values.dec
      ∙ ap (λ f. length (numbers_in f payload)) (sym same) ∙ sym is in
      ap (λ n. n == 0) all ∙ not_equal count more

  -- the text of the number in front, and those behind it
  pub next_text : (form k : Form) (x e : ℕ) (v : T) (old new : List ℕ) → form ≡ k
      → numbers_in form old ≡ x ∷ numbers_in form new → v ≡ values.dec x → e ≡ values.enc v
      → packed_text k values (values_in k values old)
      ≡ number_text form e ++ packed_text k values (values_in k values new)
  next_text form k x e v old new same front read written =
      let behind = packed_text k values (values_in k values new) in
      ap (λ (xs : List ℕ). packed_text k values (map values.dec xs))
      (subst (λ f. numbers_in f old ≡ x ∷ numbers_in f new) same front)
      ∙ ap (λ (y : ℕ). number_text k y ++ behind) (sym (written ∙ ap values.enc read))
      ∙ ap (λ f. number_text f e ++ behind) (sym same)
