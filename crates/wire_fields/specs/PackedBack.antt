-- Repeated numbers, packed, are read back.
use Rattle.std.proofs.Common.{◌≡◌, inl, inr, ℕ, ◌^◌, ◌<◌, refl, sym, List, [], ◌∷◌, length, ap, ◌∙◌, subst}
use Rattle.std.proofs.lemmas.List.{append-nil}
use Rattle.std.proofs.lemmas.Nat.{from_le_bytes-to_le_bytes_4, from_le_bytes-to_le_bytes_8}
use Rattle.std.specs.Prelude.{map}
use Rattle.wire_codec.specs.FieldNumber.{IsFieldNumber}
use Rattle.wire_codec.specs.InRange.{IsPayloadFitting}
use Rattle.wire_codec.specs.Laws.{FieldsArePlain}
use Rattle.wire_codec.specs.Limits.{no_charge}
use Rattle.wire_codec.specs.LimitsLaws.{ChargesAddUp}
use Rattle.wire_codec.specs.Packed.{SpellsEach}
use Rattle.wire_codec.specs.Records.{plain}
use Rattle.wire_codec.specs.ScalarLaws.{DecodesBack}
use Rattle.wire_codec.specs.ValueMap.{ValueMap}
use Rattle.wire_codec.specs.Varint.{IsSpelling, shortest_varint}
use Rattle.wire_codec.specs.VarintLaws.{ShortestReadsBack}
use Rattle.wire_fields.specs.declared.form.Form.{Form}
use Rattle.wire_fields.specs.declared.form.Form.TheVariants.{Varint, Fixed64, Fixed32}
use Rattle.wire_fields.specs.Back.{AllAre, FoldsBack, KindBack}
use Rattle.wire_fields.specs.Numbers.{number_payload, numeric}
use Rattle.wire_fields.specs.Packed.{IsNumberText, number_text, packed_text, packed_records}
use Rattle.wire_fields.specs.Packed.{packed_kind, unpacked_kind, adds_numbers}
use Rattle.wire_fields.specs.ScalarBack.{AllHold, number_back, each_folds, each_has}

one_spelling : ShortestReadsBack → (v : ℕ) → v < 2 ^ 64 → IsSpelling v (shortest_varint v)
one_spelling shortest v fits =
    let h = shortest v [] fits in
    subst (IsSpelling v)
    (sym (sym (append-nil (shortest_varint v)) ∙ h.parts ∙ append-nil h.text)) h.spelled

-- what is written for a number is a text of it
is_text : ShortestReadsBack → (form : Form) (x : ℕ) → IsPayloadFitting (number_payload form x)
    → IsNumberText form x (number_text form x)
is_text shortest Varint x fits = one_spelling shortest x fits
is_text shortest Fixed64 x fits = (refl, from_le_bytes-to_le_bytes_8 x fits)
is_text shortest Fixed32 x fits = (refl, from_le_bytes-to_le_bytes_4 x fits)

-- numbers in range, of which the texts are no longer than a length of 64 bits says
pub record AreNumbers {T : Type 0} (form : Form) (values : ValueMap T) (InRange : T → Type 0)
    (vs : List T) : Type 0 where
  pub each : AllHold InRange vs
  pub short : length (packed_text form values vs) < 2 ^ 64

module _ {T : Type 0} (shortest : ShortestReadsBack) (charges : ChargesAddUp) (form : Form)
    (values : ValueMap T) (InRange : T → Type 0) (back : DecodesBack values InRange)
    (fits : (v : T) → InRange v → IsPayloadFitting (number_payload form (values.enc v))) where
  pub spelled : (vs : List T) → AllHold InRange vs
      → SpellsEach (IsNumberText form) (map values.enc vs) (packed_text form values vs)
  spelled [] h = refl
  spelled (v ∷ vs) h = (
    number_text form (values.enc v),
    packed_text form values vs,
    refl,
    is_text shortest form (values.enc v) (fits v h.0),
    spelled vs h.1,
  )

  decoded : (vs : List T) → AllHold InRange vs → vs ≡ map values.dec (map values.enc vs)
  decoded [] h = refl
  decoded (v ∷ vs) h =
      ap (λ x. x ∷ vs) (sym (back v h.0))
      ∙ ap (λ xs. values.dec (values.enc v) ∷ xs) (decoded vs h.1)

  packed_folds : (n : ℕ) → IsFieldNumber n → (vs : List T) → AreNumbers form values InRange vs
      → FoldsBack (adds_numbers form values) [] (plain (packed_records form values n vs)) no_charge vs
  packed_folds n is [] h = record { fitting = tt; numbered = tt; folded = (refl, refl) }
  packed_folds n is (v ∷ vs) h = record {
    fitting = (h.short, tt);
    numbered = (is, tt, tt);
    folded = (
      v ∷ vs,
      no_charge,
      no_charge,
      (
        refl,
        inr (record {
          payload = packed_text form values (v ∷ vs);
          is = refl;
          appends = record {
            numbers = map values.enc (v ∷ vs);
            spelled = spelled (v ∷ vs) h.each;
            appended = decoded (v ∷ vs) h.each;
          };
        }),
      ),
      (refl, refl),
      sym (charges.nothing_first no_charge),
    );
  }

  packed_has : (n : ℕ) (vs : List T)
      → AllAre (λ j. j ≡ n) (plain (packed_records form values n vs))
  packed_has n [] = tt
  packed_has n (v ∷ vs) = (refl, tt)

  pub packed_back : KindBack (packed_kind form values) (AreNumbers form values InRange)
      (λ vs. no_charge)
  packed_back = record {
    back = packed_folds;
    has = λ n vs h. packed_has n vs;
  }

  pub unpacked_back : FieldsArePlain
      → KindBack (unpacked_kind form values) (AllHold InRange) (λ vs. no_charge)
  unpacked_back same =
      let t = numeric form values in
      let scalar = number_back form values InRange back fits in
      record {
        back = λ n is vs holds. each_folds same t InRange scalar (adds_numbers form values)
            (λ xs. no_charge) no_charge n is refl (λ v xs. sym (charges.nothing_first no_charge))
            (λ before v k. (
              refl,
              inl (record { value = v; sets = scalar.sets v k; is = refl }),
            )) [] vs holds;
        has = λ n vs holds. each_has same t InRange scalar n vs;
      }
