-- Counts of numbers: what they take, and of which lists they are.
use Rattle.std.proofs.Common.{◌≡◌, inl, inr, ap, ◌∙◌, sym, refl, arith}
use Rattle.std.proofs.Common.{List, [], ◌∷◌, ◌++◌, length, length-append}
use Rattle.std.specs.Prelude.{ℕ, ◌+◌, map}
use Rattle.wire_codec.specs.Delimited.{IsDelimited}
use Rattle.wire_codec.specs.Field.{bytes}
use Rattle.wire_codec.specs.Limits.{Limits, no_charge}
use Rattle.wire_codec.specs.LimitsLaws.{LimitsAddUp}
use Rattle.wire_codec.specs.Packed.{Appends}
use Rattle.wire_codec.specs.Read.{Reads}
use Rattle.wire_codec.specs.Taking.{TakesRecord, IsCharged, NotTaken}
use Rattle.wire_codec.specs.ValueMap.{ValueMap}
use Rattle.wire_codec.specs.WireType.{WireType}
use Rattle.wire_codec.specs.WireType.TheVariants as types
use Rattle.wire_fields.specs.Numbers.{in_64_bits}
use Rattle.wire_fields.specs.Packed.{IsNumberText, adds_numbers, packed, unpacked}
use Rattle.wire_fields.specs.Shape.{known}
use Rattle.wire_fields.specs.declared.form.Form.{Form}
use Rattle.wire_structs.proofs.Shown.{known_shown}
use Rattle.wire_structs.specs.Counts.{count_seen}
use Rattle.wire_structs.specs.NumberCounts.{counts_numbers, numbers_count}
use Rattle.wire_structs.specs.Showing.{ShowsShape, ShowsSteps}

module _ {T : Type 0} (form : Form) (values : ValueMap T) where
  -- ---- what is taken

  module _ (l : Limits) (n : ℕ) (w : WireType) (m : ℕ) (old : List ℕ) where
    -- a count takes what an empty list takes
    pub numbers_counted : (z : ℕ) (vs : List T) (new : List ℕ)
        → IsCharged l l (λ c. TakesRecord (adds_numbers form values) l n w [] old c vs new)
        → z ≡ in_64_bits (m + length vs)
        → IsCharged l l (λ c. TakesRecord (counts_numbers form values) l n w m old c z new)
    numbers_counted z vs new h is = record {
      charge = h.charge;
      taken = record {
        payload = h.taken.payload;
        read = h.taken.read;
        step = (vs, h.taken.step, is);
      };
      left = h.left;
    }

    -- those of a payload
    pub payload_counted : LimitsAddUp → w ≡ types.LengthDelimited → (payload new : List ℕ)
        → Reads old (IsDelimited payload) new → (vs : List T)
        → Appends (IsNumberText form) values payload [] vs → (z : ℕ)
        → z ≡ in_64_bits (m + length vs)
        → IsCharged l l (λ c. TakesRecord (counts_numbers form values) l n w m old c z new)
    payload_counted limits kind payload new read vs appends z is = record {
      charge = no_charge;
      taken = record {
        payload = bytes payload;
        read = record {
          read = record {
            text = read.text;
            parts = read.parts;
            spelled = record { kind = sym kind; spelled = read.spelled };
          };
          fits = limits.nothing_fits l;
        };
        step = (
          vs,
          (refl, inr (record { payload = payload; is = refl; appends = appends })),
          is,
        );
      };
      left = sym (limits.left_after_nothing l);
    }

    pub numbers_uncounted : NotTaken (TakesRecord (adds_numbers form values) l n w [] old)
        → NotTaken (TakesRecord (counts_numbers form values) l n w m old)
    numbers_uncounted none c z new h =
        none c h.step.0 new (record { payload = h.payload; read = h.read; step = h.step.1 })

  -- ---- of which lists they are

  count_joined : (m vs : List T)
      → count_seen (m ++ vs) ≡ in_64_bits (count_seen m + length vs)
  count_joined m vs = omega (arith, length-append m vs)

  numbers_shown : ShowsSteps count_seen (adds_numbers form values) (counts_numbers form values)
  numbers_shown = record {
    on = λ m n p c z (charged, adds). elim adds [
      | inl k ↦ (
        k.value ∷ [],
        (charged, inl (record { value = k.value; sets = k.sets; is = refl })),
        ap count_seen k.is ∙ count_joined m (k.value ∷ []),
      )
      | inr k ↦ (
        map values.dec k.appends.numbers,
        (
          charged,
          inr (record {
            payload = k.payload;
            is = k.is;
            appends = record {
              numbers = k.appends.numbers;
              spelled = k.appends.spelled;
              appended = refl;
            };
          }),
        ),
        ap count_seen k.appends.appended ∙ count_joined m (map values.dec k.appends.numbers),
      )
    ];
    back = λ m n p c w (vs, (charged, adds), is). elim adds [
      | inl k ↦ (
        m ++ k.value ∷ [],
        (charged, inl (record { value = k.value; sets = k.sets; is = refl })),
        is ∙ ap (λ (xs : List T). in_64_bits (count_seen m + length xs)) k.is
            ∙ sym (count_joined m (k.value ∷ [])),
      )
      | inr k ↦ (
        m ++ map values.dec k.appends.numbers,
        (
          charged,
          inr (record {
            payload = k.payload;
            is = k.is;
            appends = record {
              numbers = k.appends.numbers;
              spelled = k.appends.spelled;
              appended = refl;
            };
          }),
        ),
        is ∙ ap (λ (xs : List T). in_64_bits (count_seen m + length xs)) k.appends.appended
            ∙ sym (count_joined m (map values.dec k.appends.numbers)),
      )
    ];
  }

  pub packed_shown : (n : ℕ)
      → ShowsShape count_seen (known n (packed form values)) (known n (numbers_count form values))
  packed_shown n =
      known_shown count_seen n (packed form values) (numbers_count form values) refl numbers_shown

  pub unpacked_shown : (n : ℕ)
      → ShowsShape count_seen (known n (unpacked form values))
      (known n (numbers_count form values))
  unpacked_shown n =
      known_shown count_seen n (unpacked form values) (numbers_count form values) refl
      numbers_shown
