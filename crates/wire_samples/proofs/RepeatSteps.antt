-- What a `Repeat` takes.
use Rattle.std.proofs.Common.{◌≡◌, ◌⊎◌, inl, inr, ⊎_elim, ℕ, ◌+◌, ◌<◌, List, refl, sym, ap, ◌∙◌, subst}
use Rattle.std.specs.Prelude.{true}
use Rattle.wire_codec.specs.DecodeError.{DecodeError}
use Rattle.wire_codec.specs.Field.{Payload, varint}
use Rattle.wire_codec.specs.Limits.{Limits, Charge, no_charge}
use Rattle.wire_codec.specs.LimitsLaws.{LimitsAddUp}
use Rattle.wire_codec.specs.Read.{Reads}
use Rattle.wire_codec.specs.Spells.{IsPayload}
use Rattle.wire_codec.specs.Taking.{TakesRecord, IsCharged, NotTaken}
use Rattle.wire_codec.specs.Varint.{IsSpelling, VarintFault}
use Rattle.wire_codec.specs.VarintLaws.{OneVarint, NoVarintBesideFault}
use Rattle.wire_codec.specs.WireType.{WireType}
use Rattle.wire_codec.specs.WireType.TheVariants as types
use Rattle.wire_samples.specs.declared.repeat.Repeat.{Repeat}
use Rattle.wire_samples.specs.Repeat.{RepeatTakes, counted, marked}

-- a varint as a payload, as it is read and read again
varint_read : (n : ℕ) (w : WireType) (v : ℕ) (old new : List ℕ) → w ≡ types.Varint
    → Reads old (IsSpelling v) new → Reads old (IsPayload n w (varint v)) new
varint_read n w v old new is h = record {
  text = h.text;
  parts = h.parts;
  spelled = record { kind = sym is; spelled = h.spelled };
}

varint_back : (n : ℕ) (w : WireType) (v : ℕ) (old new : List ℕ)
    → Reads old (IsPayload n w (varint v)) new → Reads old (IsSpelling v) new
varint_back n w v old new h =
    record { text = h.text; parts = h.parts; spelled = h.spelled.spelled }

-- a record that is not charged is taken within all limits
uncharged : LimitsAddUp → (l : Limits) (n : ℕ) (w : WireType) (m z : Repeat) (p : Payload)
    (old new : List ℕ) → Reads old (IsPayload n w p) new → RepeatTakes m n p no_charge z
    → IsCharged l l (λ c. TakesRecord RepeatTakes l n w m old c z new)
uncharged limits l n w m z p old new h step = record {
  charge = no_charge;
  taken = record {
    payload = p;
    read = record { read = h; fits = limits.nothing_fits l };
    step = step;
  };
  left = sym (limits.left_after_nothing l);
}

-- the number of a record that is taken
record Number (m : Repeat) (n : ℕ) (old : List ℕ) : Type 0 where
  v : ℕ
  rest : List ℕ
  read : Reads old (IsSpelling v) rest
  kind : ((n ≡ 1) × (v ≡ 0) × (m.times < 18446744073709551615)) ⊎ ((n ≡ 2) × (v ≡ 128))

module _ (l : Limits) (n : ℕ) (w : WireType) (m : Repeat) (old : List ℕ) where
  number_of : (c : Charge) (z : Repeat) (new : List ℕ)
      → TakesRecord RepeatTakes l n w m old c z new → Number m n old
  number_of c z new h = at_step h.step
    where
      spelled : (v : ℕ) → h.payload ≡ varint v → Reads old (IsSpelling v) new
      spelled v same =
          varint_back n w v old new (subst (λ p. Reads old (IsPayload n w p) new) same h.read.read)

      at_step : RepeatTakes m n h.payload c z → Number m n old
      at_step (counted n_is p_is charged room value) = record {
        v = 0;
        rest = new;
        read = spelled 0 p_is;
        kind = inl (n_is, refl, room);
      }
      at_step (marked n_is p_is charged value) = record {
        v = 128;
        rest = new;
        read = spelled 128 p_is;
        kind = inr (n_is, refl);
      }

  -- no varint stands there
  pub no_number : NoVarintBesideFault → (e : DecodeError) → VarintFault old e
      → NotTaken (TakesRecord RepeatTakes l n w m old)
  no_number beside e fault c z new h =
      let number = number_of c z new h in beside old number.rest number.v e number.read fault

  -- another number
  pub other_number : OneVarint → (v : ℕ) (rest : List ℕ) → Reads old (IsSpelling v) rest
      → (n ≡ 1 → v ≡ 0 → m.times < 18446744073709551615 → ⊥) → (n ≡ 2 → v ≡ 128 → ⊥)
      → NotTaken (TakesRecord RepeatTakes l n w m old)
  other_number one v rest read no_count no_mark c z new h =
      let number = number_of c z new h in
      let same = (one old rest number.rest v number.v read number.read).0 in
      ⊎_elim (λ k. no_count k.0 (same ∙ k.1) k.2) (λ k. no_mark k.0 (same ∙ k.1)) number.kind

  module _ (limits : LimitsAddUp) (is : w ≡ types.Varint) where
    pub count_taken : (v : ℕ) (new : List ℕ) → Reads old (IsSpelling v) new → n ≡ 1 → v ≡ 0
        → m.times < 18446744073709551615
        → IsCharged l l (λ c. TakesRecord RepeatTakes l n w m old c
        (record { times = m.times + 1; extra = m.extra }) new)
    count_taken v new read n_is v_is room =
        uncharged limits l n w m (record { times = m.times + 1; extra = m.extra })
        (varint v) old new (varint_read n w v old new is read)
        (counted n_is (ap varint v_is) refl room refl)

    pub mark_taken : (v : ℕ) (new : List ℕ) → Reads old (IsSpelling v) new → n ≡ 2 → v ≡ 128
        → IsCharged l l (λ c. TakesRecord RepeatTakes l n w m old c
        (record { times = m.times; extra = true }) new)
    mark_taken v new read n_is v_is =
        uncharged limits l n w m (record { times = m.times; extra = true })
        (varint v) old new (varint_read n w v old new is read)
        (marked n_is (ap varint v_is) refl refl)
