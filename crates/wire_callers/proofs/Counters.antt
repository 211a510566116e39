-- What a `Counter` is written as, and what it takes.
use Rattle.std.proofs.Common.{◌≡◌, ◌≢◌, ℕ, zero, suc, ◌+◌, ◌<◌, ◌^◌, List, ◌++◌}
use Rattle.std.proofs.Common.{length, refl, sym, ap, ◌∙◌, subst, arith, length-append}
use Rattle.std.proofs.lemmas.List.{append-nil}
use Rattle.wire_codec.specs.Charge.{payload_charge}
use Rattle.wire_codec.specs.DecodeError.{DecodeError}
use Rattle.wire_codec.specs.Fault.{PayloadFault}
use Rattle.wire_codec.specs.FaultLaws.{NoPayloadBesideFault}
use Rattle.wire_codec.specs.Field.{Payload, varint}
use Rattle.wire_codec.specs.Folds.{Folds}
use Rattle.wire_codec.specs.InRange.{AreFitting, AreNumbered}
use Rattle.wire_codec.specs.Limits.{Limits, no_charge, uncounted}
use Rattle.wire_codec.specs.LimitsLaws.{ChargesAddUp, LimitsAddUp}
use Rattle.wire_codec.specs.Read.{Reads}
use Rattle.wire_codec.specs.Records.{plain, text, text_size}
use Rattle.wire_codec.specs.Spells.{IsPayload}
use Rattle.wire_codec.specs.Tag.{tag_text}
use Rattle.wire_codec.specs.Taken.{TakesPayload}
use Rattle.wire_codec.specs.Taking.{TakesRecord, TakesAll, IsCharged, NotTaken}
use Rattle.wire_codec.specs.TakingLaws.{RecordsInOrder, TextDecodes}
use Rattle.wire_codec.specs.Text.{record_text}
use Rattle.wire_codec.specs.Varint.{IsSpelling, VarintFault, shortest_varint}
use Rattle.wire_codec.specs.VarintLaws.{NoVarintBesideFault}
use Rattle.wire_codec.specs.WireType.{WireType}
use Rattle.wire_codec.specs.WireType.TheVariants as types
use Rattle.wire_callers.specs.declared.counter.Counter.{Counter}
use Rattle.wire_callers.specs.Counter.{CounterTakes, value, other, value_record, counter_records}
use Rattle.wire_callers.specs.Counter.{levels_alone}

-- ---- writing

record_written : (v : ℕ) → v ≢ 0 → text (value_record v) ≡ record_text 1 (varint v)
record_written zero some = absurd (some refl)
record_written (suc k) some =
    ap (λ (t : List ℕ). tag_text 1 types.Varint ++ t) (append-nil (shortest_varint (suc k)))

one_byte : length (tag_text 1 types.Varint) ≡ 1
unfolding shortest_varint
one_byte = refl

pub record_size : (v : ℕ) → v ≢ 0 → text_size (value_record v) ≡ 1 + length (shortest_varint v)
record_size v some =
    ap length (record_written v some)
    ∙ length-append (tag_text 1 types.Varint) (shortest_varint v)
    ∙ ap (λ (n : ℕ). n + length (shortest_varint v)) one_byte

-- ---- reading

module _ (l : Limits) (n : ℕ) (w : WireType) (m : Counter) (old : List ℕ) where
  pub set : LimitsAddUp → (v : ℕ) (new : List ℕ) → n ≡ 1 → w ≡ types.Varint
      → Reads old (IsSpelling v) new
      → IsCharged l l (λ c. TakesRecord CounterTakes l n w m old c (record { value = v }) new)
  set limits v new is kind h = record {
    charge = no_charge;
    taken = record {
      payload = varint v;
      read = record {
        read = record {
          text = h.text;
          parts = h.parts;
          spelled = record { kind = sym kind; spelled = h.spelled };
        };
        fits = limits.nothing_fits l;
      };
      step = value v is refl refl refl;
    };
    left = sym (limits.left_after_nothing l);
  }

  pub passed : LimitsAddUp → (levels : ℕ) (p : Payload) (new : List ℕ) → levels ≡ l.depth → n ≢ 1
      → TakesPayload (payload_charge p) (uncounted levels) n w p old new
      → IsCharged l l (λ c. TakesRecord CounterTakes l n w m old c m new)
  passed limits levels p new all is h = record {
    charge = levels_alone p;
    taken = record {
      payload = p;
      read = record {
        read = h.read;
        fits = record {
          depth = omega (arith, h.fits.depth, all);
          counts = (limits.nothing_fits l).counts;
        };
      };
      step = other is refl refl;
    };
    left = sym (limits.left_after_nothing l);
  }

  -- no payload that is passed over stands there
  pub not_passed : NoPayloadBesideFault → (levels : ℕ) (e : DecodeError) → levels ≡ l.depth → n ≢ 1
      → PayloadFault (uncounted levels) n w old e → NotTaken (TakesRecord CounterTakes l n w m old)
  not_passed beside levels e all is fault c z new h = at_step h.step
    where
      at_step : CounterTakes m n h.payload c z → ⊥
      at_step (value v n_is p_is charged after) = is n_is
      at_step (other n_is charged after) =
          let fits = subst (λ x. TakesPayload x l n w h.payload old new) charged h.read in
          beside (uncounted levels) n w old new e h.payload fault (record {
            read = h.read.read;
            fits = record {
              depth = omega (arith, fits.fits.depth, all);
              counts = record { unknown_fields = tt; element_memory = tt; unknown_bytes = tt };
            };
          })

  -- no varint stands there
  pub no_number : NoVarintBesideFault → (e : DecodeError) → n ≡ 1 → VarintFault old e
      → NotTaken (TakesRecord CounterTakes l n w m old)
  no_number beside e is fault c z new h = at_step h.step
    where
      at_step : CounterTakes m n h.payload c z → ⊥
      at_step (value v n_is p_is charged after) =
          let read = subst (λ p. Reads old (IsPayload n w p) new) p_is h.read.read in
          beside old new v e (record {
            text = read.text;
            parts = read.parts;
            spelled = read.spelled.spelled;
          }) fault
      at_step (other n_is charged after) = n_is is

-- ---- round trips

abbrev counter_of : ℕ → Counter
counter_of v = record { value = v }

folded : ChargesAddUp → (v : ℕ)
    → Folds CounterTakes (counter_of 0) (plain (value_record v)) no_charge (counter_of v)
folded charges zero = (refl, refl)
folded charges (suc k) = (
  counter_of (suc k),
  no_charge,
  no_charge,
  value (suc k) refl refl refl refl,
  (refl, refl),
  sym (charges.nothing_first no_charge),
)

fitting : (v : ℕ) → v < 2 ^ 64 → AreFitting (plain (value_record v))
fitting zero fits = tt
fitting (suc k) fits = (fits, tt)

numbered : (v : ℕ) → AreNumbered (plain (value_record v))
numbered zero = tt
numbered (suc k) = ((omega arith, omega arith), tt, tt)

-- the text of a counter is decoded to it
pub read_back : TextDecodes CounterTakes counter_records (counter_of 0) → RecordsInOrder
    → (l : Limits) (v : ℕ) → v < 2 ^ 64
    → TakesAll CounterTakes l (counter_of 0) (text (value_record v)) no_charge (counter_of v)
read_back decodes order l v fits =
    decodes l (counter_of v) no_charge (fitting v fits) (numbered v) (folded order.charges v)
    (order.limits.nothing_fits l)
