-- What is written of a oneof is read back: one record of the variant that stands.
use Rattle.std.proofs.Common.{◌≡◌, ℕ, refl, sym, subst}
use Rattle.wire_codec.specs.Field.{Payload, none, field}
use Rattle.wire_codec.specs.FieldNumber.{IsFieldNumber}
use Rattle.wire_codec.specs.InRange.{IsPayloadFitting, IsPayloadNumbered}
use Rattle.wire_codec.specs.Laws.{FieldsArePlain}
use Rattle.wire_codec.specs.Limits.{Charge, no_charge, nested}
use Rattle.wire_codec.specs.LimitsLaws.{ChargesAddUp}
use Rattle.wire_codec.specs.Records.{plain, plain_payload}
use Rattle.wire_fields.specs.Back.{AllAre, FoldsBack, Back}
use Rattle.wire_fields.specs.MessageBack.{EncodingBack, IsSmall}
use Rattle.wire_fields.specs.Messages.{Encoding, always_in}
use Rattle.wire_fields.specs.Presence.{always}
use Rattle.wire_fields.specs.Scalar.{ScalarType}
use Rattle.wire_fields.specs.ScalarBack.{ScalarBack}
use Rattle.wire_fields.specs.Shape.{FieldKind, Shape}

-- A kind that is always written, in one record: its payload is in range, and of it the default
-- becomes the value.
pub record AlwaysBack {V : Type 0} (k : FieldKind V) (Holds : V → Type 0) (charge_of : V → Charge)
    : Type 0 where
  pub payload : V → Payload
  pub is : (n : ℕ) (v : V) → plain (k.records n v) ≡ field n (payload v) none
  pub fitting : (v : V) → Holds v → IsPayloadFitting (payload v)
  pub numbered : (v : V) → Holds v → IsPayloadNumbered (payload v)
  pub takes : (n : ℕ) (v : V) → Holds v → k.takes k.default n (payload v) (charge_of v) v

-- a value of a scalar type
pub one_scalar : {V : Type 0} → FieldsArePlain → (t : ScalarType V) (Holds : V → Type 0)
    → ScalarBack t Holds → AlwaysBack (always t).kind Holds (λ v. no_charge)
one_scalar same t Holds h = record {
  payload = t.payload;
  is = λ n v. same.plain (field n (t.payload v) none);
  fitting = h.fitting;
  numbered = h.numbered;
  takes = λ n v holds. (refl, h.sets v holds);
}

-- a message
pub one_message : {V : Type 0} (encoding : Encoding) → EncodingBack encoding → (s : Shape V)
    (Holds : V → Type 0) (charge_of : V → Charge) (Has : ℕ → Type 0) → Back s Holds charge_of Has
    → AlwaysBack (always_in encoding s).kind (IsSmall s.records Holds) (λ v. nested (charge_of v))
one_message encoding e s Holds charge_of Has h = record {
  payload = λ v. plain_payload (encoding.payload (s.records v));
  is = λ n v. refl;
  fitting = λ v holds.
      e.fitting (s.records v) (h.back v holds.held).fitting holds.short;
  numbered = λ v holds. e.numbered (s.records v) (h.back v holds.held).numbered;
  takes = λ n v holds.
      let inner = h.back v holds.held in (
        plain (s.records v),
        charge_of v,
        e.holds (s.records v) inner.fitting inner.numbered holds.short,
        inner.folded,
        refl,
      );
}

-- the value v of a variant, as the whole value `set v` has it, where that is written as the variant
module _ {V T : Type 0} (charges : ChargesAddUp) (s : Shape V) (k : FieldKind T)
    (Holds : T → Type 0) (charge_of : T → Charge) (h : AlwaysBack k Holds charge_of) (set : T → V)
    (n : ℕ) (v : T) (same : s.records (set v) ≡ k.records n v) where
  pub variant_back : IsFieldNumber n → Holds v
      → ((c : Charge) (p : Payload) → k.takes k.default n p c v → s.takes s.default n p c (set v))
      → FoldsBack s.takes s.default (plain (s.records (set v))) (charge_of v) (set v)
  variant_back is holds into =
      subst (λ rs. FoldsBack s.takes s.default (plain rs) (charge_of v) (set v)) (sym same)
      (subst (λ fs. FoldsBack s.takes s.default fs (charge_of v) (set v)) (sym (h.is n v))
      (record {
        fitting = (h.fitting v holds, tt);
        numbered = (is, h.numbered v holds, tt);
        folded = (
          set v,
          charge_of v,
          no_charge,
          into (charge_of v) (h.payload v) (h.takes n v holds),
          (refl, refl),
          sym (charges.nothing_last (charge_of v)),
        );
      }))

  pub variant_has : (Has : ℕ → Type 0) → Has n → AllAre Has (plain (s.records (set v)))
  variant_has Has own =
      subst (λ rs. AllAre Has (plain rs)) (sym same)
      (subst (AllAre Has) (sym (h.is n v)) (own, tt))
